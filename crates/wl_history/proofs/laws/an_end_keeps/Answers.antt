use Rattle.wl_history.proofs.Keeping.{queue_kept, reserve_kept, given_back, booked_so, puts_down, framed_kept, stored_kept, told_kept, message_kept, hear_kept, ack_kept, given_kept, moved_kept, made_kept, turn_kept}
use Rattle.std.proofs.Common.{refl, Some}
use Rattle.wl_history.specs.Machines.{installed, switched, map_ask_answer, map_asked, map_torn, given}
use Rattle.wl_history.proofs.Making.{installed_made, switched_made, asked_made, torn_made, given_made}
use Rattle.wl_history.proofs.Sound.{started_end}
use Rattle.wl_history.proofs.laws.an_end_keeps.Goals as goal

pub returns-clause-queue : goal.returns-clause-queue
returns-clause-queue c = λ s l body is short ne. queue_kept s l body is short (λ e. absurd (ne e))

pub returns-clause-message : goal.returns-clause-message
returns-clause-message c = λ s m is good. message_kept c.laws_below.ensures.messages (Some m) s is good

pub returns-clause-reserve : goal.returns-clause-reserve
returns-clause-reserve c = reserve_kept

pub returns-clause-give_back : goal.returns-clause-give_back
returns-clause-give_back c = given_back

pub returns-clause-book : goal.returns-clause-book
returns-clause-book c = booked_so c.laws_below.ensures.numbers c.laws_below.ensures.windows

pub returns-clause-put_down : goal.returns-clause-put_down
returns-clause-put_down c = puts_down

pub returns-clause-frame : goal.returns-clause-frame
returns-clause-frame c = framed_kept

pub returns-clause-give_up : goal.returns-clause-give_up
returns-clause-give_up c = given_kept c.laws_below.ensures.windows

pub returns-clause-pass : goal.returns-clause-pass
returns-clause-pass c = moved_kept

pub returns-clause-hear : goal.returns-clause-hear
returns-clause-hear c = hear_kept c.laws_below.ensures.messages

pub returns-clause-store : goal.returns-clause-store
returns-clause-store c = stored_kept

pub returns-clause-tell : goal.returns-clause-tell
returns-clause-tell c = told_kept c.laws_below.ensures.messages

pub returns-clause-ack : goal.returns-clause-ack
returns-clause-ack c = ack_kept c.laws_below.ensures.windows

pub returns-clause-install : goal.returns-clause-install
returns-clause-install c = λ o s is. made_kept c.laws_below.ensures.messages s (installed o s.setup) is (installed_made o s.setup is.token_fits)

pub returns-clause-power : goal.returns-clause-power
returns-clause-power c = λ link on s is. made_kept c.laws_below.ensures.messages s (switched link on s.setup) is (switched_made link on s.setup is.token_fits)

pub returns-clause-map_ask : goal.returns-clause-map_ask
returns-clause-map_ask c = λ entries s is good. made_kept c.laws_below.ensures.messages s (map_asked entries (map_ask_answer entries s.setup) s.setup) is (asked_made entries (map_ask_answer entries s.setup) s.setup good refl is.token_fits)

pub returns-clause-map_teardown : goal.returns-clause-map_teardown
returns-clause-map_teardown c = λ o s is. made_kept c.laws_below.ensures.messages s (map_torn o s.setup) is (torn_made o s.setup is.token_fits)

pub returns-clause-machine_given : goal.returns-clause-machine_given
returns-clause-machine_given c = λ what o s is. made_kept c.laws_below.ensures.messages s (given what o s.setup) is (given_made what o s.setup is.token_fits)

pub returns-clause-turn : goal.returns-clause-turn
returns-clause-turn c = λ o s. turn_kept s o

pub returns-clause-start : goal.returns-clause-start
returns-clause-start c = started_end
