use Rattle.std.proofs.Common.{ℕ, length, ap, sym, ◌∙◌}
use Rattle.wl_elem.specs.Lanes.{lane_index}
use Rattle.wl_history.specs.declared.command.Command.TheVariants as commands
use Rattle.wl_history.specs.declared.outcome.Outcome.TheVariants as outcomes
use Rattle.wl_history.specs.Answers.{reserve_answer, book_answer, put_of, aired_octets, booked_at, again_of, octets_again}
use Rattle.wl_history.specs.EndState.{lane_at, after_queue, after_reserve, after_book, after_put, after_again}
use Rattle.wl_history.specs.Ends.{send_size}
use Rattle.wl_history.specs.Hands.{hand_of}
use Rattle.wl_air.proofs.Doing.{said, left, unforged_if, own_answer, own_after}
use Rattle.wl_air.proofs.air.Air.act.Goals as goal

pub returns-in-Queue-clause-answer : goal.returns-in-Queue-clause-answer
returns-in-Queue-clause-answer g c =
    said (g.Z.Sealer.text c.args.z.now) c.args.thread c.args.self.now (λ o. o.0) c.args.command.now _ c.queue.result c.both.result c.in-Queue.is c.both.ensures.one
    (own_answer c.in-Queue.end c.args.self.now c.end_mut.result.now c.queue.new.end c.end_mut.ensures.value (λ s. outcomes.Queued (length (lane_at s c.in-Queue.tid).queue)) c.queue.result c.queue.ensures.answer)

pub returns-in-Queue-clause-after : goal.returns-in-Queue-clause-after
returns-in-Queue-clause-after g c =
    left (g.Z.Sealer.text c.args.z.now) c.args.thread c.args.self.now (λ o. o.0) c.args.command.now _ c.queue.result _ c.both.result c.in-Queue.is c.both.ensures.one
    (own_after c.in-Queue.end c.args.self.now c.end_mut.result.now c.queue.new.end c.end_mut.ensures.value (λ o s. after_queue c.in-Queue.tid c.in-Queue.body s) c.queue.result c.queue.ensures.after)

pub returns-in-Reserve-clause-answer : goal.returns-in-Reserve-clause-answer
returns-in-Reserve-clause-answer g c =
    said (g.Z.Sealer.text c.args.z.now) c.args.thread c.args.self.now (λ o. o.0) c.args.command.now _ c.reserve.result c.both-in-Reserve.result c.in-Reserve.is c.both-in-Reserve.ensures.one
    (own_answer c.in-Reserve.end c.args.self.now c.end_mut-in-Reserve.result.now c.reserve.new.self c.end_mut-in-Reserve.ensures.value (λ s. reserve_answer (hand_of s.hands c.args.thread) (length (lane_at s (lane_index c.in-Reserve.lane)).queue) (lane_at s (lane_index c.in-Reserve.lane)).sending (send_size s.setup (lane_index c.in-Reserve.lane))) c.reserve.result c.reserve.ensures.answer)

pub returns-in-Reserve-clause-after : goal.returns-in-Reserve-clause-after
returns-in-Reserve-clause-after g c =
    left (g.Z.Sealer.text c.args.z.now) c.args.thread c.args.self.now (λ o. o.0) c.args.command.now _ c.reserve.result _ c.both-in-Reserve.result c.in-Reserve.is c.both-in-Reserve.ensures.one
    (own_after c.in-Reserve.end c.args.self.now c.end_mut-in-Reserve.result.now c.reserve.new.self c.end_mut-in-Reserve.ensures.value (λ o s. after_reserve c.args.thread c.in-Reserve.lane o s) c.reserve.result c.reserve.ensures.after)

pub returns-in-Book-clause-answer : goal.returns-in-Book-clause-answer
returns-in-Book-clause-answer g c =
    said (g.Z.Sealer.text c.args.z.now) c.args.thread c.args.self.now (λ o. o.0) c.args.command.now _ c.book.result c.both-in-Book.result c.in-Book.is c.both-in-Book.ensures.one
    (own_answer c.in-Book.end c.args.self.now c.end_mut-in-Book.result.now c.book.new.self c.end_mut-in-Book.ensures.value (λ s. book_answer (hand_of s.hands c.args.thread) s.numbers) c.book.result c.book.ensures.answer)

pub returns-in-Book-clause-after : goal.returns-in-Book-clause-after
returns-in-Book-clause-after g c =
    left (g.Z.Sealer.text c.args.z.now) c.args.thread c.args.self.now (λ o. o.0) c.args.command.now _ c.book.result _ c.both-in-Book.result c.in-Book.is c.both-in-Book.ensures.one
    (own_after c.in-Book.end c.args.self.now c.end_mut-in-Book.result.now c.book.new.self c.end_mut-in-Book.ensures.value (λ o s. after_book c.args.thread o s) c.book.result c.book.ensures.after)

pub returns-in-Put-clause-answer : goal.returns-in-Put-clause-answer
returns-in-Put-clause-answer g c =
    said (g.Z.Sealer.text c.args.z.now) c.args.thread c.args.self.now (λ o. o.0) c.args.command.now _ c.put.result c.both-in-Put.result c.in-Put.is c.both-in-Put.ensures.one
    (own_answer c.in-Put.end c.args.self.now c.end_mut-in-Put.result.now c.put.new.self c.end_mut-in-Put.ensures.value (λ s. put_of c.in-Put.link (hand_of s.hands c.args.thread) s) c.put.result c.put.ensures.answer)

pub returns-in-Put-clause-after : goal.returns-in-Put-clause-after
returns-in-Put-clause-after g c =
    left (g.Z.Sealer.text c.args.z.now) c.args.thread c.args.self.now (λ o. o.0) c.args.command.now _ c.put.result _ c.both-in-Put.result c.in-Put.is c.both-in-Put.ensures.one
    (own_after c.in-Put.end c.args.self.now c.end_mut-in-Put.result.now c.put.new.self c.end_mut-in-Put.ensures.value (λ o s. after_put c.args.thread c.in-Put.link (aired_octets (g.Z.Sealer.text c.args.z.now) c.in-Put.link (hand_of s.hands c.args.thread) s) o s) c.put.result c.put.ensures.after)

pub returns-in-Again-clause-answer : goal.returns-in-Again-clause-answer
returns-in-Again-clause-answer g c =
    said (g.Z.Sealer.text c.args.z.now) c.args.thread c.args.self.now (λ o. o.0) c.args.command.now _ c.again.result c.both-in-Again.result c.in-Again.is c.both-in-Again.ensures.one
    (own_answer c.in-Again.end c.args.self.now c.end_mut-in-Again.result.now c.again.new.self c.end_mut-in-Again.ensures.value (λ s. again_of c.in-Again.link c.in-Again.lane (booked_at s c.in-Again.lane c.in-Again.pos) s) c.again.result c.again.ensures.answer)

pub returns-in-Again-clause-after : goal.returns-in-Again-clause-after
returns-in-Again-clause-after g c =
    left (g.Z.Sealer.text c.args.z.now) c.args.thread c.args.self.now (λ o. o.0) c.args.command.now _ c.again.result _ c.both-in-Again.result c.in-Again.is c.both-in-Again.ensures.one
    (own_after c.in-Again.end c.args.self.now c.end_mut-in-Again.result.now c.again.new.self c.end_mut-in-Again.ensures.value
    (λ o s. after_again c.in-Again.link c.in-Again.lane (octets_again (g.Z.Sealer.text c.args.z.now) c.in-Again.link c.in-Again.lane (booked_at s c.in-Again.lane c.in-Again.pos) s) o s) c.again.result c.again.ensures.after)

pub returns-in-Forge-clause-unforged : goal.returns-in-Forge-clause-unforged
returns-in-Forge-clause-unforged g c =
    let made = λ (number : ℕ). commands.Forge c.in-Forge.end c.in-Forge.link c.in-Forge.lane c.in-Forge.key c.in-Forge.pn number c.in-Forge.body in
    unforged_if (g.Z.Sealer.text c.args.z.now) c.args.self.now c.args.command.now (made c.from.result) c.forge.result (c.in-Forge.is ∙ ap made (sym c.from.ensures)) c.forge.ensures.unforged

pub returns-in-Inject-clause-unforged : goal.returns-in-Inject-clause-unforged
returns-in-Inject-clause-unforged g c =
    unforged_if (g.Z.Sealer.text c.args.z.now) c.args.self.now c.args.command.now (commands.Inject c.in-Inject.end c.in-Inject.link c.as_slice.result.now) c.hear.result (c.in-Inject.is ∙ ap (commands.Inject c.in-Inject.end c.in-Inject.link) (sym c.as_slice.ensures)) c.hear.ensures.unforged
