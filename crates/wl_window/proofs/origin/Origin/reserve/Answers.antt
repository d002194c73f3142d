use Rattle.std.proofs.Common.{◌≡◌, ◌+◌, Ok, Err, sym, ap, arith}
use Rattle.wl_window.specs.declared.refusal.OriginRefusal.TheVariants.{NothingQueued, WindowFull}
use Rattle.wl_window.specs.Originating.{reserved, sending_after, granted_answer}
use Rattle.wl_window.proofs.Deciding.{nothing_is, full_is, goes_is}
use Rattle.wl_window.proofs.origin.Origin.reserve.Goals as goal

nothing : (c : goal.Then-self-queued) → reserved c.args.self.now.sending c.args.queued c.args.size ≡ Err NothingQueued
nothing c = rw (← c.self.view_is) (nothing_is _ c.args.queued c.args.size c.if-self-queued.true)

pub returns-then-self-queued-clause-answer : goal.returns-then-self-queued-clause-answer
returns-then-self-queued-clause-answer c = sym (ap granted_answer (nothing c))

pub returns-then-self-queued-clause-sending : goal.returns-then-self-queued-clause-sending
returns-then-self-queued-clause-sending c = sym (ap (sending_after c.args.self.now.sending) (nothing c))

full : (c : goal.Then-self-from) → reserved c.args.self.now.sending c.args.queued c.args.size ≡ Err WindowFull
full c = rw (← c.self.view_is) (full_is _ c.args.queued c.args.size c.if-self-queued.false (omega (arith, c.from.ensures, c.if-self-from.true)))

pub returns-then-self-from-clause-answer : goal.returns-then-self-from-clause-answer
returns-then-self-from-clause-answer c = sym (ap granted_answer (full c))

pub returns-then-self-from-clause-sending : goal.returns-then-self-from-clause-sending
returns-then-self-from-clause-sending c = sym (ap (sending_after c.args.self.now.sending) (full c))

goes : (c : goal.After-self-1) → reserved c.args.self.now.sending c.args.queued c.args.size ≡ Ok (record { granted = c.self.inside.granted + 1; base = c.self.inside.base; marks = c.self.inside.marks.items })
goes c = rw (← c.self.view_is) (goes_is _ c.args.queued c.args.size c.if-self-queued.false (omega (arith, c.from.ensures, c.if-self-from.false)))

pub returns-clause-answer : goal.returns-clause-answer
returns-clause-answer c = sym (ap granted_answer (goes c))

pub returns-clause-sending : goal.returns-clause-sending
returns-clause-sending c = sym (ap (sending_after c.args.self.now.sending) (goes c))
