use Rattle.std.proofs.Common.{◌≡◌, ◌+◌, ltb, ℕ, List, Some, None, length, sym, ap, subst, ◌∙◌, arith}
use Rattle.wl_window.specs.declared.mark.Mark.{Mark}
use Rattle.wl_window.specs.Numbering.{distance}
use Rattle.wl_window.specs.Originating.{Sending, IsSending, acked, acknowledges, names, finished, newly, settled, newly_answer, sending_acked}
use Rattle.wl_window.proofs.Marking.{finished_length, newly_limit}
use Rattle.wl_window.proofs.Settling.{finished_sound}
use Rattle.wl_window.proofs.Deciding.{old_is, acked_is, acked_as, two_steps, two_counts}
use Rattle.wl_window.proofs.origin.Origin.ack.Goals as goal
use Rattle.wl_window.proofs.origin.Origin.ack.Goals.{After-finish_named-named}

old : (c : goal.Then-ahead-len) → acked c.args.self.now.sending c.args.start c.args.stored.now ≡ None
old c = let len = c.self.inside.marks.ok.0 in rw (← c.self.view_is) (old_is _ c.args.start c.args.stored.now (omega (arith, len, c.if-ahead-len.true, c.len.ensures, c.distance_to.ensures.value)))

pub returns-then-ahead-len-clause-answer : goal.returns-then-ahead-len-clause-answer
returns-then-ahead-len-clause-answer c = sym (ap newly_answer (old c))

pub returns-then-ahead-len-clause-sending : goal.returns-then-ahead-len-clause-sending
returns-then-ahead-len-clause-sending c = sym (ap (sending_acked c.args.self.now.sending) (old c))

pub finish_named-named-requires : goal.finish_named-named-requires
finish_named-named-requires c =
    let same = ap (λ (l : List Mark). length l) c.finish_below-below.ensures.marks in
    omega (arith, same, finished_length (λ k. ltb k c.from-ahead.result) c.self.inside.marks.items, c.self.invariant.top_limit)

-- what the ack makes done
abbrev made : After-finish_named-named → List Mark
made c = finished (acknowledges c.self.inside.base (distance c.self.inside.base c.args.start) c.args.stored.now) c.self.inside.marks.items

ahead_is : (c : After-finish_named-named) → c.from-ahead.result ≡ distance c.self.inside.base c.args.start
ahead_is c = c.from-ahead.ensures ∙ c.distance_to.ensures.value

marks_are : (c : After-finish_named-named) → c.finish_named-named.new.marks.items ≡ made c
marks_are c =
    c.finish_named-named.ensures.marks ∙ ap (finished (names c.self.inside.base c.args.stored.now)) c.finish_below-below.ensures.marks
    ∙ two_steps (record { granted = c.self.inside.granted; base = c.self.inside.base; marks = c.self.inside.marks.items }) c.from-ahead.result c.args.stored.now
    ∙ ap (λ (n : ℕ). finished (acknowledges c.self.inside.base n c.args.stored.now) c.self.inside.marks.items) (ahead_is c)

count_is : (c : After-finish_named-named) → c.finish_below-below.result + c.finish_named-named.result ≡ newly (acknowledges c.self.inside.base (distance c.self.inside.base c.args.start) c.args.stored.now) c.self.inside.marks.items
count_is c =
    let named = c.finish_named-named.ensures.newly ∙ ap (newly (names c.self.inside.base c.args.stored.now)) c.finish_below-below.ensures.marks in
    let both = two_counts (record { granted = c.self.inside.granted; base = c.self.inside.base; marks = c.self.inside.marks.items }) c.from-ahead.result c.args.stored.now in
    let same = ap (λ (n : ℕ). newly (acknowledges c.self.inside.base n c.args.stored.now) c.self.inside.marks.items) (ahead_is c) in
    omega (arith, named, both, same, c.finish_below-below.ensures.newly)

pub settle-self-inside-requires : goal.settle-self-inside-requires
settle-self-inside-requires c =
    let same = ap (λ (l : List Mark). length l) (marks_are (goal.at.settle-self-inside-requires c).After-finish_named-named) in
    omega (arith, same, finished_length (acknowledges c.self.inside.base (distance c.self.inside.base c.args.start) c.args.stored.now) c.self.inside.marks.items, c.self.invariant.top_limit)

pub overflow_add-result : goal.overflow_add-result
overflow_add-result c =
    let limit = newly_limit (acknowledges c.self.inside.base (distance c.self.inside.base c.args.start) c.args.stored.now) c.self.inside.marks.items in
    omega (arith, count_is (goal.at.overflow_add-result c).After-finish_named-named, limit, c.self.invariant.top_limit)

settled_is : (c : goal.After-self-1) → (let s : Sending = record { granted = c.self.inside.granted; base = c.settle-self-inside.result; marks = c.settle-self-inside.new.marks.items } in s) ≡ settled c.self.inside.granted c.self.inside.base (made (goal.at.invariant_of-self c).After-finish_named-named)
settled_is c = sym (c.settle-self-inside.ensures.settled c.self.inside.granted) ∙ ap (settled c.self.inside.granted c.self.inside.base) (marks_are (goal.at.invariant_of-self c).After-finish_named-named)

acked_so : (c : goal.After-self-1) → acked c.args.self.now.sending c.args.start c.args.stored.now ≡ Some (acked_as (record { granted = c.self.inside.granted; base = c.self.inside.base; marks = c.self.inside.marks.items }) (distance c.self.inside.base c.args.start) c.args.stored.now)
acked_so c = let len = c.self.inside.marks.ok.0 in rw (← c.self.view_is) (acked_is _ c.args.start c.args.stored.now (omega (arith, len, c.if-ahead-len.false, c.len.ensures, c.from-ahead.ensures, c.distance_to.ensures.value)))

pub invariant_of-self : goal.invariant_of-self
invariant_of-self c =
    subst (λ (s : Sending). IsSending s) (sym (settled_is c))
    (finished_sound (record { granted = c.self.inside.granted; base = c.self.inside.base; marks = c.self.inside.marks.items }) (acknowledges c.self.inside.base (distance c.self.inside.base c.args.start) c.args.stored.now) c.self.invariant)

pub returns-clause-answer : goal.returns-clause-answer
returns-clause-answer c = ap (λ (n : ℕ). Some n) (count_is (goal.at.returns-clause-answer c).After-finish_named-named) ∙ sym (ap newly_answer (acked_so c))

pub returns-clause-sending : goal.returns-clause-sending
returns-clause-sending c = settled_is c ∙ sym (ap (sending_acked c.args.self.now.sending) (acked_so c))
