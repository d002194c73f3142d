use Rattle.std.proofs.Common.{◌≡◌, ◌-◌, ltb, ℕ, List, Result, Ok, Err, length, sym, ap, subst, ◌∙◌, arith, inl, inr}
use Rattle.wl_window.specs.declared.mark.Mark.{Mark}
use Rattle.wl_window.specs.declared.refusal.MoveRefusal.{MoveRefusal}
use Rattle.wl_window.specs.declared.refusal.MoveRefusal.TheVariants.{NotBooked, Behind}
use Rattle.wl_window.specs.Originating.{Sending, IsSending, given_up, has_free, finished, settled, base_answer, sending_after}
use Rattle.wl_window.proofs.Marking.{finished_length}
use Rattle.wl_window.proofs.Settling.{finished_sound}
use Rattle.wl_window.proofs.Deciding.{not_booked_is, behind_is, given_up_is}
use Rattle.wl_window.proofs.origin.Origin.advance.Goals as goal
use Rattle.wl_window.proofs.origin.Origin.advance.Goals.{then-count-len-via-then-count-len, then-count-len-via-else-count-len+then-lacks}

-- ---- a lower position isn't booked

lacks : (c : goal.Joined-then-count-len) → given_up c.args.self.now.sending c.args.to ≡ Err NotBooked
lacks c =
    let len = c.self.inside.marks.ok.0 in
    rw (← c.self.view_is) (not_booked_is _ c.args.to (elim c.then-count-len.branch [
      | then-count-len-via-then-count-len w ↦ inl (omega (arith, len, c.len.ensures, c.saturating_sub-count.ensures, w.if-count-len.true))
      | then-count-len-via-else-count-len+then-lacks w ↦ inr (ap (λ (n : ℕ). has_free n c.self.inside.marks.items) (sym c.saturating_sub-count.ensures) ∙ sym w.lacks.ensures ∙ w.if-lacks.true)
    ]))

pub returns-then-count-len-clause-answer : goal.returns-then-count-len-clause-answer
returns-then-count-len-clause-answer c = sym (ap base_answer (lacks c))

pub returns-then-count-len-clause-sending : goal.returns-then-count-len-clause-sending
returns-then-count-len-clause-sending c = sym (ap (sending_after c.args.self.now.sending) (lacks c))

-- ---- the base is there

behind : (c : goal.Then-count-eq0) → given_up c.args.self.now.sending c.args.to ≡ Err Behind
behind c =
    let len = c.self.inside.marks.ok.0 in
    let all = ap (λ (n : ℕ). has_free n c.self.inside.marks.items) (sym c.saturating_sub-count.ensures) ∙ sym c.lacks.ensures ∙ c.if-lacks.false in
    rw (← c.self.view_is) (behind_is _ c.args.to (omega (arith, len, c.len.ensures, c.saturating_sub-count.ensures, c.if-count-len.false)) all (omega (arith, c.saturating_sub-count.ensures, c.if-count-eq0.true)))

pub returns-then-count-eq0-clause-answer : goal.returns-then-count-eq0-clause-answer
returns-then-count-eq0-clause-answer c = sym (ap base_answer (behind c))

pub returns-then-count-eq0-clause-sending : goal.returns-then-count-eq0-clause-sending
returns-then-count-eq0-clause-sending c = sym (ap (sending_after c.args.self.now.sending) (behind c))

-- ---- the base moves

pub settle-self-inside-requires : goal.settle-self-inside-requires
settle-self-inside-requires c =
    let same = ap (λ (l : List Mark). length l) c.finish_below.ensures.marks in
    omega (arith, same, finished_length (λ k. ltb k c.saturating_sub-count.result) c.self.inside.marks.items, c.self.invariant.top_limit)

moved : (c : goal.After-self-1) → given_up c.args.self.now.sending c.args.to ≡ Ok (settled c.self.inside.granted c.self.inside.base (finished (λ k. ltb k (c.args.to - c.self.inside.base)) c.self.inside.marks.items))
moved c =
    let len = c.self.inside.marks.ok.0 in
    let all = ap (λ (n : ℕ). has_free n c.self.inside.marks.items) (sym c.saturating_sub-count.ensures) ∙ sym c.lacks.ensures ∙ c.if-lacks.false in
    rw (← c.self.view_is) (given_up_is _ c.args.to (omega (arith, len, c.len.ensures, c.saturating_sub-count.ensures, c.if-count-len.false)) all (omega (arith, c.saturating_sub-count.ensures, c.if-count-eq0.false)))

settled_is : (c : goal.After-self-1) → (let s : Sending = record { granted = c.self.inside.granted; base = c.settle-self-inside.result; marks = c.settle-self-inside.new.marks.items } in s) ≡ settled c.self.inside.granted c.self.inside.base (finished (λ k. ltb k (c.args.to - c.self.inside.base)) c.self.inside.marks.items)
settled_is c =
    sym (c.settle-self-inside.ensures.settled c.self.inside.granted) ∙ ap (settled c.self.inside.granted c.self.inside.base) c.finish_below.ensures.marks
    ∙ ap (λ (n : ℕ). settled c.self.inside.granted c.self.inside.base (finished (λ k. ltb k n) c.self.inside.marks.items)) c.saturating_sub-count.ensures

pub invariant_of-self : goal.invariant_of-self
invariant_of-self c =
    subst (λ (s : Sending). IsSending s) (sym (settled_is c))
    (finished_sound (record { granted = c.self.inside.granted; base = c.self.inside.base; marks = c.self.inside.marks.items }) (λ k. ltb k (c.args.to - c.self.inside.base)) c.self.invariant)

pub returns-clause-answer : goal.returns-clause-answer
returns-clause-answer c = ap (λ (s : Sending). let r : Result ℕ MoveRefusal = Ok s.base in r) (settled_is c) ∙ sym (ap base_answer (moved c))

pub returns-clause-sending : goal.returns-clause-sending
returns-clause-sending c = settled_is c ∙ sym (ap (sending_after c.args.self.now.sending) (moved c))
