-- What one end answers and leaves, as the answer to its command and what that leaves.
use Rattle.std.proofs.Common.{◌≡◌, ℕ, Result, Ok, Err, sym, ap, subst, ◌∙◌}
use Rattle.std.specs.Prelude.{IfOk}
use Rattle.wl_elem.specs.declared.lane.EndId.{EndId}
use Rattle.wl_frame.specs.Sealing.{Sealing}
use Rattle.wl_history.specs.declared.command.Command.{Command}
use Rattle.wl_history.specs.declared.opened.Opened.{Opened}
use Rattle.wl_history.specs.declared.outcome.Outcome.{Outcome}
use Rattle.wl_history.specs.AirState.{AirState, end_of, with_end, after}
use Rattle.wl_history.specs.EndState.{EndState}
use Rattle.wl_history.specs.Legal.{IsAnswer, Forges}
use Rattle.wl_air.specs.Air.{KnowsPeer}

module _ {T E F : Type 0} (text : Sealing) (thread : ℕ) (a : AirState) (first : T → Outcome) (command at : Command) (done : Result Outcome E) where
  pub said : (r : Result T F) → command ≡ at → IfOk r (λ o. done ≡ Ok (first o)) → IfOk done (λ o. IsAnswer text thread at a o) → IfOk r (λ o. KnowsPeer command a → IsAnswer text thread command a (first o))
  said (Ok o) is one h = λ join. subst (λ (x : Command). IsAnswer text thread x a (first o)) (sym is) (subst (λ (d : Result Outcome E). IfOk d (λ p. IsAnswer text thread at a p)) one h)
  said (Err f) is one h = tt

  pub left : (a' : AirState) (r : Result T F) → command ≡ at → IfOk r (λ o. done ≡ Ok (first o)) → IfOk done (λ o. a' ≡ after text thread at o a) → IfOk r (λ o. a' ≡ after text thread command (first o) a)
  left a' (Ok o) is one h = subst (λ (x : Command). a' ≡ after text thread x (first o) a) (sym is) (subst (λ (d : Result Outcome E). IfOk d (λ p. a' ≡ after text thread at p a)) one h)
  left a' (Err f) is one h = tt

-- what is heard isn't forged
pub unforged_if : {T E : Type 0} (text : Sealing) (a : AirState) (command at : Command) (r : Result T E) → command ≡ at → IfOk r (λ o. KnowsPeer at a → (opened : Opened) → Forges text at a opened → ⊥)
    → IfOk r (λ o. KnowsPeer command a → (opened : Opened) → Forges text command a opened → ⊥)
unforged_if text a command at r is h = subst (λ (x : Command). IfOk r (λ o. KnowsPeer x a → (opened : Opened) → Forges text x a opened → ⊥)) (sym is) h

-- an end that was lent, and is put back
module _ {E : Type 0} (end : EndId) (a : AirState) (s new : EndState) (lent : s ≡ end_of a end) where
  pub own_answer : (Answer : EndState → Outcome) (r : Result Outcome E) → IfOk r (λ o. o ≡ Answer s) → IfOk r (λ o. o ≡ Answer (end_of a end))
  own_answer Answer (Ok o) h = h ∙ ap Answer lent
  own_answer Answer (Err f) h = tt

  pub own_after : (After : Outcome → EndState → EndState) (r : Result Outcome E) → IfOk r (λ o. new ≡ After o s) → IfOk r (λ o. with_end end new a ≡ with_end end (After o (end_of a end)) a)
  own_after After (Ok o) h = ap (λ (x : EndState). with_end end x a) (h ∙ ap (After o) lent)
  own_after After (Err f) h = tt
