-- Reading subelements one after the other, up to the first that is refused.
use Rattle.std.proofs.Common.{◌≡◌, ℕ, suc, ◌<◌, Bool, List, ◌∷◌, length, drop, get_or, Option, Some, Err, sym, ap, subst, ◌∙◌}
use Rattle.std.specs.Prelude.{map}
use Rattle.std.proofs.Math.Seq.{drop-cons}
use Rattle.wl_elem.specs.declared.fault.Refusal.{Refusal}
use Rattle.wl_elem.specs.declared.fault.Fault.{Fault}
use Rattle.wl_elem.specs.declared.fault.Fault.TheVariants as faults
use Rattle.wl_elem.specs.Answers.{in_sub, with_refusal}
use Rattle.wl_elem.specs.declared.item.Item.{Item}
use Rattle.wl_mle.specs.MultiLink.{sub_fault, first_refused, subs_refusal}
use Rattle.wl_mle.specs.Reading.{Reads}

-- the subelement at an index, and those behind it
at_index : (slots : ℕ → List (Bool × ℕ)) (list : List Item) (i : ℕ) (s : Item) → i < length list → s ≡ get_or list i s
    → subs_refusal slots i (drop i list) ≡ first_refused i (sub_fault slots s) (subs_refusal slots (suc i) (drop (suc i) list))
at_index slots list i s lt is = ap (subs_refusal slots i) (drop-cons list i s lt ∙ ap (λ (x : Item). x ∷ drop (suc i) list) (sym is))

-- it is refused
pub refused_here : {V : Type 0} (slots : ℕ → List (Bool × ℕ)) (from : Item → V) (list : List Item) (i : ℕ) (s : Item) (fault answer : Fault) → i < length list → s ≡ get_or list i s
    → subs_refusal slots i (drop i list) ≡ subs_refusal slots 0 list → Reads (sub_fault slots s) (from s) (Err fault) → answer ≡ with_refusal (in_sub i) fault → Reads (subs_refusal slots 0 list) (map from list) (Err answer)
refused_here slots from list i s (faults.Refused refusal) answer lt is so_far h same =
    let others = subs_refusal slots (suc i) (drop (suc i) list) in
    let here : subs_refusal slots 0 list ≡ Some (in_sub i refusal) = sym so_far ∙ at_index slots list i s lt is ∙ ap (λ (f : Option Refusal). first_refused i f others) h in
    subst (λ (f : Fault). Reads (subs_refusal slots 0 list) (map from list) (Err f)) (sym same) here
refused_here slots from list i s faults.Memory answer lt is so_far h same = subst (λ (f : Fault). Reads (subs_refusal slots 0 list) (map from list) (Err f)) (sym same) tt
