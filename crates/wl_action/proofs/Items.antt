-- The elements one after the other.
use Rattle.std.proofs.Common.{◌≡◌, ℕ, zero, suc, ◌+◌, ◌<◌, List, [], ◌∷◌, length, take, get_or, Option, Some, ap, subst, arith, inl, inr}
use Rattle.std.specs.List.{AllByRecursion}
use Rattle.wl_elem.specs.Answers.{in_element}
use Rattle.wl_elem.specs.declared.fault.Refusal.{Refusal}
use Rattle.wl_elem.specs.Element.{ElementValue}
use Rattle.wl_action.specs.declared.code.Code.{Code}
use Rattle.wl_action.specs.Action.{IsRead, IsItemRefused, FirstRefused}
use Rattle.wl_action.specs.Reading.{ItemAs}

-- behind elements that are read
first_from : (code : Code) (list : List ElementValue) (from i n : ℕ) (d : ElementValue) (inner : Refusal) → n ≡ from + i → i < length list → AllByRecursion (IsRead code) (take i list) → IsItemRefused code (get_or list i d) inner → FirstRefused code from list (in_element n inner)
first_from code [] from i n d inner at lt before is = absurd (omega arith)
first_from code (e ∷ list) from zero n d inner at lt before is = let same : n ≡ from = omega arith in inl (inner, is, ap (λ (k : ℕ). in_element k inner) same)
first_from code (e ∷ list) from (suc i) n d inner at lt before is = inr (before.0, first_from code list (suc from) i n d inner (omega arith) (omega arith) before.1 is)

pub first_at : (code : Code) (list : List ElementValue) (i : ℕ) (d : ElementValue) (inner : Refusal) → i < length list → AllByRecursion (IsRead code) (take i list) → IsItemRefused code (get_or list i d) inner → FirstRefused code 0 list (in_element i inner)
first_at code list i d inner lt before is = first_from code list 0 i i d inner (omega arith) lt before is

pub first_some : (code : Code) (list items : List ElementValue) (i : ℕ) (e : ElementValue) (x : Option Refusal) (inner : Refusal) → items ≡ list → i < length items → e ≡ get_or items i e → AllByRecursion (IsRead code) (take i items) → ItemAs code e x → x ≡ Some inner → FirstRefused code 0 list (in_element i inner)
first_some code list items i e x inner same lt is before item some =
    let refused : IsItemRefused code e inner = subst (λ (o : Option Refusal). ItemAs code e o) some item in
    subst (λ (l : List ElementValue). FirstRefused code 0 l (in_element i inner)) same (first_at code items i e inner lt before (subst (λ (y : ElementValue). IsItemRefused code y inner) is refused))
