-- The first test that holds, in lists of tests.
use Rattle.std.proofs.Common.{◌≡◌, Bool, true, false, cond, List, [], ◌∷◌, ◌++◌, Option, Some, None, refl}
use Rattle.std.specs.List.{AllByRecursion}
use Rattle.wl_elem.specs.declared.fault.Refusal.{Refusal}
use Rattle.wl_elem.specs.Answers.{refusal_at}
use Rattle.wl_frame.specs.Refusals.{Test, first_holding}

abbrev IsFirst : Bool → Refusal → Option Refusal → Option Refusal → Type 0
IsFirst holds mine rest all = (refusal : Refusal) → cond holds (Some mine) rest ≡ Some refusal → cond holds (Some mine) all ≡ Some refusal

first_of_two : (holds : Bool) (mine : Refusal) (rest all : Option Refusal) → ((refusal : Refusal) → rest ≡ Some refusal → all ≡ Some refusal) → IsFirst holds mine rest all
first_of_two true mine rest all more refusal e = e
first_of_two false mine rest all more refusal e = more refusal e

-- the first that holds among the first tests is the first of all
pub holds_before : (a b : List Test) (refusal : Refusal) → first_holding a ≡ Some refusal → first_holding (a ++ b) ≡ Some refusal
holds_before [] b refusal e = absurd (cc)
holds_before (t ∷ a) b refusal e = first_of_two t.holds (refusal_at t.place t.why) (first_holding a) (first_holding (a ++ b)) (λ r h. holds_before a b r h) refusal e

-- where none holds, each test is false
none_of_two : (holds : Bool) (mine : Refusal) (rest : Option Refusal) → cond holds (Some mine) rest ≡ None → (holds ≡ false) × (rest ≡ None)
none_of_two true mine rest e = absurd (cc)
none_of_two false mine rest e = (refl, e)

pub all_false : (tests : List Test) → first_holding tests ≡ None → AllByRecursion (λ t. t.holds ≡ false) tests
all_false [] e = tt
all_false (t ∷ tests) e =
    let two = none_of_two t.holds (refusal_at t.place t.why) (first_holding tests) e in
    (two.0, all_false tests two.1)
