-- Lists that name ends, none of them twice.
use Rattle.std.proofs.Common.{◌≡◌, ◌≤◌, Bool, true, false, if◌then◌else◌, ◌&&◌, ◌||◌, not, List, [], ◌∷◌, length, Option, Some, None, option_and_then, refl, sym, arith}
use Rattle.serde_json.specs.Data.{Data}
use Rattle.serde_json.specs.View.{view, items_view}
use Rattle.serde_json.specs.declared.value.Value.{Value}
use Rattle.wl_elem.specs.declared.lane.EndId.{EndId}
use Rattle.wl_elem.specs.declared.lane.EndId.TheVariants.{Ap, Sta}
use Rattle.wl_elem.specs.Lanes.{same_end}
use Rattle.wl_scene.specs.Members.{in_front, each_of}
use Rattle.wl_scene.specs.Head.{has_end, are_once}

twice : (x y z : EndId) (p q r : Bool) → (not (same_end y x || (same_end z x || p)) && (not (same_end z y || q) && r)) ≡ false
twice Ap Ap z p q r = refl
twice Sta Sta z p q r = refl
twice Ap Sta Ap p q r = refl
twice Sta Ap Sta p q r = refl
twice Ap Sta Sta true q r = refl
twice Ap Sta Sta false q r = refl
twice Sta Ap Ap true q r = refl
twice Sta Ap Ap false q r = refl

-- of three ends two are the same
pub not_three : (x y z : EndId) (ends : List EndId) → are_once (x ∷ y ∷ z ∷ ends) ≡ false
not_three x y z ends = twice x y z (has_end x ends) (has_end y ends) (are_once (z ∷ ends))

unless : {B : Type 0} (b : Bool) (made : B) → b ≡ false → (if b then Some made else None) ≡ None
unless true made is = absurd (cc)
unless false made is = refl

module _ {A B : Type 0} (once : List A → Bool) (make : List A → B) (few : (x y z : A) (xs : List A) → once (x ∷ y ∷ z ∷ xs) ≡ false) where
  none_of_three : (a b c : Option A) (others : Option (List A)) → option_and_then (λ xs. if once xs then Some (make xs) else None) (in_front a (in_front b (in_front c others))) ≡ None
  none_of_three None b c others = refl
  none_of_three (Some a) None c others = refl
  none_of_three (Some a) (Some b) None others = refl
  none_of_three (Some a) (Some b) (Some c) None = refl
  none_of_three (Some a) (Some b) (Some c) (Some xs) = unless (once (a ∷ b ∷ c ∷ xs)) (make (a ∷ b ∷ c ∷ xs)) (few a b c xs)

  -- a list of three elements and more is none that names each end at most once
  pub not_many : (read : Data → Option A) (values : List Value) → 3 ≤ length values → None ≡ option_and_then (λ xs. if once xs then Some (make xs) else None) (each_of read (items_view values))
  not_many read [] long = absurd (omega arith)
  not_many read (a ∷ []) long = absurd (omega arith)
  not_many read (a ∷ b ∷ []) long = absurd (omega arith)
  not_many read (a ∷ b ∷ c ∷ values) long = sym (none_of_three (read (view a)) (read (view b)) (read (view c)) (each_of read (items_view values)))
