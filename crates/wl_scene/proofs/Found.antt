-- What stands behind a value that was found.
use Rattle.std.proofs.Common.{◌≡◌, ℕ, ◌≤◌, ◌<◌, nat_le, nat_lt, suc, Bool, true, false, if◌then◌else◌, List, [], ◌∷◌, length, Option, Some, None, option_map, option_and_then, refl, sym, ap, ◌∙◌, subst, arith}
use Rattle.std.proofs.lemmas.Bool.Decides.{nat_tests}
use Rattle.serde_json.specs.Data.{Data, Items, no_items, item}
use Rattle.serde_json.specs.Events.{items_len}
use Rattle.wl_scene.specs.Members.{◌>>=◌, below, in_front, each_of}

pub never : {A : Type 0} (p : A) (P : Type 0) → None ≡ Some p → P
never p P same = cc

pub either : {A : Type 0} (b : Bool) (x y : Option A) (p : A) (P : Type 0) → (x ≡ Some p → P) → (y ≡ Some p → P) → (if b then x else y) ≡ Some p → P
either true x y p P here there = here
either false x y p P here there = there

pub mapped : {A B : Type 0} (f : A → B) (x : Option A) (p : B) (P : Type 0) → ((a : A) → x ≡ Some a → f a ≡ p → P) → option_map f x ≡ Some p → P
mapped f None p P each same = never p P same
mapped f (Some a) p P each same = each a refl (cc)

pub followed : {A B : Type 0} (f : A → Option B) (x : Option A) (p : B) (P : Type 0) → ((a : A) → f a ≡ Some p → P) → option_and_then f x ≡ Some p → P
followed f None p P each same = never p P same
followed f (Some a) p P each same = each a same

pub next : {A B : Type 0} (x : Option A) (f : A → Option B) (p : B) (P : Type 0) → ((a : A) → x ≡ Some a → f a ≡ Some p → P) → (x >>= f) ≡ Some p → P
next None f p P each same = never p P same
next (Some a) f p P each same = each a refl same

-- what passed a test
pub passed : {A : Type 0} (P : A → Type 0) (b : Bool) (x p : A) → (b ≡ true → P x) → (if b then Some x else None) ≡ Some p → P p
passed P true x p holds same = let is : x ≡ p = cc in subst P is (holds refl)
passed P false x p holds same = never p (P p) same

-- ---- numbers

pub tells : (a b : ℕ) → nat_le a b ≡ true → a ≤ b
tells a b h = grind (arith, nat_tests)

tells_less : (a b : ℕ) → nat_lt a b ≡ true → a < b
tells_less a b h = grind (arith, nat_tests)

pub below_fits : (bound : ℕ) (x : Option ℕ) (found : ℕ) → option_and_then (below bound) x ≡ Some found → found < bound
below_fits bound x found = followed (below bound) x found (found < bound) (λ n. passed (λ (m : ℕ). m < bound) (nat_lt n bound) n found (tells_less n bound))

-- ---- lists

one_longer : {A : Type 0} (x : Option A) (r : Option (List A)) (count : ℕ) (found : List A) → ((left : List A) → r ≡ Some left → length left ≡ count) → in_front x r ≡ Some found → length found ≡ suc count
one_longer (Some x) (Some left) count found each same = let is : x ∷ left ≡ found = cc in sym (ap length is) ∙ ap suc (each left refl)
one_longer (Some x) None count found each same = never found (length found ≡ suc count) same
one_longer None r count found each same = never found (length found ≡ suc count) same

-- as many as were read were found
pub each_length : {A : Type 0} (read : Data → Option A) (ds : Items) (found : List A) → each_of read ds ≡ Some found → length found ≡ items_len ds
each_length read no_items found same = let is : found ≡ [] = cc in ap length is
each_length read (item d ds) found same = one_longer (read d) (each_of read ds) (items_len ds) found (λ left is. each_length read ds left is) same
