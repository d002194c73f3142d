-- A list that is turned, given an item in front, and turned back has the item in its midst.
use Rattle.std.proofs.Common.{◌≡◌, ℕ, ◌+◌, ◌-◌, ◌≤◌, List, ◌∷◌, ◌++◌, length, take, drop, length-drop, ap, ◌∙◌, arith}
use Rattle.std.specs.List.{insert}
use Rattle.std.proofs.Math.Seq.{take-append_seam, drop-append_seam}

module _ {T : Type 0} where
  back : (xs : List T) (place n : ℕ) (x : T) → place ≤ length xs → n ≡ length xs + 1 - place
      → drop n (x ∷ (drop place xs ++ take place xs)) ++ take n (x ∷ (drop place xs ++ take place xs)) ≡ insert xs place x
  back xs place n x within is =
      let behind : List T = x ∷ drop place xs in
      let all : List T = x ∷ (drop place xs ++ take place xs) in
      let seam : n ≡ length behind = omega (arith, length-drop place xs) in
      ap (λ (m : ℕ). drop m all ++ take m all) seam
      ∙ ap (λ (l : List T). l ++ take (length behind) all) (drop-append_seam behind (take place xs))
      ∙ ap (λ (l : List T). take place xs ++ l) (take-append_seam behind (take place xs))

  pub turned_back : (xs turned pushed whole : List T) (place n : ℕ) (x : T) → place ≤ length xs → n ≡ length xs + 1 - place
      → turned ≡ drop place xs ++ take place xs → pushed ≡ x ∷ turned → whole ≡ drop n pushed ++ take n pushed → whole ≡ insert xs place x
  turned_back xs turned pushed whole place n x within is turning pushing turning_back =
      let front : pushed ≡ x ∷ (drop place xs ++ take place xs) = pushing ∙ ap (λ (l : List T). x ∷ l) turning in
      turning_back ∙ ap (λ (l : List T). drop n l ++ take n l) front ∙ back xs place n x within is
