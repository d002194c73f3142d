use Rattle.std.proofs.Common.{arith, ◌≡◌, ℕ, ◌/◌, ◌∷◌, [], ◌++◌, List, get_or, refl, ap, ◌∙◌}
use Rattle.wl_frame.specs.Nonce.{highest_first}
use Rattle.wl_frame.proofs.Places.{cells, six}
use Rattle.wl_frame.proofs.nonce.nonce_of.Goals as goal

laid : (flags f : ℕ) (x a bytes tail : List ℕ) → flags ≡ f → cells 6 0 x ≡ a → bytes ≡ tail → flags ∷ (cells 6 0 x ++ bytes) ≡ f ∷ (a ++ tail)
laid flags f x a bytes tail h i j = rw (h, j) (ap (λ (y : List ℕ). f ∷ (y ++ tail)) i)

two : (n : ℕ) → n / 65536 ≡ n / 256 / 256
two n = omega arith

three : (n : ℕ) → n / 16777216 ≡ n / 256 / 256 / 256
three n = omega arith

four : (n : ℕ) → n / 4294967296 ≡ n / 256 / 256 / 256 / 256
four n = omega arith

five : (n : ℕ) → n / 1099511627776 ≡ n / 256 / 256 / 256 / 256 / 256
five n = omega arith

pub returns-clause-value : goal.returns-clause-value
returns-clause-value c =
    let b = c.to_le_bytes.ensures in
    let last : get_or c.to_le_bytes.result 5 0 ∷ get_or c.to_le_bytes.result 4 0 ∷ get_or c.to_le_bytes.result 3 0 ∷ get_or c.to_le_bytes.result 2 0 ∷ get_or c.to_le_bytes.result 1 0 ∷ get_or c.to_le_bytes.result 0 0 ∷ [] ≡ highest_first 6 c.args.pn = rw (b, two c.args.pn, three c.args.pn, four c.args.pn, five c.args.pn) refl in
    laid c.nonce_flags-flags.result _ c.octets-a.result c.args.a2 _ (highest_first 6 c.args.pn) c.nonce_flags-flags.ensures (six c.octets-a.result c.octets-a.ensures.six ∙ c.octets-a.ensures.value) last
