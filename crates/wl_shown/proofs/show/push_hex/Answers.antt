use Rattle.std.proofs.Common.{◌≡◌, ◌++◌, ℕ, List, [], length, true, nat_eq, eqb-true, sym, ap, ◌∙◌, arith}
use Rattle.std.proofs.lemmas.List.{append-nil, nil_from_length}
use Rattle.std.specs.String.{string_bytes}
use Rattle.hex.specs.Hex.{encode_lower, lower_digits}
use Rattle.hex.proofs.HexLemmas.{length-encode_with}
use Rattle.wl_shown.proofs.show.push_hex.Goals as goal

-- no octets have no digits
pub returns-then-is_empty : goal.returns-then-is_empty
returns-then-is_empty c =
    let empty : nat_eq (length c.args.octets.now) 0 ≡ true = cc in
    let len : length c.args.octets.now ≡ 0 = eqb-true _ _ empty in
    let none : encode_lower c.args.octets.now ≡ [] = nil_from_length (encode_lower c.args.octets.now) (omega (arith, len, length-encode_with lower_digits c.args.octets.now)) in
    sym (ap (λ (x : List ℕ). string_bytes c.args.out.now ++ x) none ∙ append-nil (string_bytes c.args.out.now))
