-- Writing the mappings and their bits one after the other, as loops do.
use mir.Val.{bool_byte}
use Rattle.std.proofs.Common.{◌≡◌, ℕ, suc, ◌+◌, ◌*◌, ◌<◌, Bool, true, false, List, ◌++◌, length, take, drop, get_or, Option, refl, sym, ap, ◌∙◌, arith, length-drop}
use Rattle.std.specs.Prelude.{is_some}
use Rattle.std.proofs.lemmas.List.{flat_map_more, take_more}
use Rattle.std.proofs.Math.Seq.{drop-cons}
use Rattle.wl_elem.specs.Bits.{bit}
use Rattle.wl_elem.specs.Fields.{field}
use Rattle.wl_ttlm.specs.Ttlm.{presence, mappings}
use Rattle.wl_ttlm.proofs.Fields.{presence_below}

-- one mapping more
pub mappings_more : (width : ℕ) (maps : List (Option ℕ)) (i : ℕ) (d : Option ℕ) (before : List ℕ) → i < length maps → (before ++ mappings width (take i maps)) ++ field width (get_or maps i d) ≡ before ++ mappings width (take (i + 1) maps)
mappings_more width maps i d before lt = flat_map_more (field width) before (take i maps) (get_or maps i d) ∙ ap (λ (x : List (Option ℕ)). before ++ mappings width x) (sym (take_more maps i d lt))

-- the bits of the TIDs from this one up
pub high_bits : (maps : List (Option ℕ)) (i : ℕ) → length maps ≡ 8 → 0 < i → presence (drop i maps) < 128
high_bits maps i len some = presence_below 7 (drop i maps) (omega (arith, length-drop i maps))

-- one bit more
pub presence_more : (maps : List (Option ℕ)) (i : ℕ) (d : Option ℕ) → i < length maps → presence (drop i maps) ≡ 2 * presence (drop (i + 1) maps) + bit (is_some (get_or maps i d))
presence_more maps i d lt =
    let next : i + 1 ≡ suc i = omega arith in
    let parts : presence (drop i maps) ≡ bit (is_some (get_or maps i d)) + 2 * presence (drop (suc i) maps) = ap presence (drop-cons maps i d lt) in
    rw next (omega (arith, parts))

pub bool_bit : (b : Bool) → bool_byte b ≡ bit b
bool_bit true = refl
bool_bit false = refl
