-- Lists of bitmaps that loops make, and what passes for a mapping.
use Rattle.std.proofs.Common.{◌≡◌, ℕ, zero, suc, ◌+◌, ◌<◌, ◌≤◌, List, [], ◌∷◌, ◌++◌, length, take, get_or, set, Option, None, Some, Bool, true, false, refl, sym, ap, ◌∙◌, arith, bit_and, eq-eqb, eqb-true, not}
use Rattle.std.specs.Prelude.{unwrap_or, zip, replicate, ◌==◌, ◌&&◌, ◌||◌, if◌then◌else◌}
use Rattle.std.specs.Int.Bits.{and_self}
use Rattle.std.proofs.lemmas.Bool.{and_parts}
use Rattle.std.proofs.lemmas.Nat.{and_assoc}
use Rattle.std.proofs.lemmas.List.{take_all, get_or-map, length-map}
use Rattle.std.proofs.lemmas.List.{take_more_set, take_more}
use Rattle.std.proofs.lemmas.Slice.Zip.{length-zip, get_or-zip}
use Rattle.wl_ttlm.specs.Mapping.{is_mapping, is_tid_set}
use Rattle.wl_ttlm.specs.declared.mapping.Mapping.{Mapping}
use Rattle.wl_map.specs.declared.agreed.Agreed.{Agreed}
use Rattle.wl_map.specs.declared.agreed.Agreed.TheVariants as agreed
use Rattle.wl_map.specs.declared.change.Change.{Change}
use Rattle.wl_map.specs.declared.change.Change.TheVariants as changes
use Rattle.wl_map.specs.Agreeing.{named, kept, has_empty, cut, of_sets, sets_of, becomes, becomes_cut, is_valid_if}

-- a store makes one more element the same
pub same_more : (xs zs : List ℕ) (i y : ℕ) → i < length xs → i < length zs → take i xs ≡ take i zs → y ≡ get_or zs i 0 → take (i + 1) (set xs i y) ≡ take (i + 1) zs
same_more xs zs i y inside within so_far is =
    take_more_set xs i y inside ∙ ap (λ (front : List ℕ). front ++ y ∷ []) so_far ∙ ap (λ (n : ℕ). take i zs ++ n ∷ []) is ∙ sym (take_more zs i 0 within)

-- all of both
pub same_all : (xs zs : List ℕ) (i : ℕ) → length xs ≤ i → length zs ≤ i → take i xs ≡ take i zs → xs ≡ zs
same_all xs zs i short low so_far = sym (take_all i xs short) ∙ so_far ∙ take_all i zs low

pub length-named : (maps : List (Option ℕ)) (sets : List ℕ) → length maps ≡ 8 → length sets ≡ 8 → length (named maps sets) ≡ 8
length-named maps sets eight same =
    let zipped = length-zip maps sets in
    let mapped = length-map (zip maps sets) (λ (tid : Option ℕ × ℕ). unwrap_or tid.0 tid.1) in
    omega (arith, zipped, mapped)

pub named_at : (maps : List (Option ℕ)) (sets : List ℕ) (i d : ℕ) (e : Option ℕ) → i < length maps → i < length sets → unwrap_or (get_or maps i e) (get_or sets i d) ≡ get_or (named maps sets) i 0
named_at maps sets i d e inside within =
    let both : i < length (zip maps sets) = omega (arith, length-zip maps sets) in
    sym (get_or-map (λ (tid : Option ℕ × ℕ). unwrap_or tid.0 tid.1) (zip maps sets) i (e, d) 0 both
    ∙ ap (λ (tid : Option ℕ × ℕ). unwrap_or tid.0 tid.1) (get_or-zip maps sets i (e, d) inside within))

pub kept_at : (links : ℕ) (sets : List ℕ) (i d : ℕ) → i < length sets → bit_and (get_or sets i d) links ≡ get_or (kept links sets) i 0
kept_at links sets i d inside = sym (get_or-map (λ (set : ℕ). bit_and set links) sets i d 0 inside)

pub length-kept : (links : ℕ) (sets : List ℕ) → length (kept links sets) ≡ length sets
length-kept links sets = length-map sets (λ (set : ℕ). bit_and set links)

-- naming no TID changes no set
pub none_named : (count : ℕ) (sets : List ℕ) → length sets ≡ count → named (replicate count None) sets ≡ sets
none_named zero [] is = refl
none_named zero (set ∷ sets) is = absurd (omega (arith, is))
none_named (suc count) [] is = refl
none_named (suc count) (set ∷ sets) is = ap (λ (rest : List ℕ). set ∷ rest) (none_named count sets (omega (arith, is)))

and_true : (b : Bool) → (b && true) ≡ b
and_true true = refl
and_true false = refl

both_not : (a b : Bool) → (not a && not b) ≡ not (a || b)
both_not true b = refl
both_not false b = refl

-- cutting twice is cutting once
pub cut_once : (links set : ℕ) → bit_and (bit_and set links) links ≡ bit_and set links
cut_once links set = and_assoc links set links ∙ ap (λ (n : ℕ). bit_and set n) (and_self links)

one_kept : (links set : ℕ) → is_tid_set links (bit_and set links) ≡ not (bit_and set links == 0)
one_kept links set = ap (λ (b : Bool). not (bit_and set links == 0) && b) (eq-eqb (bit_and (bit_and set links) links) (bit_and set links) (cut_once links set)) ∙ and_true (not (bit_and set links == 0))

-- sets that are cut are a mapping exactly where none is empty
pub kept_passes : (links : ℕ) (sets : List ℕ) → is_mapping links (kept links sets) ≡ not (has_empty (kept links sets))
kept_passes links [] = refl
kept_passes links (set ∷ sets) =
    ap (λ (b : Bool). b && is_mapping links (kept links sets)) (one_kept links set)
    ∙ ap (λ (b : Bool). not (bit_and set links == 0) && b) (kept_passes links sets)
    ∙ both_not (bit_and set links == 0) (has_empty (kept links sets))

either : (b : Bool) (x y : Agreed) → not b ≡ false → x ≡ (if b then x else y)
either true x y h = refl
either false x y h = absurd (cc)

or_else : (b : Bool) (x y : Agreed) → not b ≡ true → y ≡ (if b then x else y)
or_else true x y h = absurd (cc)
or_else false x y h = refl

pub cut_default : (links : ℕ) (sets : List ℕ) (mapping : Mapping) → mapping.sets ≡ kept links sets → is_mapping links mapping.sets ≡ false → agreed.Default ≡ cut links sets
cut_default links sets mapping is fails =
    let empty : not (has_empty (kept links sets)) ≡ false = sym (kept_passes links sets) ∙ ap (is_mapping links) (sym is) ∙ fails in
    either (has_empty (kept links sets)) agreed.Default (of_sets (kept links sets)) empty

pub cut_sets : (links : ℕ) (sets : List ℕ) (mapping : Mapping) → mapping.sets ≡ kept links sets → is_mapping links mapping.sets ≡ true → agreed.Sets mapping ≡ cut links sets
cut_sets links sets mapping is passes =
    let full : not (has_empty (kept links sets)) ≡ true = sym (kept_passes links sets) ∙ ap (is_mapping links) (sym is) ∙ passes in
    ap of_sets is ∙ or_else (has_empty (kept links sets)) agreed.Default (of_sets (kept links sets)) full

-- a mapping over the links has no others to cut
pub all_kept : (links : ℕ) (sets : List ℕ) → is_mapping links sets ≡ true → kept links sets ≡ sets
all_kept links [] valid = refl
all_kept links (set ∷ sets) valid =
    let here : bit_and set links ≡ set = eqb-true _ _ (and_parts (not (set == 0)) _ (and_parts (is_tid_set links set) _ valid).0).1 in
    let rest : kept links sets ≡ sets = all_kept links sets (and_parts (is_tid_set links set) _ valid).1 in
    ap (λ (one : ℕ). one ∷ kept links sets) here ∙ ap (λ (others : List ℕ). set ∷ others) rest

pub valid_is_cut : (links : ℕ) (sets : List ℕ) → is_mapping links sets ≡ true → cut links sets ≡ of_sets sets
valid_is_cut links sets valid =
    let same = all_kept links sets valid in
    sym (cut_sets links sets (record { sets = sets }) (sym same) valid)

-- what a valid change leads to is within the links
pub becomes_same : (links : ℕ) (before : Agreed) (change : Option Change) → is_valid_if links before change ≡ true → becomes_cut links before change ≡ becomes links before change
becomes_same links before None valid = refl
becomes_same links before (Some changes.Default) valid = refl
becomes_same links before (Some (changes.Sets maps)) valid = valid_is_cut links (named maps (sets_of links before)) valid
