-- The entries of a request for mappings, and their bitmaps.
use Rattle.std.proofs.Common.{◌≡◌, ◌≢◌, ℕ, ◌+◌, ◌<◌, ◌==◌, nat_le, Bool, false, if◌then◌else◌, List, [], ◌∷◌, length, get_or, drop, Option, Some, None, eq-eqb, sym, ap, ◌∙◌, arith}
use Rattle.std.proofs.lemmas.Bool.Decides.{nat_tests}
use Rattle.std.proofs.lemmas.List.{at_drop_more, at_drop_all}
use Rattle.serde_json.specs.Events.{items_len}
use Rattle.serde_json.specs.View.{view, items_view}
use Rattle.serde_json.specs.declared.value.Value.{Value}
use Rattle.serde_json.proofs.Views.{items_len-items_view}
use Rattle.wl_scene.specs.Entries.{bitmap_of, bitmaps_of, entry_of, entries_of}
use Rattle.wl_scene.specs.Members.{in_front, each_of}

-- ---- bitmaps

abbrev pub reading : List Value → Option (List (Option ℕ))
reading values = each_of bitmap_of (items_view values)

pub none_left : (values : List Value) → length values ≡ 8 → reading (drop 8 values) ≡ Some []
none_left values eight = at_drop_all reading values 8 (omega arith)

-- one bitmap and those behind it
pub one_read : (values : List Value) (i : ℕ) (d : Value) (bits : Option ℕ) (left : List (Option ℕ)) → i < length values → d ≡ get_or values i d → Some bits ≡ bitmap_of (view d) → reading (drop (i + 1) values) ≡ Some left → reading (drop i values) ≡ Some (bits ∷ left)
one_read values i d bits left within is read so_far =
    at_drop_more reading values i d within
    ∙ ap (λ (v : Value). in_front (bitmap_of (view v)) (reading (drop (i + 1) values))) (sym is)
    ∙ ap (λ (c : Option (Option ℕ)). in_front c (reading (drop (i + 1) values))) (sym read)
    ∙ ap (in_front (Some bits)) so_far

pub all_eight : (values : List Value) (maps : List (Option ℕ)) → length values ≡ 8 → reading (drop 0 values) ≡ Some maps → Some maps ≡ bitmaps_of (items_view values)
all_eight values maps eight read =
    sym (ap (λ (b : Bool). if b then reading values else None) (eq-eqb (items_len (items_view values)) 8 (items_len-items_view values ∙ eight)) ∙ read)

pub not_eight : (values : List Value) → length values ≢ 8 → None ≡ bitmaps_of (items_view values)
not_eight values other =
    let long = items_len-items_view values in
    let test : (items_len (items_view values) == 8) ≡ false = grind (arith, nat_tests) in
    sym (ap (λ (b : Bool). if b then reading values else None) test)

-- ---- entries

pub too_many : (values : List Value) → 2 < length values → entries_of (items_view values) ≡ None
too_many values many =
    let long = items_len-items_view values in
    let test : nat_le (items_len (items_view values)) 2 ≡ false = grind (arith, nat_tests) in
    ap (λ (b : Bool). if b then each_of entry_of (items_view values) else None) test
