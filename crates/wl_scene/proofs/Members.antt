-- Members that are put in.
use Rattle.std.proofs.Common.{◌≡◌, ℕ, Bool, false, ◌||◌, List, [], ◌∷◌, ◌++◌, Ordering, Less, Equal, Greater, Result, Ok, Err, String, Global, refl, ap, ◌∙◌}
use Rattle.std.proofs.lemmas.Bool.{or_parts}
use Rattle.std.specs.Prelude.{OnOk, OnErr}
use Rattle.std.specs.Ordering.{nat_cmp, match_ordering}
use Rattle.std.specs.Cmp.Lexicographic.{slice_cmp}
use Rattle.serde_json.specs.Data.{Data, Members, no_members, member, put}
use Rattle.serde_json.specs.View.{members_view}
use Rattle.serde_json.specs.Written.{has_float, members_have_float}
use Rattle.serde_json.specs.declared.value.Value.{Value}
use Rattle.wl_scene.specs.Objects.{Named, with_members}

-- some members, and then others
pub merged : (ms ns : List Named) (found : Members) → with_members (ms ++ ns) found ≡ with_members ns (with_members ms found)
merged [] ns found = refl
merged (m ∷ ms) ns found = merged ms ns (put m.0 m.1 found)

both : (a b : Bool) → a ≡ false → b ≡ false → (a || b) ≡ false
both a b first second = rw (first, second) refl

placed : (o : Ordering) (a b c : Members) → members_have_float a ≡ false → members_have_float b ≡ false → members_have_float c ≡ false → members_have_float (match_ordering o a b c) ≡ false
placed Less a b c first second third = first
placed Equal a b c first second third = second
placed Greater a b c first second third = third

-- a member with no float, among others with none
pub put_no_float : (name : List ℕ) (d : Data) (ms : Members) → has_float d ≡ false → members_have_float ms ≡ false → members_have_float (put name d ms) ≡ false
put_no_float name d no_members none others = both (has_float d) false none refl
put_no_float name d (member l e ms) none others =
    let each = or_parts (has_float e) (members_have_float ms) others in
    placed (slice_cmp nat_cmp name l) _ _ _ (both (has_float d) _ none others) (both (has_float d) _ none each.1) (both (has_float e) _ each.0 (put_no_float name d ms none each.1))

-- whether it is put in or not
pub still_no_float : {A E : Type 0} (r : Result A E) (name : List ℕ) (d : Data) (old new : List (String Global × Value)) → OnOk r (members_view new ≡ put name d (members_view old)) → OnErr r (new ≡ old)
    → has_float d ≡ false → members_have_float (members_view old) ≡ false → members_have_float (members_view new) ≡ false
still_no_float (Ok done) name d old new is same none others = ap members_have_float is ∙ put_no_float name d (members_view old) none others
still_no_float (Err e) name d old new is same none others = ap (λ (es : List (String Global × Value)). members_have_float (members_view es)) same ∙ others
