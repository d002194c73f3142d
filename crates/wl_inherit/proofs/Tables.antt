-- What tables tell of the shrunk list.
use Rattle.std.proofs.Common.{◌≡◌, ℕ, Bool, true, false, not, ◌&&◌, ◌||◌, List, Option, refl, sym, ap, ◌∙◌}
use Rattle.std.specs.Prelude.{IsTrue}
use Rattle.wl_elem.specs.Element.{ElementValue, has_shape}
use Rattle.wl_inherit.specs.declared.identities.Identities.{Identities}
use Rattle.wl_inherit.specs.Identity.{of_identity, has_any, never_inherited}
use Rattle.wl_inherit.specs.Marks.{is_marked, AddsAll, TakesOthers}
use Rattle.wl_inherit.specs.Shrunk.{same_elements, is_kept, is_dropped}
use Rattle.wl_inherit.proofs.Marking.{IsTableOf}
use Rattle.wl_inherit.proofs.Inheriting.{is_same}
use Rattle.wl_inherit.proofs.Regaining.{AreIdentities, an_identity}

by_tests : (mark stay there never here : Bool) → mark ≡ there → (there ≡ true → stay ≡ (never || here)) → (mark && not stay) ≡ (there && not never && not here)
by_tests mark stay true true here e h = ap (λ (x : Bool). x && not stay) e ∙ ap not (h refl)
by_tests mark stay true false here e h = ap (λ (x : Bool). x && not stay) e ∙ ap not (h refl)
by_tests mark stay false never here e h = ap (λ (x : Bool). x && not stay) e

pub tells_dropped : (outer full : List ElementValue) (none there never staying : Identities) → ((id : ℕ) (ext : Option ℕ) → is_marked none id ext ≡ false) → AddsAll outer none there → AreIdentities outer
    → IsTableOf never_inherited never → AddsAll full never staying → (id : ℕ) (ext : Option ℕ) → (is_marked there id ext && not (is_marked staying id ext)) ≡ is_dropped outer full id ext
tells_dropped outer full none there never staying nothing adds all table more id ext =
    by_tests (is_marked there id ext) (is_marked staying id ext) (has_any id ext outer) (never_inherited id ext) (has_any id ext full) (adds.marks id ext ∙ ap (λ (x : Bool). x || has_any id ext outer) (nothing id ext))
    (λ h. more.marks id ext ∙ ap (λ (x : Bool). x || has_any id ext full) (table id ext (an_identity id ext outer all h).shape))

kept_by : (never same here : Bool) → here ≡ true → (never || not same) ≡ not (here && (not never && same))
kept_by true same here e = sym (ap (λ (x : Bool). not (x && false)) e)
kept_by false same here e = sym (ap (λ (x : Bool). not (x && same)) e)

pub takes_kept : (outer full : List ElementValue) (t : Identities) → ((id : ℕ) (ext : Option ℕ) → IsTrue (has_shape id ext) → is_marked t id ext ≡ (has_any id ext full && is_same outer full id ext)) → TakesOthers (is_kept outer full) full t
takes_kept outer full t marks = record {
  same = λ e shape here. kept_by (never_inherited e.id e.ext) (same_elements (of_identity e.id e.ext outer) (of_identity e.id e.ext full)) (has_any e.id e.ext full) here ∙ ap not (sym (marks e.id e.ext shape));
}
