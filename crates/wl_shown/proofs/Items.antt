-- The elements of a list: which are shown as their values, and the loop over them.
use Rattle.std.proofs.Common.{◌≡◌, ℕ, suc, ◌+◌, ◌%◌, ◌<◌, ◌≤◌, Bool, true, false, Option, Some, None, List, [], ◌∷◌, ◌++◌, length, drop, get_or, Ok, Err, refl, sym, ap, subst, ◌∙◌, append_assoc, add-one, inl, inr}
use Rattle.std.specs.Prelude.{◌&&◌, ◌==◌, nat_le, IsTrue}
use Rattle.std.proofs.lemmas.Bool.{eqb-true}
use Rattle.std.proofs.lemmas.List.{append-nil, drop_all}
use Rattle.std.proofs.Math.Seq.{drop-cons}
use Rattle.wl_elem.specs.declared.fault.Refusal.{Refusal}
use Rattle.wl_elem.specs.declared.fault.Fault.{Fault}
use Rattle.wl_elem.specs.declared.fault.Fault.TheVariants as faults
use Rattle.wl_elem.specs.Answers.{in_element, with_refusal}
use Rattle.wl_elem.specs.Element.{ElementValue, HasIdentity}
use Rattle.wl_elem.specs.Identity.{same_ext}
use Rattle.wl_mle.specs.Fields.{word_of}
use Rattle.wl_assoc.specs.Profiles.{is_basic}
use Rattle.wl_shown.specs.declared.item.ShownElements.{ShownElements}
use Rattle.wl_shown.specs.Shown.{Answer, ItemAs, ItemsAs, behind, IsFaultOf, AddsText}

-- ---- a Basic Multi-Link element has the identity of a Multi-Link element

both_true : (a b : Bool) → IsTrue (a && b) → IsTrue a × IsTrue b
both_true true b h = (refl, h)
both_true false b h = absurd (cc h)

the_ext : (ext : Option ℕ) (x : ℕ) → IsTrue (same_ext ext (Some x)) → ext ≡ Some x
the_ext None x h = absurd (cc h)
the_ext (Some y) x h = ap (λ (n : ℕ). Some n) (eqb-true y x h)

abbrev is_it : ElementValue → Bool
is_it e = (e.id == 255) && same_ext e.ext (Some 107)

pub basic_identity : (e : ElementValue) → IsTrue (is_basic e) → HasIdentity e 255 (Some 107)
basic_identity e h =
    let long = both_true (is_it e && nat_le 2 (length e.body)) (word_of e.body % 8 == 0) h in
    let named = both_true (is_it e) (nat_le 2 (length e.body)) long.0 in
    let parts = both_true (e.id == 255) (same_ext e.ext (Some 107)) named.0 in
    (eqb-true e.id 255 parts.0, the_ext e.ext 107 parts.1)

-- ---- the loop

abbrev ok_of : List ℕ → Answer
ok_of text = Ok text

abbrev err_of : Refusal → Answer
err_of refusal = Err refusal

-- whatever the rest is, with the items so far it is that of the whole list
pub record Continues (decoded : ShownElements) (list : List ElementValue) (i : ℕ) (old items : List ℕ) : Type 0 where
  pub text : List ℕ
  pub added : items ≡ old ++ text
  pub all : (answer : Answer) → ItemsAs decoded i (drop i list) answer → ItemsAs decoded 0 list (behind text answer)

behind_none : (answer : Answer) → behind [] answer ≡ answer
behind_none (Ok text) = refl
behind_none (Err refusal) = refl

behind_behind : (a b : List ℕ) (answer : Answer) → behind a (behind b answer) ≡ behind (a ++ b) answer
behind_behind a b (Ok text) = ap (λ (x : List ℕ). ok_of x) (sym (append_assoc a b text))
behind_behind a b (Err refusal) = refl

pub begins : (decoded : ShownElements) (list : List ElementValue) (old : List ℕ) → Continues decoded list 0 old old
begins decoded list old = record { text = []; added = sym (append-nil old); all = λ answer items. subst (ItemsAs decoded 0 list) (sym (behind_none answer)) items }

abbrev IsHere : List ElementValue → ℕ → ElementValue → Type 0
IsHere list i e = drop i list ≡ e ∷ drop (suc i) list

here : (list : List ElementValue) (i : ℕ) (e : ElementValue) → i < length list → e ≡ get_or list i e → IsHere list i e
here list i e lt is = drop-cons list i e lt ∙ ap (λ (x : ElementValue). x ∷ drop (suc i) list) (sym is)

pub one_more : (decoded : ShownElements) (list : List ElementValue) (i : ℕ) (e : ElementValue) (old items text new : List ℕ) → i < length list → e ≡ get_or list i e → Continues decoded list i old items
    → ItemAs decoded e (Ok text) → new ≡ (items ++ 32 ∷ []) ++ text → Continues decoded list (i + 1) old new
one_more decoded list i e old items text new lt is so_far item added = record {
  text = (so_far.text ++ 32 ∷ []) ++ text;
  added = added ∙ ap (λ (x : List ℕ). (x ++ 32 ∷ []) ++ text) so_far.added ∙ ap (λ (x : List ℕ). x ++ text) (append_assoc old so_far.text (32 ∷ [])) ∙ append_assoc old (so_far.text ++ 32 ∷ []) text;
  all = λ answer others.
      let at_suc : ItemsAs decoded (suc i) (drop (suc i) list) answer = subst (λ (k : ℕ). ItemsAs decoded k (drop k list) answer) (add-one i) others in
      let one : ItemsAs decoded i (e ∷ drop (suc i) list) (behind (32 ∷ text) answer) = inr (text, answer, item, at_suc, refl) in
      let whole = so_far.all (behind (32 ∷ text) answer) (subst (λ (x : List ElementValue). ItemsAs decoded i x (behind (32 ∷ text) answer)) (sym (here list i e lt is)) one) in
      subst (ItemsAs decoded 0 list) (behind_behind so_far.text (32 ∷ text) answer ∙ ap (λ (x : List ℕ). behind x answer) (sym (append_assoc so_far.text (32 ∷ []) text))) whole;
}

pub refuses : (decoded : ShownElements) (list : List ElementValue) (i : ℕ) (e : ElementValue) (old items : List ℕ) (inside fault : Fault) → i < length list → e ≡ get_or list i e → Continues decoded list i old items
    → IsFaultOf (ItemAs decoded e) inside → fault ≡ with_refusal (in_element i) inside → IsFaultOf (ItemsAs decoded 0 list) fault
refuses decoded list i e old items (faults.Refused refusal) fault lt is so_far item same =
    let one : ItemsAs decoded i (e ∷ drop (suc i) list) (err_of (in_element i refusal)) = inl (refusal, item, refl) in
    let whole = so_far.all (err_of (in_element i refusal)) (subst (λ (x : List ElementValue). ItemsAs decoded i x (err_of (in_element i refusal))) (sym (here list i e lt is)) one) in
    subst (IsFaultOf (ItemsAs decoded 0 list)) (sym same) whole
refuses decoded list i e old items faults.Memory fault lt is so_far item same = subst (IsFaultOf (ItemsAs decoded 0 list)) (sym same) tt

pub ends : (decoded : ShownElements) (list : List ElementValue) (i : ℕ) (old items : List ℕ) → length list ≤ i → Continues decoded list i old items → AddsText (ItemsAs decoded 0 list) old items
ends decoded list i old items over so_far =
    let rest : ItemsAs decoded i (drop i list) (ok_of []) = subst (λ (x : List ElementValue). ItemsAs decoded i x (ok_of [])) (sym (drop_all i list over)) refl in
    (so_far.text, subst (λ (x : List ℕ). ItemsAs decoded 0 list (ok_of x)) (append-nil so_far.text) (so_far.all (ok_of []) rest), so_far.added)
