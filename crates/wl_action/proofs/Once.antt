-- The elements are read in one way.
use Rattle.std.proofs.Common.{◌≡◌, ℕ, suc, ◌+◌, Bool, true, false, List, [], ◌∷◌, drop, Option, Some, None, Result, Ok, Err, refl, sym, ap, subst, ◌∙◌, inl, inr}
use Rattle.std.specs.Prelude.{is_some, not, IsTrue}
use Rattle.std.specs.List.{AllByRecursion}
use Rattle.wl_elem.specs.Answers.{in_element, moved}
use Rattle.wl_elem.specs.Fields.{total}
use Rattle.wl_elem.specs.declared.fault.Refusal.{Refusal}
use Rattle.wl_elem.specs.Element.{ElementValue}
use Rattle.wl_elem.specs.ElementList as lists
use Rattle.wl_ttlm.specs.declared.ttlm.Ttlm.{Ttlm}
use Rattle.wl_ttlm.specs.Ttlm as maps
use Rattle.wl_mle.specs.declared.multi_link.MultiLink.{MultiLink}
use Rattle.wl_mle.specs.MultiLink as links
use Rattle.wl_action.specs.declared.action.Action.{Action}
use Rattle.wl_action.specs.declared.code.Code.{Code}
use Rattle.wl_action.specs.declared.code.Code.TheVariants as kinds
use Rattle.wl_action.specs.Action.{IsRead, IsItemRefused, FirstRefused, right_numbers, ListRefused, RefusedList, widths}
use Rattle.wl_action.specs.Reading.{made, IsListed, FirstAs, IsMade}
use Rattle.wl_action.specs.Writing.{AreFit}

-- the laws of the crates below

abbrev pub ListsOnce : Type 0
ListsOnce = (octets : List ℕ) (a b : Result (List ElementValue) Refusal) → lists.ReadAs octets a → lists.ReadAs octets b → a ≡ b

abbrev pub MapsOnce : Type 0
MapsOnce = (body : List ℕ) (a b : Result Ttlm Refusal) → maps.ReadAs body a → maps.ReadAs body b → a ≡ b

abbrev pub LinksOnce : Type 0
LinksOnce = (body : List ℕ) (a b : Result MultiLink Refusal) → links.ReadAs body a → links.ReadAs body b → a ≡ b

pub record Once : Type 0 where
  pub lists : ListsOnce
  pub maps : MapsOnce
  pub links : LinksOnce

-- ---- readings, told apart

abbrev list_err : Refusal → Result (List ElementValue) Refusal
list_err r = Err r

abbrev list_ok : List ElementValue → Result (List ElementValue) Refusal
list_ok list = Ok list

abbrev map_err : Refusal → Result Ttlm Refusal
map_err r = Err r

abbrev map_ok : Ttlm → Result Ttlm Refusal
map_ok t = Ok t

abbrev link_err : Refusal → Result MultiLink Refusal
link_err r = Err r

abbrev link_ok : MultiLink → Result MultiLink Refusal
link_ok value = Ok value

same_list : ListsOnce → (octets : List ℕ) (a b : List ElementValue) → lists.Elems a octets → lists.Elems b octets → a ≡ b
same_list once octets a b p q = let e : list_ok a ≡ list_ok b = once octets (list_ok a) (list_ok b) p q in cc

same_list_fault : ListsOnce → (octets : List ℕ) (r s : Refusal) → lists.ElemsRefused octets r → lists.ElemsRefused octets s → r ≡ s
same_list_fault once octets r s p q = let e : list_err r ≡ list_err s = once octets (list_err r) (list_err s) p q in cc

no_list : ListsOnce → (octets : List ℕ) (a : List ElementValue) (r : Refusal) → lists.Elems a octets → lists.ElemsRefused octets r → ⊥
no_list once octets a r p q = let e : list_ok a ≡ list_err r = once octets (list_ok a) (list_err r) p q in cc

-- ---- one element

one_map : MapsOnce → (body : List ℕ) (r s : Refusal) → maps.TtlmRefused body r → maps.TtlmRefused body s → r ≡ s
one_map once body r s p q = let e : map_err r ≡ map_err s = once body (map_err r) (map_err s) p q in cc

one_link : LinksOnce → (body : List ℕ) (r s : Refusal) → links.MlRefused body r → links.MlRefused body s → r ≡ s
one_link once body r s p q = let e : link_err r ≡ link_err s = once body (link_err r) (link_err s) p q in cc

no_map : MapsOnce → (body : List ℕ) (t : Ttlm) (r : Refusal) → maps.TtlmOf t body → maps.TtlmRefused body r → ⊥
no_map once body t r p q = let e : map_ok t ≡ map_err r = once body (map_ok t) (map_err r) p q in cc

no_link : LinksOnce → (body : List ℕ) (value : MultiLink) (r : Refusal) → links.MlOf value body → links.MlRefused body r → ⊥
no_link once body value r p q = let e : link_ok value ≡ link_err r = once body (link_ok value) (link_err r) p q in cc

one_item : Once → (code : Code) (e : ElementValue) (r s : Refusal) → IsItemRefused code e r → IsItemRefused code e s → r ≡ s
one_item once kinds.MapAsk e r s p q = one_map once.maps e.body r s p.1 q.1
one_item once kinds.MapReply e r s p q = one_map once.maps e.body r s p.1 q.1
one_item once kinds.ReconfAsk e r s p q = one_link once.links e.body r s p.1 q.1
one_item once _ e r s p q = absurd p

not_both : Once → (code : Code) (e : ElementValue) (r : Refusal) → IsRead code e → IsItemRefused code e r → ⊥
not_both once kinds.MapAsk e r p q = let t = p q.0 in no_map once.maps e.body t.0 r t.1 q.1
not_both once kinds.MapReply e r p q = let t = p q.0 in no_map once.maps e.body t.0 r t.1 q.1
not_both once kinds.ReconfAsk e r p q = let t = p q.0 in no_link once.links e.body t.0 r t.1 q.1
not_both once _ e r p q = absurd q

-- ---- the first that isn't decoded

one_first : Once → (code : Code) (i : ℕ) (list : List ElementValue) (r s : Refusal) → FirstRefused code i list r → FirstRefused code i list s → r ≡ s
one_first once code i [] r s p q = absurd p
one_first once code i (e ∷ list) r s (inl (a, p, is)) (inl (b, q, also)) = is ∙ ap (in_element i) (one_item once code e a b p q) ∙ sym also
one_first once code i (e ∷ list) r s (inl (a, p, is)) (inr (read, q)) = absurd (not_both once code e a read p)
one_first once code i (e ∷ list) r s (inr (read, p)) (inl (b, q, also)) = absurd (not_both once code e b read q)
one_first once code i (e ∷ list) r s (inr (read, p)) (inr (other, q)) = one_first once code (suc i) list r s p q

pub none_refused : Once → (code : Code) (i : ℕ) (list : List ElementValue) (r : Refusal) → AllByRecursion (IsRead code) list → FirstRefused code i list r → ⊥
none_refused once code i [] r all p = absurd p
none_refused once code i (e ∷ list) r all (inl (a, p, is)) = not_both once code e a all.0 p
none_refused once code i (e ∷ list) r all (inr (read, p)) = none_refused once code (suc i) list r all.1 p

-- ---- the list behind the fields

not_refused : Once → (code : Code) (offset : ℕ) (octets : List ℕ) (list : List ElementValue) (r : Refusal) → IsListed code octets list → ListRefused code octets offset r → ⊥
not_refused once code offset octets list r is (inl (inner, p, at)) = no_list once.lists octets list inner is.elems p
not_refused once code offset octets list r is (inr (inl (other, p, wrong, at))) =
    let same = same_list once.lists octets list other is.elems p in
    absurd (cc (is.numbers, wrong, same))
not_refused once code offset octets list r is (inr (inr (other, p, right, first))) =
    let same = same_list once.lists octets list other is.elems p in
    none_refused once code 0 other r (subst (λ (l : List ElementValue). AllByRecursion (IsRead code) l) same is.read) first

one_refusal : Once → (code : Code) (offset : ℕ) (octets : List ℕ) (r s : Refusal) → ListRefused code octets offset r → ListRefused code octets offset s → r ≡ s
one_refusal once code offset octets r s (inl (a, p, is)) (inl (b, q, also)) = is ∙ ap (moved offset) (same_list_fault once.lists octets a b p q) ∙ sym also
one_refusal once code offset octets r s (inl (a, p, is)) (inr (inl (list, q, wrong, also))) = absurd (no_list once.lists octets list a q p)
one_refusal once code offset octets r s (inl (a, p, is)) (inr (inr (list, q, right, first))) = absurd (no_list once.lists octets list a q p)
one_refusal once code offset octets r s (inr (inl (list, p, wrong, is))) (inl (b, q, also)) = absurd (no_list once.lists octets list b p q)
one_refusal once code offset octets r s (inr (inl (list, p, wrong, is))) (inr (inl (other, q, wrong', also))) = is ∙ sym also
one_refusal once code offset octets r s (inr (inl (list, p, wrong, is))) (inr (inr (other, q, right, first))) =
    let same = same_list once.lists octets list other p q in
    absurd (cc (wrong, right, same))
one_refusal once code offset octets r s (inr (inr (list, p, right, first))) (inl (b, q, also)) = absurd (no_list once.lists octets list b p q)
one_refusal once code offset octets r s (inr (inr (list, p, right, first))) (inr (inl (other, q, wrong, also))) =
    let same = same_list once.lists octets list other p q in
    absurd (cc (wrong, right, same))
one_refusal once code offset octets r s (inr (inr (list, p, right, first))) (inr (inr (other, q, right', first'))) =
    let same = same_list once.lists octets list other p q in
    one_first once code 0 other r s (subst (λ (l : List ElementValue). FirstRefused code 0 l r) same first) first'

-- ---- what stands behind the two octets

-- as in `BehindAs`, by whether there are elements
abbrev pub Behind : Bool → Code → ℕ → List ℕ → Result Action Refusal → Type 0
Behind elements code action rest (Ok value) = IsMade elements code action rest value
Behind elements code action rest (Err refusal) = RefusedList elements code rest refusal

abbrev ok : Action → Result Action Refusal
ok value = Ok value

abbrev err : Refusal → Result Action Refusal
err r = Err r

pub one_behind : Once → (elements : Bool) (code : Code) (action : ℕ) (rest : List ℕ) (a b : Result Action Refusal) → Behind elements code action rest a → Behind elements code action rest b → a ≡ b
one_behind once true code action rest (Ok v) (Ok w) (list, p, is) (other, q, also) =
    let same = same_list once.lists (drop (total (widths code)) rest) list other p.elems q.elems in
    ap ok (is ∙ ap (made code action rest) same ∙ sym also)
one_behind once true code action rest (Ok v) (Err s) (list, p, is) q = absurd (not_refused once code (2 + total (widths code)) (drop (total (widths code)) rest) list s p q)
one_behind once true code action rest (Err r) (Ok w) p (list, q, is) = absurd (not_refused once code (2 + total (widths code)) (drop (total (widths code)) rest) list r q p)
one_behind once true code action rest (Err r) (Err s) p q = ap err (one_refusal once code (2 + total (widths code)) (drop (total (widths code)) rest) r s p q)
one_behind once false code action rest (Ok v) (Ok w) p q = ap ok (p ∙ sym q)
one_behind once false code action rest (Ok v) (Err s) p q = absurd q
one_behind once false code action rest (Err r) (Ok w) p q = absurd p
one_behind once false code action rest (Err r) (Err s) p q = absurd p

-- ---- the test of a list

pub fit_if : Once → (code : Code) (list : List ElementValue) (x : Option Refusal) (none : Bool) → right_numbers code list ≡ true → FirstAs code 0 list x → is_some x ≡ not none → (IsTrue none → AreFit code list) × (AreFit code list → IsTrue none)
fit_if once code list None true right all e = (λ _. record { numbers = right; read = all }, λ _. refl)
fit_if once code list None false right all e = absurd (cc)
fit_if once code list (Some r) true right first e = absurd (cc)
fit_if once code list (Some r) false right first e = (λ h. absurd (cc), λ h. absurd (none_refused once code 0 list r h.read first))
