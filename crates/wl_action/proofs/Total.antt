-- All octets are read.
use Rattle.std.proofs.Common.{◌≡◌, ℕ, suc, Bool, true, false, List, [], ◌∷◌, drop, Option, Some, None, Result, Ok, Err, refl, subst, inl, inr}
use Rattle.std.specs.List.{AllByRecursion}
use Rattle.wl_elem.specs.declared.fault.Refusal.{Refusal}
use Rattle.wl_elem.specs.Fields.{total}
use Rattle.wl_elem.specs.Answers.{refusal_at, in_element, moved}
use Rattle.wl_elem.specs.Element.{ElementValue}
use Rattle.wl_elem.specs.ElementList as lists
use Rattle.wl_ttlm.specs.declared.ttlm.Ttlm.{Ttlm}
use Rattle.wl_ttlm.specs.Ttlm as maps
use Rattle.wl_mle.specs.declared.multi_link.MultiLink.{MultiLink}
use Rattle.wl_mle.specs.MultiLink as links
use Rattle.wl_action.specs.declared.action.Action.{Action}
use Rattle.wl_action.specs.declared.code.Code.{Code}
use Rattle.wl_elem.specs.declared.known.Known.{Known}
use Rattle.wl_elem.specs.declared.known.Known.TheVariants as knowns
use Rattle.wl_elem.specs.Identity.{is_mapping, is_multi_link}
use Rattle.wl_action.specs.Action.{decodes, wrong_number, right_numbers, head_fault, widths, has_elements, ReadAs}
use Rattle.wl_action.specs.Reading.{made, FirstAs, KnownAs}
use Rattle.wl_action.proofs.Once.{Behind}
use Rattle.wl_action.proofs.Readings.{HasHead, has_head, fault_read, behind_read}
use Rattle.wl_elem.proofs.Octets.{IsOctets, IsOctets-drop}

-- the laws of the crates below
pub record Total : Type 0 where
  pub bodies : (list : List ElementValue) (octets : List ℕ) → IsOctets octets → lists.Elems list octets → AllByRecursion (λ e. IsOctets e.body) list
  pub lists : (octets : List ℕ) → IsOctets octets → (reading : Result (List ElementValue) Refusal) × lists.ReadAs octets reading
  pub maps : (body : List ℕ) → IsOctets body → (reading : Result Ttlm Refusal) × maps.ReadAs body reading
  pub links : (body : List ℕ) → IsOctets body → (reading : Result MultiLink Refusal) × links.ReadAs body reading

-- ---- the octets of elements' bodies

abbrev AreOctets : List ElementValue → Type 0
AreOctets list = AllByRecursion (λ e. IsOctets e.body) list

-- ---- one element

abbrev Item : Option Known → ElementValue → Type 0
Item decoded e = (x : Option Refusal) × KnownAs decoded e x

mapping_read : (e : ElementValue) → is_mapping e ≡ true → ((reading : Result Ttlm Refusal) × maps.ReadAs e.body reading) → Item (Some knowns.TidToLinkMapping) e
mapping_read e there (Ok t, of) = (None, λ _. (t, of))
mapping_read e there (Err r, refused) = (Some r, (there, refused))

mapping_of : Total → (e : ElementValue) (there : Bool) → is_mapping e ≡ there → IsOctets e.body → Item (Some knowns.TidToLinkMapping) e
mapping_of all e false other is = (None, λ h. absurd (cc (other, h)))
mapping_of all e true there is = mapping_read e there (all.maps e.body is)

link_read : (e : ElementValue) → is_multi_link e ≡ true → ((reading : Result MultiLink Refusal) × links.ReadAs e.body reading) → Item (Some knowns.MultiLink) e
link_read e there (Ok value, of) = (None, λ _. (value, of))
link_read e there (Err r, refused) = (Some r, (there, refused))

link_of : Total → (e : ElementValue) (there : Bool) → is_multi_link e ≡ there → IsOctets e.body → Item (Some knowns.MultiLink) e
link_of all e false other is = (None, λ h. absurd (cc (other, h)))
link_of all e true there is = link_read e there (all.links e.body is)

item_of : Total → (decoded : Option Known) (e : ElementValue) → IsOctets e.body → Item decoded e
item_of all (Some knowns.TidToLinkMapping) e is = mapping_of all e (is_mapping e) refl is
item_of all (Some knowns.MultiLink) e is = link_of all e (is_multi_link e) refl is
item_of all None e is = (None, tt)

-- ---- the first that isn't decoded, or none

abbrev First : Code → ℕ → List ElementValue → Type 0
First code i list = (x : Option Refusal) × FirstAs code i list x

first_with : (code : Code) (i : ℕ) (e : ElementValue) (list : List ElementValue) → Item (decodes code) e → First code (suc i) list → First code i (e ∷ list)
first_with code i e list (Some r, refused) others = (Some (in_element i r), inl (r, refused, refl))
first_with code i e list (None, read) (Some r, refused) = (Some r, inr (read, refused))
first_with code i e list (None, read) (None, all) = (None, (read, all))

first_of_list : Total → (code : Code) (i : ℕ) (list : List ElementValue) → AreOctets list → First code i list
first_of_list all code i [] are = (None, tt)
first_of_list all code i (e ∷ list) are = first_with code i e list (item_of all (decodes code) e are.0) (first_of_list all code (suc i) list are.1)

-- ---- what stands behind the two octets

abbrev Read : Bool → Code → ℕ → List ℕ → Type 0
Read elements code action rest = (reading : Result Action Refusal) × Behind elements code action rest reading

by_first : (code : Code) (action : ℕ) (rest : List ℕ) (list : List ElementValue) → lists.Elems list (drop (total (widths code)) rest) → right_numbers code list ≡ true → First code 0 list → Read true code action rest
by_first code action rest list of right (None, all) = (Ok (made code action rest list), (list, record { elems = of; numbers = right; read = all }, refl))
by_first code action rest list of right (Some r, first) = (Err r, inr (inr (list, of, right, first)))

by_numbers : Total → (code : Code) (action : ℕ) (rest : List ℕ) (list : List ElementValue) (right : Bool) → right_numbers code list ≡ right → lists.Elems list (drop (total (widths code)) rest) → AreOctets list → Read true code action rest
by_numbers all code action rest list false e of are = (Err (refusal_at _ (wrong_number code)), inr (inl (list, of, e, refl)))
by_numbers all code action rest list true e of are = by_first code action rest list of e (first_of_list all code 0 list are)

by_list : Total → (code : Code) (action : ℕ) (rest : List ℕ) → IsOctets (drop (total (widths code)) rest) → ((reading : Result (List ElementValue) Refusal) × lists.ReadAs (drop (total (widths code)) rest) reading) → Read true code action rest
by_list all code action rest is (Ok list, of) = by_numbers all code action rest list (right_numbers code list) refl of (all.bodies list _ is of)
by_list all code action rest is (Err r, refused) = (Err (moved _ r), inl (r, refused, refl))

by_kind : Total → (elements : Bool) (code : Code) (action : ℕ) (rest : List ℕ) → IsOctets rest → Read elements code action rest
by_kind all true code action rest is =
    let octets = IsOctets-drop (total (widths code)) rest is in
    by_list all code action rest octets (all.lists _ octets)
by_kind all false code action rest is = (Ok (made code action rest []), refl)

abbrev Reads : List ℕ → Type 0
Reads body = (reading : Result Action Refusal) × ReadAs body reading

as_read : (body : List ℕ) (h : HasHead body) → IsOctets body → Read (has_elements h.code) h.code h.action h.rest → Reads body
as_read body h is (Ok value, made) = (Ok value, behind_read body h.code h.action h.rest (Ok value) is h.is made)
as_read body h is (Err r, refused) = (Err r, behind_read body h.code h.action h.rest (Err r) is h.is refused)

by_head : Total → (body : List ℕ) (fault : Option Refusal) → head_fault body ≡ fault → IsOctets body → Reads body
by_head all body (Some r) e is = (Err r, fault_read body r e)
by_head all body None e is =
    let h = has_head body e in
    let octets : IsOctets (h.is.category ∷ h.action ∷ h.rest) = subst IsOctets h.is.text is in
    as_read body h is (by_kind all (has_elements h.code) h.code h.action h.rest octets.1.1)

pub all_read : Total → (body : List ℕ) → IsOctets body → (reading : Result Action Refusal) × ReadAs body reading
all_read all body is = by_head all body (head_fault body) refl is
