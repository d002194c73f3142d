-- Each list of elements has a spelling, and all octets are read or refused.
use Rattle.std.proofs.Common.{◌≡◌, ◌≢◌, ℕ, ◌<◌, ◌-◌, Bool, true, false, eqb, eq-eqb, List, [], ◌∷◌, length, None, Some, Result, Ok, Err, refl, sym, subst, arith, inl, inr}
use Rattle.std.specs.Prelude.{◌&&◌, IsTrue, not}
use Rattle.std.specs.List.{AllByRecursion}
use Rattle.std.proofs.lemmas.Bool.{ne_eqb}
use Rattle.std.proofs.lemmas.Bool.Decides.{eqb_tells}
use Rattle.wl_elem.specs.declared.fault.Refusal.{Refusal}
use Rattle.wl_elem.specs.declared.kind.ListKind.TheVariants.{Elements}
use Rattle.wl_elem.specs.declared.item.Item.{Item}
use Rattle.wl_elem.specs.Answers.{refusal_at}
use Rattle.wl_elem.specs.Cutting.{IsWritten}
use Rattle.wl_elem.specs.Element.{ElementValue, has_shape, information}
use Rattle.wl_elem.specs.ElementList.{Elems, ReadAs}
use Rattle.wl_elem.specs.Items.{IsItem, Items}
use Rattle.wl_elem.specs.Row.{is_extended}
use Rattle.wl_elem.proofs.Cutting.{left_within}
use Rattle.wl_elem.proofs.Lists.{IsShaped, items_of, is_item, elems_of}
use Rattle.wl_elem.proofs.Octets.{IsOctets}
use Rattle.wl_elem.proofs.Scanning.{items_exist, cut_or_refused}

are_items : (list : List ElementValue) → AllByRecursion IsShaped list → AllByRecursion (IsItem Elements) (items_of list)
are_items [] shaped = tt
are_items (e ∷ list) shaped = (is_item e shaped.0, are_items list shaped.1)

pub is_spelled : (list : List ElementValue) → AllByRecursion (λ e. IsTrue (has_shape e.id e.ext)) list → (octets : List ℕ) × Elems list octets
is_spelled list shaped =
    let found = items_exist Elements (items_of list) (are_items list shaped) in
    (found.0, elems_of list found.0 shaped found.1)

-- ---- each item is of an element

record HasElement (id : ℕ) (info : List ℕ) : Type 0 where
  e : ElementValue
  same_id : e.id ≡ id
  shape : IsTrue (has_shape e.id e.ext)
  same : information e ≡ info

neither : (a b : Bool) → a ≡ false → b ≡ false → IsTrue (not a && not b)
neither a b p q = rw (p, q) refl

element_exists : (id : ℕ) (info : List ℕ) → id ≢ 242 → (is_extended Elements id ≡ true → 0 < length info) → HasElement id info
element_exists id [] fresh extended =
    let not_255 : id ≢ 255 = λ e. absurd (omega (arith, extended (eq-eqb id 255 e))) in
    record { e = record { id = id; ext = None; body = [] }; same_id = refl; shape = neither (eqb id 242) (eqb id 255) (ne_eqb id 242 fresh) (ne_eqb id 255 not_255); same = refl }
element_exists id (x ∷ info) fresh extended =
    elim (eqb_tells id 255) [
      | inl is ↦ record { e = record { id = id; ext = Some x; body = info }; same_id = refl; shape = is.0; same = refl }
      | inr isnt ↦ record { e = record { id = id; ext = None; body = x ∷ info }; same_id = refl; shape = neither (eqb id 242) (eqb id 255) (ne_eqb id 242 fresh) isnt.0; same = refl }
    ]

elements_exist : (items : List Item) (octets : List ℕ) → Items Elements items octets → (list : List ElementValue) × Elems list octets
elements_exist [] octets cut = ([], cut)
elements_exist (item ∷ items) octets (front, rest, split, s, more) =
    let made = element_exists item.id item.octets s.fresh s.extended in
    let others = elements_exist items rest more in
    let informed : IsWritten Elements item.id (information made.e) front = subst (λ (x : List ℕ). IsWritten Elements item.id x front) (sym made.same) s.written in
    let written : IsWritten Elements made.e.id (information made.e) front = subst (λ (i : ℕ). IsWritten Elements i (information made.e) front) (sym made.same_id) informed in
    (made.e ∷ others.0, (front, rest, split, record { shape = made.shape; written = written }, others.1))

-- ---- all octets

pub is_read_or_refused : (octets : List ℕ) → IsOctets octets → (reading : Result (List ElementValue) Refusal) × ReadAs octets reading
is_read_or_refused octets bytes =
    elim (cut_or_refused Elements octets bytes) [
      | inl (items, cut) ↦ let found = elements_exist items octets cut in (Ok found.0, found.1)
      | inr (left, why, cut_off) ↦
          let within = left_within Elements octets left why cut_off in
          (Err (refusal_at (length octets - left) why), record { place = length octets - left; left = left; split = omega (arith, within); cut_off = cut_off; is_at = refl })
    ]
