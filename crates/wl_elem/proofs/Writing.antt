-- Writing lists of elements.
use Rattle.std.proofs.Common.{◌≡◌, ℕ, ◌<◌, ◌≤◌, ◌+◌, ◌*◌, ◌/◌, List, [], ◌∷◌, ◌++◌, length, refl, sym, ap, subst, ◌∙◌, append_assoc, arith, length-append}
use Rattle.std.specs.Prelude.{IsTrue}
use Rattle.std.proofs.lemmas.List.{append-nil}
use Rattle.wl_elem.specs.declared.kind.ListKind.TheVariants.{Elements}
use Rattle.wl_elem.specs.Element.{ElementValue, has_shape, information}
use Rattle.wl_elem.specs.ElementList.{Elems}
use Rattle.wl_elem.specs.Encoding.{HasLength, HasElementLength, AddsElement, AddsPieces}
use Rattle.wl_elem.proofs.Pieces as pieces

-- ---- an element

pub short_length : (e : ElementValue) → length (information e) ≤ 255 → HasElementLength e (length (information e) + 2)
short_length e short octets s = pieces.short_length Elements e.id (information e) octets short s.written

pub long_length : (e : ElementValue) → 255 < length (information e) → HasElementLength e (length (information e) + 2 * ((length (information e) + 254) / 255))
long_length e long octets s = pieces.long_length Elements e.id (information e) octets long s.written

-- its pieces are the element
pub adds_element : (e : ElementValue) (old new : List ℕ) → IsTrue (has_shape e.id e.ext) → AddsPieces Elements e.id (information e) old new → AddsElement e old new
adds_element e old new shape (octets, written, added) = (octets, record { shape = shape; written = written }, added)

-- ---- lists

Elems-split : (xs ys : List ElementValue) (octets : List ℕ) → Elems (xs ++ ys) octets → (front back : List ℕ) × (octets ≡ front ++ back) × Elems xs front × Elems ys back
Elems-split [] ys octets spelled = ([], octets, refl, refl, spelled)
Elems-split (x ∷ xs) ys octets (front, rest, split, s, more) =
    let others = Elems-split xs ys rest more in
    (front ++ others.0, others.1, split ∙ ap (λ (t : List ℕ). front ++ t) others.2 ∙ sym (append_assoc front others.0 others.1), (front, others.0, refl, s, others.3), others.4)

Elems-append : (xs ys : List ElementValue) (a b : List ℕ) → Elems xs a → Elems ys b → Elems (xs ++ ys) (a ++ b)
Elems-append [] ys a b p q = subst (λ (x : List ℕ). Elems ys x) (ap (λ (x : List ℕ). x ++ b) (sym p)) q
Elems-append (x ∷ xs) ys a b (front, rest, split, s, more) q = (front, rest ++ b, ap (λ (t : List ℕ). t ++ b) split ∙ append_assoc front rest b, s, Elems-append xs ys rest b more q)

pub length_more : (list : List ElementValue) (e : ElementValue) (sum len : ℕ) → HasLength list sum → HasElementLength e len → HasLength (list ++ e ∷ []) (sum + len)
length_more list e sum len so_far one octets spelled =
    let (front, back, split, first, (piece_octets, nothing, last, s, nil)) = Elems-split list (e ∷ []) octets spelled in
    omega (arith, so_far front first, one piece_octets s, ap length split, length-append front back, ap length last, length-append piece_octets nothing, ap length nil)

pub elems_more : (list : List ElementValue) (e : ElementValue) (old new : List ℕ) → Elems list old → AddsElement e old new → Elems (list ++ e ∷ []) new
elems_more list e old new so_far (octets, s, added) =
    subst (λ (x : List ℕ). Elems (list ++ e ∷ []) x) (sym added) (Elems-append list (e ∷ []) old octets so_far (octets, [], sym (append-nil octets), s, refl))
