-- Element lists are lists of items. So they are read in one way, spelled in one way, and refused where
-- they aren't read.
use Rattle.std.proofs.Common.{◌≡◌, ◌≢◌, ℕ, ◌<◌, Bool, true, false, eqb, eq-eqb, List, [], ◌∷◌, length, Option, None, Some, Result, Ok, Err, refl, sym, ap, ◌∙◌, arith}
use Rattle.std.specs.Prelude.{◌&&◌, IsTrue, not, map}
use Rattle.std.specs.List.{AllByRecursion}
use Rattle.std.proofs.lemmas.Bool.{eqb-true}
use Rattle.wl_elem.specs.declared.fault.Refusal.{Refusal}
use Rattle.wl_elem.specs.declared.kind.ListKind.TheVariants.{Elements}
use Rattle.wl_elem.specs.declared.item.Item.{Item}
use Rattle.wl_elem.specs.Answers.{refusal_at}
use Rattle.wl_elem.specs.Element.{ElementValue, has_shape, information, information_of}
use Rattle.wl_elem.specs.ElementList.{Elems, ElemsRefused, ReadAs}
use Rattle.wl_elem.specs.Items.{IsItem, Items}
use Rattle.wl_elem.specs.Row.{is_extended}
use Rattle.wl_elem.proofs.Items.{one_list, one_text, not_cut_off}
use Rattle.wl_elem.proofs.Once.{one_cut_off}

abbrev is_ok_of : List ElementValue → Result (List ElementValue) Refusal
is_ok_of x = Ok x

abbrev is_err_of : Refusal → Result (List ElementValue) Refusal
is_err_of x = Err x

-- ---- shapes

wrong : (a b : Bool) → a ≡ true → IsTrue (not a && not b) → ⊥
wrong true b e h = absurd (cc h)
wrong false b e h = absurd (cc e)

other : (a b : Bool) → b ≡ true → IsTrue (not a && not b) → ⊥
other true b e h = absurd (cc h)
other false true e h = absurd (cc h)
other false false e h = absurd (cc e)

shape_of_none : (id : ℕ) → IsTrue (has_shape id None) → (id ≢ 242) × (id ≢ 255)
shape_of_none id shape = (λ e. absurd (wrong (eqb id 242) (eqb id 255) (eq-eqb id 242 e) shape), λ e. absurd (other (eqb id 242) (eqb id 255) (eq-eqb id 255 e) shape))

no_fragment : (id : ℕ) (ext : Option ℕ) → IsTrue (has_shape id ext) → id ≢ 242
no_fragment id (Some x) shape e = let is_255 : id ≡ 255 = eqb-true id 255 shape in absurd (omega (arith, e, is_255))
no_fragment id None shape e = (shape_of_none id shape).0 e

extension_there : (id : ℕ) (ext : Option ℕ) (body : List ℕ) → IsTrue (has_shape id ext) → is_extended Elements id ≡ true → 0 < length (information_of ext body)
extension_there id (Some x) body shape e = omega arith
extension_there id None body shape e = absurd ((shape_of_none id shape).1 (eqb-true id 255 e))

-- an element is determined by its ID and its information
same_element : (i j : ℕ) (a b : Option ℕ) (x y : List ℕ) → IsTrue (has_shape i a) → IsTrue (has_shape j b) → i ≡ j → information_of a x ≡ information_of b y → (a ≡ b) × (x ≡ y)
same_element i j (Some a) (Some b) x y p q e f = (cc, cc)
same_element i j (Some a) None x y p q e f = absurd ((shape_of_none j q).1 (sym e ∙ eqb-true i 255 p))
same_element i j None (Some b) x y p q e f = absurd ((shape_of_none i p).1 (e ∙ eqb-true j 255 q))
same_element i j None None x y p q e f = (refl, f)

abbrev made : ℕ → Option ℕ → List ℕ → ElementValue
made id ext body = record { id = id; ext = ext; body = body }

same_fields : (e f : ElementValue) → e.id ≡ f.id → e.ext ≡ f.ext → e.body ≡ f.body → e ≡ f
same_fields e f a b c = ap (λ (i : ℕ). made i e.ext e.body) a ∙ ap (λ (x : Option ℕ). made f.id x e.body) b ∙ ap (made f.id f.ext) c

-- ---- elements as items

abbrev pub IsShaped : ElementValue → Type 0
IsShaped e = IsTrue (has_shape e.id e.ext)

abbrev pub item_of : ElementValue → Item
item_of e = record { id = e.id; octets = information e }

abbrev pub items_of : List ElementValue → List Item
items_of list = map item_of list

pub is_item : (e : ElementValue) → IsShaped e → IsItem Elements (item_of e)
is_item e shape = record { fresh = no_fragment e.id e.ext shape; extended = extension_there e.id e.ext e.body shape }

pub are_shaped : (list : List ElementValue) (octets : List ℕ) → Elems list octets → AllByRecursion IsShaped list
are_shaped [] octets spelled = tt
are_shaped (e ∷ list) octets (front, rest, split, s, more) = (s.shape, are_shaped list rest more)

pub as_items : (list : List ElementValue) (octets : List ℕ) → Elems list octets → Items Elements (items_of list) octets
as_items [] octets spelled = spelled
as_items (e ∷ list) octets (front, rest, split, s, more) =
    let is = is_item e s.shape in
    (front, rest, split, record { fresh = is.fresh; extended = is.extended; written = s.written }, as_items list rest more)

pub elems_of : (list : List ElementValue) (octets : List ℕ) → AllByRecursion IsShaped list → Items Elements (items_of list) octets → Elems list octets
elems_of [] octets shaped cut = cut
elems_of (e ∷ list) octets shaped (front, rest, split, s, more) = (front, rest, split, record { shape = shaped.0; written = s.written }, elems_of list rest shaped.1 more)

same_elements : (list other : List ElementValue) → AllByRecursion IsShaped list → AllByRecursion IsShaped other → items_of list ≡ items_of other → list ≡ other
same_elements [] [] a b e = refl
same_elements [] (f ∷ other) a b e = absurd (cc e)
same_elements (e ∷ list) [] a b same = absurd (cc same)
same_elements (e ∷ list) (f ∷ other) a b same =
    let heads : item_of e ≡ item_of f = cc in
    let tails : items_of list ≡ items_of other = cc in
    let ids : e.id ≡ f.id = ap (λ (x : Item). x.id) heads in
    let fields = same_element e.id f.id e.ext f.ext e.body f.body a.0 b.0 ids (ap (λ (x : Item). x.octets) heads) in
    ap (λ (x : ElementValue). x ∷ list) (same_fields e f ids fields.0 fields.1) ∙ ap (λ (xs : List ElementValue). f ∷ xs) (same_elements list other a.1 b.1 tails)

-- ---- read once

same_list : (list other : List ElementValue) (octets : List ℕ) → Elems list octets → Elems other octets → list ≡ other
same_list list other octets a b =
    same_elements list other (are_shaped list octets a) (are_shaped other octets b) (one_list Elements (items_of list) (items_of other) octets (as_items list octets a) (as_items other octets b))

pub one_spelling : (list : List ElementValue) (octets other : List ℕ) → Elems list octets → Elems list other → octets ≡ other
one_spelling list octets other a b = one_text Elements (items_of list) octets other (as_items list octets a) (as_items list other b)

-- ---- read or refused, and not both

not_both : (list : List ElementValue) (octets : List ℕ) (refusal : Refusal) → Elems list octets → ElemsRefused octets refusal → ⊥
not_both list octets refusal spelled refused = not_cut_off Elements (items_of list) octets refused.left refusal.why (as_items list octets spelled) refused.cut_off

one_refusal : (octets : List ℕ) (a b : Refusal) → ElemsRefused octets a → ElemsRefused octets b → a ≡ b
one_refusal octets a b p q =
    let same = one_cut_off Elements octets p.left q.left a.why b.why p.cut_off q.cut_off in
    let places : p.place ≡ q.place = omega (arith, p.split, q.split, same.0) in
    p.is_at ∙ ap (λ (n : ℕ). refusal_at n a.why) places ∙ ap (refusal_at q.place) same.1 ∙ sym q.is_at

pub one_reading : (octets : List ℕ) (a b : Result (List ElementValue) Refusal) → ReadAs octets a → ReadAs octets b → a ≡ b
one_reading octets (Ok a) (Ok b) p q = ap (λ (x : List ElementValue). is_ok_of x) (same_list a b octets p q)
one_reading octets (Ok a) (Err b) p q = absurd (not_both a octets b p q)
one_reading octets (Err a) (Ok b) p q = absurd (not_both b octets a q p)
one_reading octets (Err a) (Err b) p q = ap (λ (x : Refusal). is_err_of x) (one_refusal octets a b p q)
