-- Lists of items: they are cut in one way, written in one way, and not refused where they are cut.
use Rattle.std.proofs.Common.{◌≡◌, ◌≢◌, ℕ, ◌<◌, ◌≤◌, Bool, false, List, [], ◌∷◌, ◌++◌, length, Option, Some, None, refl, sym, ap, subst, ◌∙◌, arith, length-append}
use Rattle.std.specs.List.{AllByRecursion}
use Rattle.std.proofs.lemmas.Bool.{ne_eqb}
use Rattle.wl_elem.specs.declared.why.Why.{Why}
use Rattle.wl_elem.specs.declared.kind.ListKind.{ListKind}
use Rattle.wl_elem.specs.declared.kind.ListKind.TheVariants.{Elements}
use Rattle.wl_elem.specs.declared.item.Item.{Item}
use Rattle.wl_elem.specs.Element.{ElementValue, information_of}
use Rattle.wl_elem.specs.ElementList.{Elems}
use Rattle.wl_elem.specs.Cutting.{fragment_id, IsCut, joined, fragments, pieces, IsWritten}
use Rattle.wl_elem.specs.Row.{Piece, IsPiece, IsRow, row_text, full_after, IsCutOff}
use Rattle.wl_elem.specs.Block.{begins_with_fragment}
use Rattle.wl_elem.specs.Items.{SpellsItem, Items, IsOfOctets}
use Rattle.wl_elem.proofs.Joining.{first_part, row_of, row_of_text, row_of_is_row, IsRow-append, row_text-append}
use Rattle.wl_elem.proofs.Octets.{IsOctets, IsOctets-append, IsOctets-front, IsOctets-back}
use Rattle.wl_elem.proofs.Once.{one_cut, no_cut_off, one_item}

-- ---- the row of a list

pub some_parts : (parts : List (List ℕ)) → IsCut parts → 0 < length (joined parts) → 0 < length (first_part parts)
some_parts [] cut some = absurd cut
some_parts (p ∷ []) cut some = omega (arith, length-append p [])
some_parts (p ∷ n ∷ ps) cut some = omega (arith, cut.0)

short_first : (parts : List (List ℕ)) → IsCut parts → length (first_part parts) ≤ 255
short_first [] cut = absurd cut
short_first (p ∷ []) cut = cut
short_first (p ∷ n ∷ ps) cut = omega (arith, cut.0)

-- the first piece of an item is a whole piece
first_is_piece : (kind : ListKind) (item : Item) (octets : List ℕ) (s : SpellsItem kind item octets) → IsPiece kind false (record { id = item.id; octets = first_part s.written.parts })
first_is_piece kind item octets s = record {
  short = short_first s.written.parts s.written.cut;
  continued = λ is_fragment. absurd (s.fresh is_fragment);
  extended = λ e. some_parts s.written.parts s.written.cut (subst (λ (x : List ℕ). 0 < length x) (sym s.written.whole) (s.extended e));
}

-- a row that begins an input may stand behind any piece
raise : (kind : ListKind) (full : Bool) (row : List Piece) → IsRow kind false row → IsRow kind full row
raise kind full [] is_row = tt
raise kind full (p ∷ row) is_row = (record { short = is_row.0.short; continued = λ e. absurd (cc ((is_row.0.continued e).0)); extended = is_row.0.extended }, is_row.1)

record IsRowOf (kind : ListKind) (octets : List ℕ) : Type 0 where
  row : List Piece
  is_row : IsRow kind false row
  text : row_text row ≡ octets

row_of_items : (kind : ListKind) (list : List Item) (octets : List ℕ) → Items kind list octets → IsRowOf kind octets
row_of_items kind [] octets cut = record { row = []; is_row = tt; text = sym cut }
row_of_items kind (item ∷ list) octets (front, rest, split, s, more) =
    let first = row_of kind item.id s.written.parts in
    let others = row_of_items kind list rest more in
    let is_first = row_of_is_row kind item.id s.written.parts s.written.cut (first_is_piece kind item front s) in
    record {
      row = first ++ others.row;
      is_row = IsRow-append kind false first others.row is_first (raise kind (full_after false first) others.row others.is_row);
      text = row_text-append first others.row ∙ ap (λ (x : List ℕ). x ++ row_text others.row) (row_of_text kind item.id s.written.parts ∙ sym s.written.written) ∙ ap (λ (x : List ℕ). front ++ x) others.text ∙ sym split;
    }

-- what is cut isn't refused
pub not_cut_off : (kind : ListKind) (list : List Item) (octets : List ℕ) (left : ℕ) (why : Why) → Items kind list octets → IsCutOff kind false octets left why → ⊥
not_cut_off kind list octets left why cut refused =
    let of_list = row_of_items kind list octets cut in
    no_cut_off kind of_list.row left why of_list.is_row (subst (λ (x : List ℕ). IsCutOff kind false x left why) (sym of_list.text) refused)

-- ---- cut in one way

begins_otherwise : (kind : ListKind) (id : ℕ) (parts : List (List ℕ)) (rest octets : List ℕ) → IsCut parts → id ≢ fragment_id kind → octets ≡ pieces kind id parts ++ rest → begins_with_fragment kind octets ≡ false
begins_otherwise kind id [] rest octets cut ne e = absurd cut
begins_otherwise kind id (p ∷ ps) rest octets cut ne e = ap (begins_with_fragment kind) e ∙ ne_eqb id (fragment_id kind) ne

-- what a list spells doesn't begin with a Fragment
no_continue : (kind : ListKind) (list : List Item) (octets : List ℕ) → Items kind list octets → begins_with_fragment kind octets ≡ false
no_continue kind [] octets cut = rw cut refl
no_continue kind (item ∷ list) octets (front, rest, split, s, more) =
    begins_otherwise kind item.id s.written.parts rest octets s.written.cut s.fresh (split ∙ ap (λ (x : List ℕ). x ++ rest) s.written.written)

starts_so : (kind : ListKind) (id : ℕ) (parts : List (List ℕ)) (octets : List ℕ) → octets ≡ pieces kind id parts → IsCut parts → 0 < length octets
starts_so kind id [] octets e cut = absurd cut
starts_so kind id (p ∷ ps) octets e cut = rw e (omega arith)

abbrev made : ℕ → List ℕ → Item
made id octets = record { id = id; octets = octets }

same_item : (a b : Item) → a.id ≡ b.id → a.octets ≡ b.octets → a ≡ b
same_item a b e f = ap (λ (n : ℕ). made n a.octets) e ∙ ap (made b.id) f

pub one_list : (kind : ListKind) (list other : List Item) (octets : List ℕ) → Items kind list octets → Items kind other octets → list ≡ other
one_list kind [] [] octets a b = refl
one_list kind [] (t ∷ other) octets a (front, rest, split, s, more) = absurd (omega (arith, starts_so kind t.id s.written.parts front s.written.written s.written.cut, ap length (sym a ∙ split), length-append front rest))
one_list kind (t ∷ list) [] octets (front, rest, split, s, more) b = absurd (omega (arith, starts_so kind t.id s.written.parts front s.written.written s.written.cut, ap length (sym b ∙ split), length-append front rest))
one_list kind (t ∷ list) (u ∷ other) octets (front, rest, split, s, more) (front', rest', split', s', more') =
    let same : pieces kind t.id s.written.parts ++ rest ≡ pieces kind u.id s'.written.parts ++ rest'
    = ap (λ (x : List ℕ). x ++ rest) (sym s.written.written) ∙ sym split ∙ split' ∙ ap (λ (x : List ℕ). x ++ rest') s'.written.written in
    let item = one_item kind t.id u.id s.written.parts s'.written.parts rest rest' s.written.cut s'.written.cut (no_continue kind list rest more) (no_continue kind other rest' more') same in
    let informed : t.octets ≡ u.octets = sym s.written.whole ∙ ap joined item.1 ∙ s'.written.whole in
    let first : t ≡ u = same_item t u item.0 informed in
    let others : list ≡ other = one_list kind list other rest more (subst (λ (x : List ℕ). Items kind other x) (sym item.2) more') in
    ap (λ (x : Item). x ∷ list) first ∙ ap (λ (xs : List Item). u ∷ xs) others

-- ---- written in one way

same_written : (kind : ListKind) (id : ℕ) (info a b : List ℕ) → IsWritten kind id info a → IsWritten kind id info b → a ≡ b
same_written kind id info a b p q = p.written ∙ ap (pieces kind id) (one_cut p.parts q.parts p.cut q.cut (p.whole ∙ sym q.whole)) ∙ sym q.written

pub one_text : (kind : ListKind) (list : List Item) (octets other : List ℕ) → Items kind list octets → Items kind list other → octets ≡ other
one_text kind [] octets other a b = a ∙ sym b
one_text kind (item ∷ list) octets other (front, rest, split, s, more) (front', rest', split', s', more') =
    split ∙ ap (λ (x : List ℕ). x ++ rest) (same_written kind item.id item.octets front front' s.written s'.written) ∙ ap (λ (x : List ℕ). front' ++ x) (one_text kind list rest rest' more more') ∙ sym split'

-- ---- octets of items

fragments_octets : (kind : ListKind) (parts : List (List ℕ)) → IsOctets (fragments kind parts) → IsOctets (joined parts)
fragments_octets kind [] h = tt
fragments_octets kind (p ∷ ps) h = IsOctets-append p (joined ps) (IsOctets-front p (fragments kind ps) h.1.1) (fragments_octets kind ps (IsOctets-back p (fragments kind ps) h.1.1))

pieces_octets : (kind : ListKind) (id : ℕ) (parts : List (List ℕ)) → IsCut parts → IsOctets (pieces kind id parts) → (id < 256) × IsOctets (joined parts)
pieces_octets kind id [] cut h = absurd cut
pieces_octets kind id (p ∷ ps) cut h = (h.0, IsOctets-append p (joined ps) (IsOctets-front p (fragments kind ps) h.1.1) (fragments_octets kind ps (IsOctets-back p (fragments kind ps) h.1.1)))

pub are_octets : (kind : ListKind) (list : List Item) (octets : List ℕ) → IsOctets octets → Items kind list octets → AllByRecursion IsOfOctets list
are_octets kind [] octets is cut = tt
are_octets kind (item ∷ list) octets is (front, rest, split, s, more) =
    let both : IsOctets (front ++ rest) = subst (λ (x : List ℕ). IsOctets x) split is in
    let text : IsOctets (pieces kind item.id s.written.parts) = subst (λ (x : List ℕ). IsOctets x) s.written.written (IsOctets-front front rest both) in
    let found = pieces_octets kind item.id s.written.parts s.written.cut text in
    ((found.0, subst (λ (x : List ℕ). IsOctets x) s.written.whole found.1), are_octets kind list rest (IsOctets-back front rest both) more)

-- ---- octets of elements

of_information : (ext : Option ℕ) (body : List ℕ) → IsOctets (information_of ext body) → IsOctets body
of_information (Some x) body h = h.1
of_information None body h = h

pub bodies_octets : (list : List ElementValue) (octets : List ℕ) → IsOctets octets → Elems list octets → AllByRecursion (λ e. IsOctets e.body) list
bodies_octets [] octets is spelled = tt
bodies_octets (e ∷ list) octets is (front, rest, split, s, more) =
    let both : IsOctets (front ++ rest) = subst (λ (x : List ℕ). IsOctets x) split is in
    let w = s.written in
    let text : IsOctets (pieces Elements e.id w.parts) = subst (λ (x : List ℕ). IsOctets x) w.written (IsOctets-front front rest both) in
    let found = pieces_octets Elements e.id w.parts w.cut text in
    (of_information e.ext e.body (subst (λ (x : List ℕ). IsOctets x) w.whole found.1), bodies_octets list rest (IsOctets-back front rest both) more)
