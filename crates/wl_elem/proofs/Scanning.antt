-- All octets are cut into items or refused, and each list of items has a spelling.
use Rattle.std.proofs.Common.{◌≡◌, ◌≢◌, ℕ, zero, suc, ◌<◌, ◌≤◌, Bool, true, false, cond, eqb, ltb, eq-eqb, List, [], ◌∷◌, ◌++◌, length, take, drop, Option, None, Some, refl, sym, ap, subst, ◌∙◌, append_assoc, arith, length-append, length-drop, inl, inr}
use Rattle.std.specs.Prelude.{◌&&◌, ◌==◌, not}
use Rattle.std.specs.List.{AllByRecursion}
use Rattle.std.proofs.lemmas.List.{append-nil, length-take, take-append-drop}
use Rattle.std.proofs.lemmas.Bool.{eqb-true, cases_lt, ltb-false}
use Rattle.std.proofs.lemmas.Bool.Decides.{eqb_tells}
use Rattle.wl_elem.specs.declared.why.Why.{Why}
use Rattle.wl_elem.specs.declared.why.Why.TheVariants.{StrayFragment, EmptyFragment, NoExtension}
use Rattle.wl_elem.specs.declared.kind.ListKind.{ListKind}
use Rattle.wl_elem.specs.declared.item.Item.{Item}
use Rattle.wl_elem.specs.Cutting.{fragment_id, IsCut, joined, piece, fragments, pieces, IsWritten}
use Rattle.wl_elem.specs.Items.{IsItem, SpellsItem, Items, CutOrRefused}
use Rattle.wl_elem.specs.Row.{Piece, IsPiece, IsRow, row_text, full_after, is_full, is_extended, truncated, fault_at}
use Rattle.wl_elem.proofs.Items.{some_parts}
use Rattle.wl_elem.proofs.Octets.{IsOctets, IsOctets-drop}
use Rattle.wl_elem.proofs.Once.{Stops}

-- ---- information can be cut

cut_before : (p : List ℕ) (parts : List (List ℕ)) → length p ≡ 255 → IsCut parts → 0 < length (joined parts) → IsCut (p ∷ parts)
cut_before p [] full cut some = absurd cut
cut_before p (q ∷ parts) full cut some = (full, some_parts (q ∷ parts) cut some, cut)

record HasParts (info : List ℕ) : Type 0 where
  parts : List (List ℕ)
  cut : IsCut parts
  whole : joined parts ≡ info

cut_at_most : (n : ℕ) (info : List ℕ) → length info ≤ n → HasParts info
cut_at_most zero info fits = record { parts = info ∷ []; cut = omega arith; whole = append-nil info }
cut_at_most (suc n) info fits =
    elim (cases_lt 255 (length info)) [
      | inl long ↦
          let rest = drop 255 info in
          let more = cut_at_most n rest (omega (arith, length-drop 255 info)) in
          let first : length (take 255 info) ≡ 255 = omega (arith, length-take 255 info) in
          let whole : joined more.parts ≡ rest = more.whole in
          let some : 0 < length (joined more.parts) = omega (arith, ap length whole, length-drop 255 info) in
          record {
            parts = take 255 info ∷ more.parts;
            cut = cut_before (take 255 info) more.parts first more.cut some;
            whole = ap (λ (x : List ℕ). take 255 info ++ x) whole ∙ take-append-drop 255 info;
          }
      | inr short ↦ record { parts = info ∷ []; cut = short; whole = append-nil info }
    ]

pub items_exist : (kind : ListKind) (list : List Item) → AllByRecursion (IsItem kind) list → (octets : List ℕ) × Items kind list octets
items_exist kind [] each = ([], refl)
items_exist kind (item ∷ list) each =
    let is = each.0 in
    let more = items_exist kind list each.1 in
    let cut = cut_at_most (length item.octets) item.octets (omega arith) in
    let front = pieces kind item.id cut.parts in
    let written : IsWritten kind item.id item.octets front = record { parts = cut.parts; cut = cut.cut; whole = cut.whole; written = refl } in
    (front ++ more.0, (front, more.0, refl, record { fresh = is.fresh; extended = is.extended; written = written }, more.1))

-- ---- all octets are a row and what stops it

record IsScanned (kind : ListKind) (full : Bool) (octets : List ℕ) : Type 0 where
  row : List Piece
  rest : List ℕ
  is_row : IsRow kind full row
  split : octets ≡ row_text row ++ rest
  stops : Stops kind (full_after full row) rest

none_failed : {A : Type 0} (a b c d : Bool) (v w x y : A) → cond a (Some v) (cond b (Some w) (cond c (Some x) (cond d (Some y) None))) ≡ None → (a ≡ false) × (b ≡ false) × (c ≡ false) × (d ≡ false)
none_failed true b c d v w x y e = absurd (cc e)
none_failed false true c d v w x y e = absurd (cc e)
none_failed false false true d v w x y e = absurd (cc e)
none_failed false false false true v w x y e = absurd (cc e)
none_failed false false false false v w x y e = (refl, refl, refl, refl)

not_stray : (x full : Bool) → (x && not full) ≡ false → x ≡ true → full ≡ true
not_stray true true e h = refl
not_stray true false e h = absurd (cc e)
not_stray false full e h = absurd (cc h)

not_empty : (x : Bool) (n : ℕ) → (x && (n == 0)) ≡ false → x ≡ true → 0 < n
not_empty true zero e h = absurd (cc e)
not_empty true (suc n) e h = omega arith
not_empty false n e h = absurd (cc h)

whole_piece : (kind : ListKind) (full : Bool) (id len : ℕ) (more : List ℕ) → len < 256 → fault_at kind full (id ∷ len ∷ more) ≡ None → (len ≤ length more) × IsPiece kind full (record { id = id; octets = take len more })
unfolding fault_at
whole_piece kind full id len more fits e =
    let fragment = eqb id (fragment_id kind) in
    let failed = none_failed (fragment && not full) (fragment && (len == 0)) (is_extended kind id && (len == 0)) (ltb (length more) len) StrayFragment EmptyFragment NoExtension (truncated kind) e in
    let enough : len ≤ length more = ltb-false (length more) len failed.3 in
    let counted : length (take len more) ≡ len = omega (arith, length-take len more) in (
      enough,
      record {
        short = omega (arith, counted);
        continued = λ is_fragment.
            let h : eqb id (fragment_id kind) ≡ true = eq-eqb id (fragment_id kind) is_fragment in
            (not_stray (eqb id (fragment_id kind)) full failed.0 h, subst (λ (n : ℕ). 0 < n) (sym counted) (not_empty (eqb id (fragment_id kind)) len failed.1 h));
        extended = λ h. subst (λ (n : ℕ). 0 < n) (sym counted) (not_empty (is_extended kind id) len failed.2 h);
      },
    )

one_left : (kind : ListKind) (full : Bool) (id : ℕ) → fault_at kind full (id ∷ []) ≡ Some (truncated kind)
unfolding fault_at
one_left kind full id = refl

behind : (kind : ListKind) (full : Bool) (id len : ℕ) (more : List ℕ) → len ≤ length more → IsPiece kind full (record { id = id; octets = take len more }) → IsScanned kind (is_full (take len more)) (drop len more) → IsScanned kind full (id ∷ len ∷ more)
behind kind full id len more enough whole rest =
    let counted : length (take len more) ≡ len = omega (arith, length-take len more) in
    let text : id ∷ len ∷ more ≡ piece id (take len more) ++ drop len more = ap (λ (n : ℕ). id ∷ n ∷ more) (sym counted) ∙ ap (λ (x : List ℕ). id ∷ length (take len more) ∷ x) (sym (take-append-drop len more)) in
    record {
      row = record { id = id; octets = take len more } ∷ rest.row;
      rest = rest.rest;
      is_row = (whole, rest.is_row);
      split = text ∙ ap (λ (x : List ℕ). piece id (take len more) ++ x) rest.split ∙ sym (append_assoc (piece id (take len more)) (row_text rest.row) rest.rest);
      stops = rest.stops;
    }

stopped_at : (kind : ListKind) (full : Bool) (octets : List ℕ) (why : Why) → fault_at kind full octets ≡ Some why → IsScanned kind full octets
stopped_at kind full octets why e = record { row = []; rest = octets; is_row = tt; split = refl; stops = inr (why, e) }

-- a step, given how what follows the piece is scanned
scan_step : (kind : ListKind) (full : Bool) (id len : ℕ) (more : List ℕ) (found : Option Why) → fault_at kind full (id ∷ len ∷ more) ≡ found → len < 256
    → IsScanned kind (is_full (take len more)) (drop len more) → IsScanned kind full (id ∷ len ∷ more)
scan_step kind full id len more (Some why) e fits rest = stopped_at kind full (id ∷ len ∷ more) why e
scan_step kind full id len more None e fits rest = let whole = whole_piece kind full id len more fits e in behind kind full id len more whole.0 whole.1 rest

scan : (kind : ListKind) (n : ℕ) (full : Bool) (octets : List ℕ) → length octets ≤ n → IsOctets octets → IsScanned kind full octets
scan kind n full [] fits bytes = record { row = []; rest = []; is_row = tt; split = refl; stops = inl refl }
scan kind n full (id ∷ []) fits bytes = stopped_at kind full (id ∷ []) (truncated kind) (one_left kind full id)
scan kind zero full (id ∷ len ∷ more) fits bytes = absurd (omega (arith, fits))
scan kind (suc n) full (id ∷ len ∷ more) fits bytes =
    scan_step kind full id len more (fault_at kind full (id ∷ len ∷ more)) refl bytes.1.0
    (scan kind n (is_full (take len more)) (drop len more) (omega (arith, fits, length-drop len more)) (IsOctets-drop len more bytes.1.1))

-- ---- a row is the pieces of items

-- the Fragments that a row begins with, and the items behind them
record IsGrouped (kind : ListKind) (full : Bool) (row : List Piece) : Type 0 where
  parts : List (List ℕ)
  list : List Item
  tail : List ℕ
  text : row_text row ≡ fragments kind parts ++ tail
  cut : Items kind list tail
  chains : (part : List ℕ) → length part ≤ 255 → is_full part ≡ full → IsCut (part ∷ parts)

some_first : (p : List ℕ) (parts : List (List ℕ)) → 0 < length p → 0 < length (joined (p ∷ parts))
some_first p parts some = omega (arith, length-append p (joined parts))

group_fragment : (kind : ListKind) (full : Bool) (p : Piece) (row : List Piece) → IsPiece kind full p → p.id ≡ fragment_id kind → IsGrouped kind (is_full p.octets) row → IsGrouped kind full (p ∷ row)
group_fragment kind full p row whole is_fragment g =
    let continued = whole.continued is_fragment in
    let id = fragment_id kind in
    record {
      parts = p.octets ∷ g.parts;
      list = g.list;
      tail = g.tail;
      text = ap (λ (i : ℕ). piece i p.octets ++ row_text row) is_fragment ∙ ap (λ (x : List ℕ). piece id p.octets ++ x) g.text ∙ sym (append_assoc (piece id p.octets) (fragments kind g.parts) g.tail);
      cut = g.cut;
      chains = λ part short flag. (eqb-true (length part) 255 (flag ∙ continued.0), continued.1, g.chains p.octets whole.short refl);
    }

group_item : (kind : ListKind) (full : Bool) (p : Piece) (row : List Piece) → IsPiece kind full p → p.id ≢ fragment_id kind → IsGrouped kind (is_full p.octets) row → IsGrouped kind full (p ∷ row)
group_item kind full p row whole fresh g =
    let parts = p.octets ∷ g.parts in
    let front = pieces kind p.id parts in
    let is_cut : IsCut parts = g.chains p.octets whole.short refl in
    let text : row_text (p ∷ row) ≡ front ++ g.tail = ap (λ (x : List ℕ). piece p.id p.octets ++ x) g.text ∙ sym (append_assoc (piece p.id p.octets) (fragments kind g.parts) g.tail) in
    let written : IsWritten kind p.id (joined parts) front = record { parts = parts; cut = is_cut; whole = refl; written = refl } in
    let first : Item = record { id = p.id; octets = joined parts } in
    let one : SpellsItem kind first front = record { fresh = fresh; extended = λ h. some_first p.octets g.parts (whole.extended h); written = written } in
    record {
      parts = [];
      list = first ∷ g.list;
      tail = row_text (p ∷ row);
      text = refl;
      cut = (front, g.tail, text, one, g.cut);
      chains = λ part short flag. short;
    }

group : (kind : ListKind) (full : Bool) (row : List Piece) → IsRow kind full row → IsGrouped kind full row
group kind full [] is_row = record { parts = []; list = []; tail = []; text = refl; cut = refl; chains = λ part short flag. short }
group kind full (p ∷ row) is_row =
    let rest = group kind (is_full p.octets) row is_row.1 in
    elim (eqb_tells p.id (fragment_id kind)) [
      | inl is ↦ group_fragment kind full p row is_row.0 is.1 rest
      | inr isnt ↦ group_item kind full p row is_row.0 isnt.1 rest
    ]

none_first : (kind : ListKind) (parts : List (List ℕ)) → IsCut ([] ∷ parts) → fragments kind parts ≡ []
none_first kind [] cut = refl
none_first kind (p ∷ parts) cut = absurd (omega (arith, cut.0))

-- ---- all octets

of_scan : (kind : ListKind) (octets : List ℕ) (row : List Piece) (rest : List ℕ) → IsRow kind false row → octets ≡ row_text row ++ rest → Stops kind (full_after false row) rest → CutOrRefused kind octets
of_scan kind octets row rest is_row split (inl nil) =
    let g = group kind false row is_row in
    let none : fragments kind g.parts ≡ [] = none_first kind g.parts (g.chains [] (omega arith) refl) in
    let same : g.tail ≡ octets = ap (λ (x : List ℕ). x ++ g.tail) (sym none) ∙ sym g.text ∙ sym (append-nil (row_text row)) ∙ ap (λ (x : List ℕ). row_text row ++ x) (sym nil) ∙ sym split in
    inl (g.list, subst (λ (x : List ℕ). Items kind g.list x) same g.cut)
of_scan kind octets row rest is_row split (inr fault) =
    inr (length rest, fault.0, record { row = row; rest = rest; is_row = is_row; split = split; counted = refl; fault = fault.1 })

pub cut_or_refused : (kind : ListKind) (octets : List ℕ) → IsOctets octets → CutOrRefused kind octets
cut_or_refused kind octets bytes =
    let scanned = scan kind (length octets) false octets (omega arith) bytes in
    of_scan kind octets scanned.row scanned.rest scanned.is_row scanned.split scanned.stops
