-- Joining the pieces of one item.
use Rattle.std.proofs.Common.{◌≡◌, ℕ, ◌<◌, ◌≤◌, Bool, true, false, List, [], ◌∷◌, ◌++◌, length, Some, refl, sym, ap, subst, ◌∙◌, append_assoc, arith, length-append}
use Rattle.std.specs.Prelude.{◌&&◌}
use Rattle.std.proofs.lemmas.List.{append-nil}
use Rattle.std.proofs.lemmas.Bool.{eqb-true}
use Rattle.wl_elem.specs.declared.why.Why.{Why}
use Rattle.wl_elem.specs.declared.kind.ListKind.{ListKind}
use Rattle.wl_elem.specs.declared.kind.ListKind.TheVariants.{Elements, Subelements}
use Rattle.wl_elem.specs.Cutting.{fragment_id, IsCut, joined, piece, fragments, pieces}
use Rattle.wl_elem.specs.Row.{Piece, IsPiece, IsRow, row_text, full_after, is_full, is_extended, fault_at, IsCutOff}
use Rattle.wl_elem.specs.Block.{begins_with_fragment, IsTaken}

-- whether the last part has Length 255
abbrev pub last_full : List (List ℕ) → Bool
last_full [] = false
last_full (part ∷ []) = is_full part
last_full (part ∷ next ∷ parts) = last_full (next ∷ parts)

abbrev pub first_part : List (List ℕ) → List ℕ
first_part [] = []
first_part (part ∷ parts) = part

-- the pieces read so far, joined, and the rest of the input
pub record Joins (kind : ListKind) (id : ℕ) (information : List ℕ) (full : Bool) (input rest : List ℕ) : Type 0 where
  pub parts : List (List ℕ)
  pub cut : IsCut parts
  pub whole : joined parts ≡ information
  pub ends : last_full parts ≡ full
  pub first : IsPiece kind false (record { id = id; octets = first_part parts })
  pub split : input ≡ pieces kind id parts ++ rest

-- ---- one part more at the end

pub cut_more : (parts : List (List ℕ)) (q : List ℕ) → IsCut parts → last_full parts ≡ true → 0 < length q → length q ≤ 255 → IsCut (parts ++ q ∷ [])
cut_more [] q cut full some most = absurd cut
cut_more (p ∷ []) q cut full some most = (eqb-true _ _ full, some, most)
cut_more (p ∷ n ∷ ps) q cut full some most = (cut.0, cut.1, cut_more (n ∷ ps) q cut.2 full some most)

pub joined_more : (parts : List (List ℕ)) (q : List ℕ) → joined (parts ++ q ∷ []) ≡ joined parts ++ q
joined_more [] q = append-nil q
joined_more (p ∷ ps) q = ap (λ (x : List ℕ). p ++ x) (joined_more ps q) ∙ sym (append_assoc p (joined ps) q)

pub fragments_more : (kind : ListKind) (parts : List (List ℕ)) (q : List ℕ) → fragments kind (parts ++ q ∷ []) ≡ fragments kind parts ++ piece (fragment_id kind) q
fragments_more kind [] q = append-nil (piece (fragment_id kind) q)
fragments_more kind (p ∷ ps) q = ap (λ (x : List ℕ). piece (fragment_id kind) p ++ x) (fragments_more kind ps q) ∙ sym (append_assoc (piece (fragment_id kind) p) (fragments kind ps) (piece (fragment_id kind) q))

pieces_more : (kind : ListKind) (id : ℕ) (parts : List (List ℕ)) (q : List ℕ) → IsCut parts → pieces kind id (parts ++ q ∷ []) ≡ pieces kind id parts ++ piece (fragment_id kind) q
pieces_more kind id [] q cut = absurd cut
pieces_more kind id (p ∷ ps) q cut = ap (λ (x : List ℕ). piece id p ++ x) (fragments_more kind ps q) ∙ sym (append_assoc (piece id p) (fragments kind ps) (piece (fragment_id kind) q))

pub last_full_more : (parts : List (List ℕ)) (q : List ℕ) → last_full (parts ++ q ∷ []) ≡ is_full q
last_full_more [] q = refl
last_full_more (p ∷ []) q = refl
last_full_more (p ∷ n ∷ ps) q = last_full_more (n ∷ ps) q

first_part_more : (parts : List (List ℕ)) (q : List ℕ) → IsCut parts → first_part (parts ++ q ∷ []) ≡ first_part parts
first_part_more [] q cut = absurd cut
first_part_more (p ∷ ps) q cut = refl

-- ---- the row of the pieces

abbrev fragment_row : ListKind → List (List ℕ) → List Piece
fragment_row kind [] = []
fragment_row kind (part ∷ parts) = record { id = fragment_id kind; octets = part } ∷ fragment_row kind parts

abbrev pub row_of : ListKind → ℕ → List (List ℕ) → List Piece
row_of kind id [] = []
row_of kind id (part ∷ parts) = record { id = id; octets = part } ∷ fragment_row kind parts

not_extended : (kind : ListKind) → is_extended kind (fragment_id kind) ≡ false
not_extended Elements = refl
not_extended Subelements = refl

fragment_row_text : (kind : ListKind) (parts : List (List ℕ)) → row_text (fragment_row kind parts) ≡ fragments kind parts
fragment_row_text kind [] = refl
fragment_row_text kind (p ∷ ps) = ap (λ (x : List ℕ). piece (fragment_id kind) p ++ x) (fragment_row_text kind ps)

pub row_of_text : (kind : ListKind) (id : ℕ) (parts : List (List ℕ)) → row_text (row_of kind id parts) ≡ pieces kind id parts
row_of_text kind id [] = refl
row_of_text kind id (p ∷ ps) = ap (λ (x : List ℕ). piece id p ++ x) (fragment_row_text kind ps)

cut_short : (q : List ℕ) (ps : List (List ℕ)) → IsCut (q ∷ ps) → length q ≤ 255
cut_short q [] cut = cut
cut_short q (n ∷ ps) cut = omega (arith, cut.0)

-- what follows a part p of a cut is a row behind p
fragment_row_is_row : (kind : ListKind) (p : List ℕ) (parts : List (List ℕ)) → IsCut (p ∷ parts) → IsRow kind (is_full p) (fragment_row kind parts)
fragment_row_is_row kind p [] cut = tt
fragment_row_is_row kind p (q ∷ ps) cut =
    let full : is_full p ≡ true = rw cut.0 refl in
    let short : length q ≤ 255 = cut_short q ps cut.2 in
    (record { short = short; continued = λ _. (full, cut.1); extended = λ e. absurd (cc (not_extended kind)) }, fragment_row_is_row kind q ps cut.2)

pub row_of_is_row : (kind : ListKind) (id : ℕ) (parts : List (List ℕ)) → IsCut parts → IsPiece kind false (record { id = id; octets = first_part parts }) → IsRow kind false (row_of kind id parts)
row_of_is_row kind id [] cut first = absurd cut
row_of_is_row kind id (p ∷ ps) cut first = (first, fragment_row_is_row kind p ps cut)

fragment_row_full : (kind : ListKind) (p : List ℕ) (parts : List (List ℕ)) → full_after (is_full p) (fragment_row kind parts) ≡ last_full (p ∷ parts)
fragment_row_full kind p [] = refl
fragment_row_full kind p (q ∷ ps) = fragment_row_full kind q ps

pub row_of_full : (kind : ListKind) (id : ℕ) (parts : List (List ℕ)) → IsCut parts → full_after false (row_of kind id parts) ≡ last_full parts
row_of_full kind id [] cut = absurd cut
row_of_full kind id (p ∷ ps) cut = fragment_row_full kind p ps

-- ---- rows one after the other

pub IsRow-append : (kind : ListKind) (full : Bool) (xs ys : List Piece) → IsRow kind full xs → IsRow kind (full_after full xs) ys → IsRow kind full (xs ++ ys)
IsRow-append kind full [] ys a b = b
IsRow-append kind full (x ∷ xs) ys a b = (a.0, IsRow-append kind (is_full x.octets) xs ys a.1 b)

pub row_text-append : (xs ys : List Piece) → row_text (xs ++ ys) ≡ row_text xs ++ row_text ys
row_text-append [] ys = refl
row_text-append (x ∷ xs) ys = ap (λ (t : List ℕ). piece x.id x.octets ++ t) (row_text-append xs ys) ∙ sym (append_assoc (piece x.id x.octets) (row_text xs) (row_text ys))

pub full_after-append : (full : Bool) (xs ys : List Piece) → full_after full (xs ++ ys) ≡ full_after (full_after full xs) ys
full_after-append full [] ys = refl
full_after-append full (x ∷ xs) ys = full_after-append (is_full x.octets) xs ys

-- ---- the loop over the Fragments

pub starts : (kind : ListKind) (id : ℕ) (octets input rest : List ℕ) → IsPiece kind false (record { id = id; octets = octets }) → input ≡ piece id octets ++ rest → Joins kind id octets (is_full octets) input rest
starts kind id octets input rest whole split = record {
  parts = octets ∷ [];
  cut = whole.short;
  whole = append-nil octets;
  ends = refl;
  first = whole;
  split = split ∙ ap (λ (x : List ℕ). x ++ rest) (sym (append-nil (piece id octets)));
}

-- a Fragment that follows has the ID of one
fragment_follows : (kind : ListKind) (id : ℕ) (q after rest : List ℕ) → begins_with_fragment kind rest ≡ true → rest ≡ piece id q ++ after → id ≡ fragment_id kind
fragment_follows kind id q after rest begins split = eqb-true _ _ (sym (ap (begins_with_fragment kind) split) ∙ begins)

pub goes_on : (kind : ListKind) (id next : ℕ) (information q input rest after : List ℕ) → Joins kind id information true input rest → begins_with_fragment kind rest ≡ true
    → rest ≡ piece next q ++ after → IsPiece kind true (record { id = next; octets = q }) → Joins kind id (information ++ q) (is_full q) input after
goes_on kind id next information q input rest after so_far begins split whole =
    let is_fragment = fragment_follows kind next q after rest begins split in
    record {
      parts = so_far.parts ++ q ∷ [];
      cut = cut_more so_far.parts q so_far.cut so_far.ends (whole.continued is_fragment).1 whole.short;
      whole = joined_more so_far.parts q ∙ ap (λ (x : List ℕ). x ++ q) so_far.whole;
      ends = last_full_more so_far.parts q;
      first = subst (λ (part : List ℕ). IsPiece kind false (record { id = id; octets = part })) (sym (first_part_more so_far.parts q so_far.cut)) so_far.first;
      split = so_far.split ∙ ap (λ (x : List ℕ). pieces kind id so_far.parts ++ x) split ∙ ap (λ (i : ℕ). pieces kind id so_far.parts ++ (piece i q ++ after)) is_fragment
          ∙ sym (append_assoc (pieces kind id so_far.parts) (piece (fragment_id kind) q) after)
          ∙ ap (λ (x : List ℕ). x ++ after) (sym (pieces_more kind id so_far.parts q so_far.cut));
    }

-- what is refused behind the pieces is refused in the input
pub carries : (kind : ListKind) (id : ℕ) (information : List ℕ) (full : Bool) (input rest : List ℕ) (left : ℕ) (why : Why) → Joins kind id information full input rest → IsCutOff kind full rest left why → IsCutOff kind false input left why
carries kind id information full input rest left why so_far cut_off =
    let row = row_of kind id so_far.parts in
    let ends : full_after false row ≡ full = row_of_full kind id so_far.parts so_far.cut ∙ so_far.ends in
    record {
      row = row ++ cut_off.row;
      rest = cut_off.rest;
      is_row = IsRow-append kind false row cut_off.row (row_of_is_row kind id so_far.parts so_far.cut so_far.first) (subst (λ (b : Bool). IsRow kind b cut_off.row) (sym ends) cut_off.is_row);
      split = so_far.split ∙ ap (λ (x : List ℕ). pieces kind id so_far.parts ++ x) cut_off.split
          ∙ sym (append_assoc (pieces kind id so_far.parts) (row_text cut_off.row) cut_off.rest)
          ∙ ap (λ (x : List ℕ). (x ++ row_text cut_off.row) ++ cut_off.rest) (sym (row_of_text kind id so_far.parts))
          ∙ ap (λ (x : List ℕ). x ++ cut_off.rest) (sym (row_text-append row cut_off.row));
      counted = cut_off.counted;
      fault = ap (λ (b : Bool). fault_at kind b cut_off.rest) (full_after-append false row cut_off.row ∙ ap (λ (b : Bool). full_after b cut_off.row) ends) ∙ cut_off.fault;
    }

-- a test that is failed at once
pub at_once : (kind : ListKind) (full : Bool) (octets : List ℕ) (why : Why) → fault_at kind full octets ≡ Some why → IsCutOff kind full octets (length octets) why
at_once kind full octets why fault = record { row = []; rest = octets; is_row = tt; split = refl; counted = refl; fault = fault }

-- where no Fragment follows, it doesn't matter whether the piece before is full
same_fault : (kind : ListKind) (full : Bool) (rest : List ℕ) (why : Why) → (full && begins_with_fragment kind rest) ≡ false → fault_at kind false rest ≡ Some why → fault_at kind full rest ≡ Some why
unfolding fault_at
same_fault kind false rest why over fault = fault
same_fault kind true [] why over fault = fault
same_fault kind true (id ∷ []) why over fault = fault
same_fault kind true (id ∷ len ∷ rest) why over fault = rw over (rw over at fault)

of_row : (kind : ListKind) (full : Bool) (octets : List ℕ) (left : ℕ) (why : Why) (row : List Piece) (rest : List ℕ) → (full && begins_with_fragment kind octets) ≡ false
    → IsRow kind false row → octets ≡ row_text row ++ rest → left ≡ length rest → fault_at kind (full_after false row) rest ≡ Some why → IsCutOff kind full octets left why
of_row kind full octets left why [] rest over is_row split counted fault =
    record { row = []; rest = rest; is_row = tt; split = split; counted = counted; fault = same_fault kind full rest why (ap (λ (x : List ℕ). full && begins_with_fragment kind x) (sym split) ∙ over) fault }
of_row kind full octets left why (p ∷ row) rest over is_row split counted fault =
    let whole : IsPiece kind full p = record { short = is_row.0.short; continued = λ e. absurd (cc ((is_row.0.continued e).0)); extended = is_row.0.extended } in
    record { row = p ∷ row; rest = rest; is_row = (whole, is_row.1); split = split; counted = counted; fault = fault }

other_flag : (kind : ListKind) (full : Bool) (rest : List ℕ) (left : ℕ) (why : Why) → (full && begins_with_fragment kind rest) ≡ false → IsCutOff kind false rest left why → IsCutOff kind full rest left why
other_flag kind full rest left why over cut_off = of_row kind full rest left why cut_off.row cut_off.rest over cut_off.is_row cut_off.split cut_off.counted cut_off.fault

-- the information of a piece that isn't empty isn't empty
some_information : (parts : List (List ℕ)) → 0 < length (first_part parts) → 0 < length (joined parts)
some_information [] some = some
some_information (p ∷ ps) some = omega (arith, length-append p (joined ps))

pub is_taken : (kind : ListKind) (id : ℕ) (information : List ℕ) (full : Bool) (input rest : List ℕ) → Joins kind id information full input rest → (full && begins_with_fragment kind rest) ≡ false → IsTaken kind id information rest input
is_taken kind id information full input rest so_far over = record {
  front = pieces kind id so_far.parts;
  split = so_far.split;
  written = record { parts = so_far.parts; cut = so_far.cut; whole = so_far.whole; written = refl };
  fresh = λ e. absurd (cc ((so_far.first.continued e).0));
  extended = λ e. subst (λ (x : List ℕ). 0 < length x) so_far.whole (some_information so_far.parts (so_far.first.extended e));
  goes_on = λ left why cut_off. carries kind id information full input rest left why so_far (other_flag kind full rest left why over cut_off);
}

pub is_over : (full begins : Bool) → begins ≡ false → (full && begins) ≡ false
is_over true begins e = e
is_over false begins e = refl
