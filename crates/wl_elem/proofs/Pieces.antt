-- Writing the pieces of an item: how long they are, and the loop over the Fragments.
use Rattle.std.proofs.Common.{◌≡◌, ℕ, ◌<◌, ◌≤◌, ◌+◌, ◌*◌, ◌-◌, ◌/◌, true, List, [], ◌∷◌, ◌++◌, length, Option, None, Some, refl, sym, ap, ◌∙◌, append_assoc, arith, length-append, inl, inr}
use Rattle.std.proofs.lemmas.List.{append-nil}
use Rattle.std.proofs.lemmas.Bool.{cases_lt, le-leb, lt-leb}
use Rattle.wl_elem.specs.declared.kind.ListKind.{ListKind}
use Rattle.wl_elem.specs.declared.item.Item.{Item}
use Rattle.wl_elem.specs.Cutting.{fragment_id, IsCut, joined, piece, fragments, pieces, IsWritten}
use Rattle.wl_elem.specs.Element.{information_of}
use Rattle.wl_elem.specs.Encoding.{AddsFragments, AddsPieces}
use Rattle.wl_elem.specs.Items.{Items, written_len, items_len}
use Rattle.wl_elem.proofs.Joining.{last_full, cut_more, joined_more, fragments_more, last_full_more}

-- ---- lengths

length-fragments : (kind : ListKind) (parts : List (List ℕ)) → length (fragments kind parts) ≡ length (joined parts) + 2 * length parts
length-fragments kind [] = refl
length-fragments kind (p ∷ ps) = omega (arith, length-fragments kind ps, length-append p (joined ps), length-append p (fragments kind ps))

length-pieces : (kind : ListKind) (id : ℕ) (parts : List (List ℕ)) → length (pieces kind id parts) ≡ length (joined parts) + 2 * length parts
length-pieces kind id [] = refl
length-pieces kind id (p ∷ ps) = omega (arith, length-fragments kind ps, length-append p (joined ps), length-append p (fragments kind ps))

-- how many parts there are, from how many octets they have
count_parts : (parts : List (List ℕ)) → IsCut parts → (length (joined parts) ≤ 255 * length parts) × (255 * length parts < length (joined parts) + 255 + (255 - length (joined parts))) × (0 < length parts)
count_parts [] cut = absurd cut
count_parts (p ∷ []) cut = (omega (arith, length-append p []), omega (arith, length-append p []), omega arith)
count_parts (p ∷ n ∷ ps) cut =
    let more = count_parts (n ∷ ps) cut.2 in
    let all = length-append p (joined (n ∷ ps)) in
    let some = length-append n (joined ps) in
    (omega (arith, more.0, all, cut.0), omega (arith, more.1, all, some, cut.0, cut.1), omega arith)

written_short : (len : ℕ) → len ≤ 255 → written_len len ≡ len + 2
written_short len le = rw (le-leb len 255 le) refl

written_long : (len : ℕ) → 255 < len → written_len len ≡ len + 2 * ((len + 254) / 255)
written_long len lt = rw (lt-leb len 255 lt) refl

pub short_length : (kind : ListKind) (id : ℕ) (info octets : List ℕ) → length info ≤ 255 → IsWritten kind id info octets → length octets ≡ length info + 2
short_length kind id info octets short w =
    let counted = count_parts w.parts w.cut in
    omega (arith, short, counted.0, counted.1, counted.2, ap length w.whole, ap length w.written, length-pieces kind id w.parts)

pub long_length : (kind : ListKind) (id : ℕ) (info octets : List ℕ) → 255 < length info → IsWritten kind id info octets → length octets ≡ length info + 2 * ((length info + 254) / 255)
long_length kind id info octets long w =
    let counted = count_parts w.parts w.cut in
    omega (arith, long, counted.0, counted.1, counted.2, ap length w.whole, ap length w.written, length-pieces kind id w.parts)

written_length : (kind : ListKind) (id : ℕ) (info octets : List ℕ) → IsWritten kind id info octets → length octets ≡ written_len (length info)
written_length kind id info octets w =
    elim (cases_lt 255 (length info)) [
      | inl long ↦ long_length kind id info octets long w ∙ sym (written_long (length info) long)
      | inr short ↦ short_length kind id info octets short w ∙ sym (written_short (length info) short)
    ]

pub items_length : (kind : ListKind) (list : List Item) (octets : List ℕ) → Items kind list octets → length octets ≡ items_len list
items_length kind [] octets cut = ap length cut
items_length kind (item ∷ list) octets (front, rest, split, s, more) = omega (arith, ap length split, length-append front rest, written_length kind item.id item.octets front s.written, items_length kind list rest more)

-- ---- the Fragments

-- the Fragments written so far, and the rest
pub record Writes (kind : ListKind) (octets rest old new : List ℕ) : Type 0 where
  pub parts : List (List ℕ)
  pub split : octets ≡ joined parts ++ rest
  pub written : new ≡ old ++ fragments kind parts
  pub cut : (p : List ℕ) → length p ≡ 255 → IsCut (p ∷ parts)
  pub full : (p : List ℕ) → length p ≡ 255 → 0 < length rest → last_full (p ∷ parts) ≡ true
  pub some : 0 < length parts → 0 < length octets

full_is : (p : List ℕ) → length p ≡ 255 → last_full (p ∷ []) ≡ true
full_is p e = rw e refl

pub writes_none : (kind : ListKind) (octets old : List ℕ) → Writes kind octets octets old old
writes_none kind octets old = record {
  parts = [];
  split = refl;
  written = sym (append-nil old);
  cut = λ p e. omega (arith, e);
  full = λ p e some. full_is p e;
  some = λ h. absurd (omega (arith, h));
}

pub writes_more : (kind : ListKind) (octets rest old new part after newer : List ℕ) → Writes kind octets rest old new → rest ≡ part ++ after → 0 < length part → length part ≤ 255 → (0 < length after → length part ≡ 255)
    → newer ≡ new ++ piece (fragment_id kind) part → Writes kind octets after old newer
writes_more kind octets rest old new part after newer so_far split some short full added =
    let more : 0 < length rest = omega (arith, ap length split, length-append part after) in
    record {
      parts = so_far.parts ++ part ∷ [];
      split = so_far.split ∙ ap (λ (x : List ℕ). joined so_far.parts ++ x) split ∙ sym (append_assoc (joined so_far.parts) part after) ∙ ap (λ (x : List ℕ). x ++ after) (sym (joined_more so_far.parts part));
      written = added ∙ ap (λ (x : List ℕ). x ++ piece (fragment_id kind) part) so_far.written ∙ append_assoc old (fragments kind so_far.parts) (piece (fragment_id kind) part) ∙ ap (λ (x : List ℕ). old ++ x) (sym (fragments_more kind so_far.parts part));
      cut = λ p e. cut_more (p ∷ so_far.parts) part (so_far.cut p e) (so_far.full p e more) some short;
      full = λ p e left. last_full_more (p ∷ so_far.parts) part ∙ full_is part (full left);
      some = λ h. omega (arith, ap length so_far.split, length-append (joined so_far.parts) rest, more);
    }

no_parts : (parts : List (List ℕ)) → (0 < length parts → ⊥) → parts ≡ []
no_parts [] h = refl
no_parts (p ∷ ps) h = absurd (h (omega arith))

pub all_written : (kind : ListKind) (octets rest old new : List ℕ) → Writes kind octets rest old new → rest ≡ [] → AddsFragments kind octets old new
all_written kind octets rest old new so_far nil = record {
  parts = so_far.parts;
  whole = sym (so_far.split ∙ ap (λ (x : List ℕ). joined so_far.parts ++ x) nil ∙ append-nil (joined so_far.parts));
  written = so_far.written;
  cut = so_far.cut;
  none = λ e. no_parts so_far.parts (λ h. omega (arith, so_far.some h, ap length e));
}

-- ---- an item

information_splits : (ext : Option ℕ) (first rest body : List ℕ) → body ≡ first ++ rest → information_of ext first ++ rest ≡ information_of ext body
information_splits (Some x) first rest body e = ap (λ (y : List ℕ). x ∷ y) (sym e)
information_splits None first rest body e = sym e

is_cut : (p : List ℕ) (parts : List (List ℕ)) → length p ≤ 255 → (0 < length parts → IsCut (p ∷ parts)) → IsCut (p ∷ parts)
is_cut p [] short h = short
is_cut p (q ∷ parts) short h = h (omega arith)

some_rest : (rest : List ℕ) (parts : List (List ℕ)) → 0 < length parts → (rest ≡ [] → parts ≡ []) → 0 < length rest
some_rest [] parts some none = absurd (omega (arith, ap length (none refl)))
some_rest (x ∷ rest) parts some none = omega arith

-- the first piece and the Fragments are the pieces
pub adds_pieces : (kind : ListKind) (id : ℕ) (ext : Option ℕ) (octets first rest old new newer : List ℕ) → octets ≡ first ++ rest → length (information_of ext first) ≤ 255
    → (0 < length rest → length (information_of ext first) ≡ 255) → new ≡ old ++ piece id (information_of ext first) → AddsFragments kind rest new newer → AddsPieces kind id (information_of ext octets) old newer
adds_pieces kind id ext octets first rest old new newer split short full added more =
    let part = information_of ext first in
    let parts = part ∷ more.parts in
    let joins = information_splits ext first rest octets split in (
      pieces kind id parts,
      record { parts = parts; cut = is_cut part more.parts short (λ h. more.cut part (full (some_rest rest more.parts h more.none))); whole = ap (λ (x : List ℕ). part ++ x) more.whole ∙ joins; written = refl },
      more.written ∙ ap (λ (x : List ℕ). x ++ fragments kind more.parts) added ∙ append_assoc old (piece id part) (fragments kind more.parts),
    )
