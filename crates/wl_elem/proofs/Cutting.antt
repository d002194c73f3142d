-- The loop that cuts a list into its items.
use Rattle.std.proofs.Common.{◌≡◌, ℕ, ◌≤◌, ◌+◌, ◌*◌, false, List, [], ◌∷◌, ◌++◌, length, refl, sym, ap, subst, ◌∙◌, append_assoc, arith, length-append}
use Rattle.std.proofs.lemmas.List.{append-nil}
use Rattle.wl_elem.specs.declared.why.Why.{Why}
use Rattle.wl_elem.specs.declared.kind.ListKind.{ListKind}
use Rattle.wl_elem.specs.declared.item.Item.{Item}
use Rattle.wl_elem.specs.declared.block.Stop.{Stop}
use Rattle.wl_elem.specs.declared.block.Stop.TheVariants as stops
use Rattle.wl_elem.specs.Block.{IsTaken, IsStopped, IsWithin}
use Rattle.wl_elem.specs.Cutting.{IsCut, joined, fragments, pieces, IsWritten}
use Rattle.wl_elem.specs.Items.{Items}
use Rattle.wl_elem.specs.Row.{row_text, IsCutOff}

abbrev pub item : ℕ → List ℕ → Item
item id octets = record { id = id; octets = octets }

-- the items read so far, and the rest of the input
pub record Reads (kind : ListKind) (list : List Item) (input rest : List ℕ) : Type 0 where
  pub front : List ℕ
  pub split : input ≡ front ++ rest
  pub spelled : Items kind list front
  pub counted : 2 * length list ≤ length front
  pub refused : (left : ℕ) (why : Why) → IsCutOff kind false rest left why → IsCutOff kind false input left why

pub begins : (kind : ListKind) (input : List ℕ) → Reads kind [] input input
begins kind input = record { front = []; split = refl; spelled = refl; counted = omega arith; refused = λ left why h. h }

Items-append : (kind : ListKind) (xs ys : List Item) (a b : List ℕ) → Items kind xs a → Items kind ys b → Items kind (xs ++ ys) (a ++ b)
Items-append kind [] ys a b p q = subst (λ (x : List ℕ). Items kind ys x) (ap (λ (x : List ℕ). x ++ b) (sym p)) q
Items-append kind (x ∷ xs) ys a b (front, rest, split, s, more) q = (front, rest ++ b, ap (λ (t : List ℕ). t ++ b) split ∙ append_assoc front rest b, s, Items-append kind xs ys rest b more q)

-- a written item has two octets at least more than its information
length-fragments : (kind : ListKind) (parts : List (List ℕ)) → length (joined parts) ≤ length (fragments kind parts)
length-fragments kind [] = omega arith
length-fragments kind (p ∷ ps) = omega (arith, length-fragments kind ps, length-append p (joined ps), length-append p (fragments kind ps))

length-pieces : (kind : ListKind) (id : ℕ) (parts : List (List ℕ)) → IsCut parts → length (joined parts) + 2 ≤ length (pieces kind id parts)
length-pieces kind id [] cut = absurd cut
length-pieces kind id (p ∷ ps) cut = omega (arith, length-fragments kind ps, length-append p (joined ps), length-append p (fragments kind ps))

length-written : (kind : ListKind) (id : ℕ) (info octets : List ℕ) → IsWritten kind id info octets → length info + 2 ≤ length octets
length-written kind id info octets w = omega (arith, ap length w.whole, ap length w.written, length-pieces kind id w.parts w.cut)

-- a taken item leaves less
pub length-taken : (kind : ListKind) (id : ℕ) (info rest input : List ℕ) → IsTaken kind id info rest input → length info + length rest + 2 ≤ length input
length-taken kind id info rest input t = omega (arith, length-written kind id info t.front t.written, ap length t.split, length-append t.front rest)

pub one_more : (kind : ListKind) (list : List Item) (input rest : List ℕ) (id : ℕ) (info after : List ℕ) → Reads kind list input rest → IsTaken kind id info after rest → Reads kind (list ++ item id info ∷ []) input after
one_more kind list input rest id info after so_far taken =
    let one : Items kind (item id info ∷ []) taken.front = (taken.front, [], sym (append-nil taken.front), record { fresh = taken.fresh; extended = taken.extended; written = taken.written }, refl) in
    record {
      front = so_far.front ++ taken.front;
      split = so_far.split ∙ ap (λ (x : List ℕ). so_far.front ++ x) taken.split ∙ sym (append_assoc so_far.front taken.front after);
      spelled = Items-append kind list (item id info ∷ []) so_far.front taken.front so_far.spelled one;
      counted = omega (arith, so_far.counted, length-append list (item id info ∷ []), length-append so_far.front taken.front, length-written kind id info taken.front taken.written);
      refused = λ left why h. so_far.refused left why (taken.goes_on left why h);
    }

-- nothing is left
pub is_read : (kind : ListKind) (list : List Item) (input rest : List ℕ) → Reads kind list input rest → rest ≡ [] → Items kind list input
is_read kind list input rest so_far nil = subst (λ (x : List ℕ). Items kind list x) (sym (so_far.split ∙ ap (λ (x : List ℕ). so_far.front ++ x) nil ∙ append-nil so_far.front)) so_far.spelled

-- what stops the rest stops the input
pub stops_all : (kind : ListKind) (list : List Item) (input rest : List ℕ) (stop : Stop) → Reads kind list input rest → IsStopped kind rest stop → IsStopped kind input stop
stops_all kind list input rest (stops.CutOff left why) so_far stopped = so_far.refused left why stopped
stops_all kind list input rest stops.Memory so_far stopped = tt

-- no more is left than there was
pub left_within : (kind : ListKind) (octets : List ℕ) (left : ℕ) (why : Why) → IsCutOff kind false octets left why → left ≤ length octets
left_within kind octets left why h = omega (arith, h.counted, ap length h.split, length-append (row_text h.row) h.rest)

pub is_within : (kind : ListKind) (octets : List ℕ) (stop : Stop) → IsStopped kind octets stop → IsWithin (length octets) stop
is_within kind octets (stops.CutOff left why) stopped = left_within kind octets left why stopped
is_within kind octets stops.Memory stopped = tt
