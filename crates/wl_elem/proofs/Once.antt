-- Octets are read in one way: a row of pieces and what stops it are determined by the octets.
use Rattle.std.proofs.Common.{◌≡◌, ℕ, ◌<◌, Bool, true, false, cond, eqb, List, [], ◌∷◌, ◌++◌, length, None, Some, refl, sym, ap, subst, ◌∙◌, append_assoc, arith, length-append, inl, inr}
use Rattle.std.specs.Prelude.{◌&&◌, ◌==◌, ◌⊎◌, not}
use Rattle.std.proofs.Common.{eq-eqb, le-ltb}
use Rattle.std.proofs.lemmas.List.{append-nil}
use Rattle.std.proofs.lemmas.Bool.{eqb-true, ne_eqb}
use Rattle.wl_elem.specs.declared.why.Why.{Why}
use Rattle.wl_elem.specs.declared.kind.ListKind.{ListKind}
use Rattle.wl_elem.specs.Cutting.{fragment_id, IsCut, joined, piece, fragments, pieces}
use Rattle.wl_elem.specs.Row.{Piece, IsPiece, IsRow, row_text, full_after, is_full, is_extended, fault_at, IsCutOff}
use Rattle.wl_elem.specs.Block.{begins_with_fragment}

-- ---- lists

-- two fronts of one length, with their rests, are one list only where fronts and rests are equal
pub fronts : {A : Type 0} (a b x y : List A) → length a ≡ length b → a ++ x ≡ b ++ y → (a ≡ b) × (x ≡ y)
fronts [] [] x y len e = (refl, e)
fronts [] (b ∷ bs) x y len e = absurd (omega (arith, len))
fronts (a ∷ others) [] x y len e = absurd (omega (arith, len))
fronts (a ∷ others) (b ∷ bs) x y len e =
    let heads : a ≡ b = cc in
    let tails : others ++ x ≡ bs ++ y = cc in
    let lens : length others ≡ length bs = omega (arith, len) in
    let more = fronts others bs x y lens tails in
    let first = more.0 in
    (cc, more.1)

-- ---- rows

and_not : (x full : Bool) → (x ≡ true → full ≡ true) → (x && not full) ≡ false
and_not true full h = rw (h refl) refl
and_not false full h = refl

and_empty : (x : Bool) (n : ℕ) → (x ≡ true → 0 < n) → (x && (n == 0)) ≡ false
and_empty true n h = let some : 0 < n = h refl in ne_eqb n 0 (λ e. omega (arith, e))
and_empty false n h = refl

passes : {A : Type 0} (a b c d : Bool) (v w x y z : A) → a ≡ false → b ≡ false → c ≡ false → d ≡ false → cond a v (cond b w (cond c x (cond d y z))) ≡ z
passes a b c d v w x y z p q r t = rw (p, q, r, t) refl

-- no test is failed at a whole piece
pub no_fault : (kind : ListKind) (full : Bool) (p : Piece) (more : List ℕ) → IsPiece kind full p → fault_at kind full (piece p.id p.octets ++ more) ≡ None
unfolding fault_at
no_fault kind full p more whole =
    passes _ _ _ _ _ _ _ _ _
    (and_not (eqb p.id (fragment_id kind)) full (λ e. (whole.continued (eqb-true _ _ e)).0))
    (and_empty (eqb p.id (fragment_id kind)) (length p.octets) (λ e. (whole.continued (eqb-true _ _ e)).1))
    (and_empty (is_extended kind p.id) (length p.octets) whole.extended)
    (le-ltb (length (p.octets ++ more)) (length p.octets) (omega (arith, length-append p.octets more)))

-- a row stops where nothing is left or a test is failed
abbrev pub Stops : ListKind → Bool → List ℕ → Type 0
Stops kind full rest = (rest ≡ []) ⊎ ((why : Why) × (fault_at kind full rest ≡ Some why))

no_stop : (kind : ListKind) (full : Bool) (p : Piece) (more rest : List ℕ) → IsPiece kind full p → rest ≡ piece p.id p.octets ++ more → Stops kind full rest → ⊥
no_stop kind full p more rest whole e (inl nil) = absurd (cc (e, nil))
no_stop kind full p more rest whole e (inr fault) = absurd (cc (sym fault.1 ∙ ap (fault_at kind full) e ∙ no_fault kind full p more whole))

same_piece : (i j : ℕ) (a b : List ℕ) → i ≡ j → a ≡ b → (let x : Piece = record { id = i; octets = a } in x) ≡ (let y : Piece = record { id = j; octets = b } in y)
same_piece i j a b e f = cc

eqb-same : (n : ℕ) → eqb n n ≡ true
eqb-same n = eq-eqb n n refl

nothing_left : (kind : ListKind) (full : Bool) → fault_at kind full [] ≡ None
unfolding fault_at
nothing_left kind full = refl

-- octets are one row up to where it stops
pub one_row : (kind : ListKind) (full : Bool) (xs ys : List Piece) (rest other : List ℕ) → IsRow kind full xs → IsRow kind full ys → Stops kind (full_after full xs) rest → Stops kind (full_after full ys) other
    → row_text xs ++ rest ≡ row_text ys ++ other → (xs ≡ ys) × (rest ≡ other)
one_row kind full [] [] rest other p q s t e = (refl, e)
one_row kind full [] (y ∷ ys) rest other p q s t e = absurd (no_stop kind full y (row_text ys ++ other) rest q.0 (e ∙ append_assoc (piece y.id y.octets) (row_text ys) other) s)
one_row kind full (x ∷ xs) [] rest other p q s t e = absurd (no_stop kind full x (row_text xs ++ rest) other p.0 (sym e ∙ append_assoc (piece x.id x.octets) (row_text xs) rest) t)
one_row kind full (x ∷ xs) (y ∷ ys) rest other p q s t e =
    let whole : x.id ∷ length x.octets ∷ (x.octets ++ (row_text xs ++ rest)) ≡ y.id ∷ length y.octets ∷ (y.octets ++ (row_text ys ++ other))
    = sym (append_assoc (piece x.id x.octets) (row_text xs) rest) ∙ e ∙ append_assoc (piece y.id y.octets) (row_text ys) other in
    let ids : x.id ≡ y.id = cc in
    let lens : length x.octets ≡ length y.octets = cc in
    let tails : x.octets ++ (row_text xs ++ rest) ≡ y.octets ++ (row_text ys ++ other) = cc in
    let parts = fronts x.octets y.octets (row_text xs ++ rest) (row_text ys ++ other) lens tails in
    let flags : is_full y.octets ≡ is_full x.octets = ap is_full (sym parts.0) in
    let more = one_row kind (is_full x.octets) xs ys rest other p.1 (subst (λ (b : Bool). IsRow kind b ys) flags q.1) s (subst (λ (b : Bool). Stops kind (full_after b ys) other) flags t) parts.1 in
    let first : x ≡ y = same_piece x.id y.id x.octets y.octets ids parts.0 in
    (ap (λ (z : Piece). z ∷ xs) first ∙ ap (λ (zs : List Piece). y ∷ zs) more.0, more.1)

-- one refusal
pub one_cut_off : (kind : ListKind) (octets : List ℕ) (left other : ℕ) (why because : Why) → IsCutOff kind false octets left why → IsCutOff kind false octets other because → (left ≡ other) × (why ≡ because)
one_cut_off kind octets left other why because a b =
    let same = one_row kind false a.row b.row a.rest b.rest a.is_row b.is_row (inr (why, a.fault)) (inr (because, b.fault)) (sym a.split ∙ b.split) in
    let rests : a.rest ≡ b.rest = same.1 in
    let lefts : left ≡ other = a.counted ∙ ap length rests ∙ sym b.counted in
    let faults : Some why ≡ Some because = sym a.fault ∙ ap (λ (row : List Piece). fault_at kind (full_after false row) a.rest) same.0 ∙ ap (λ (rest : List ℕ). fault_at kind (full_after false b.row) rest) rests ∙ b.fault in
    (lefts, cc)

-- a whole row isn't refused
pub no_cut_off : (kind : ListKind) (row : List Piece) (left : ℕ) (why : Why) → IsRow kind false row → IsCutOff kind false (row_text row) left why → ⊥
no_cut_off kind row left why is_row a =
    let same = one_row kind false row a.row [] a.rest is_row a.is_row (inl refl) (inr (why, a.fault)) (append-nil (row_text row) ∙ a.split) in
    let none : fault_at kind (full_after false a.row) a.rest ≡ None = ap (fault_at kind (full_after false a.row)) (sym same.1) ∙ nothing_left kind (full_after false a.row) in
    absurd (cc (none, a.fault))

-- ---- one item

-- the parts of information are determined by it
pub one_cut : (ps qs : List (List ℕ)) → IsCut ps → IsCut qs → joined ps ≡ joined qs → ps ≡ qs
one_cut [] qs a b e = absurd a
one_cut (p ∷ ps) [] a b e = absurd b
one_cut (p ∷ []) (q ∷ []) a b e =
    let same : p ≡ q = sym (append-nil p) ∙ e ∙ append-nil q in
    cc
one_cut (p ∷ []) (q ∷ m ∷ qs) a b e = absurd (omega (arith, ap length e, length-append p [], length-append q (m ++ joined qs), length-append m (joined qs), b.0, b.1))
one_cut (p ∷ n ∷ ps) (q ∷ []) a b e = absurd (omega (arith, ap length e, length-append q [], length-append p (n ++ joined ps), length-append n (joined ps), a.0, a.1))
one_cut (p ∷ n ∷ ps) (q ∷ m ∷ qs) a b e =
    let parts = fronts p q (joined (n ∷ ps)) (joined (m ∷ qs)) (a.0 ∙ sym b.0) e in
    let first = parts.0 in
    let more : n ∷ ps ≡ m ∷ qs = one_cut (n ∷ ps) (m ∷ qs) a.2 b.2 parts.1 in
    cc

-- the Fragments up to where none follows
one_fragments : (kind : ListKind) (ps qs : List (List ℕ)) (rest other : List ℕ) → begins_with_fragment kind rest ≡ false → begins_with_fragment kind other ≡ false
    → fragments kind ps ++ rest ≡ fragments kind qs ++ other → (ps ≡ qs) × (rest ≡ other)
one_fragments kind [] [] rest other a b e = (refl, e)
one_fragments kind [] (q ∷ qs) rest other a b e =
    let begins : begins_with_fragment kind rest ≡ true = ap (begins_with_fragment kind) e ∙ eqb-same (fragment_id kind) in
    absurd (cc (a, begins))
one_fragments kind (p ∷ ps) [] rest other a b e =
    let begins : begins_with_fragment kind other ≡ true = ap (begins_with_fragment kind) (sym e) ∙ eqb-same (fragment_id kind) in
    absurd (cc (b, begins))
one_fragments kind (p ∷ ps) (q ∷ qs) rest other a b e =
    let whole : fragment_id kind ∷ length p ∷ (p ++ (fragments kind ps ++ rest)) ≡ fragment_id kind ∷ length q ∷ (q ++ (fragments kind qs ++ other))
    = sym (append_assoc (piece (fragment_id kind) p) (fragments kind ps) rest) ∙ e ∙ append_assoc (piece (fragment_id kind) q) (fragments kind qs) other in
    let lens : length p ≡ length q = cc in
    let tails : p ++ (fragments kind ps ++ rest) ≡ q ++ (fragments kind qs ++ other) = cc in
    let parts = fronts p q (fragments kind ps ++ rest) (fragments kind qs ++ other) lens tails in
    let first = parts.0 in
    let more = one_fragments kind ps qs rest other a b parts.1 in
    let others = more.0 in
    (cc, more.1)

-- one item and one rest
pub one_item : (kind : ListKind) (id other_id : ℕ) (ps qs : List (List ℕ)) (rest other : List ℕ) → IsCut ps → IsCut qs → begins_with_fragment kind rest ≡ false → begins_with_fragment kind other ≡ false
    → pieces kind id ps ++ rest ≡ pieces kind other_id qs ++ other → (id ≡ other_id) × (ps ≡ qs) × (rest ≡ other)
one_item kind id other_id [] qs rest other c d a b e = absurd c
one_item kind id other_id (p ∷ ps) [] rest other c d a b e = absurd d
one_item kind id other_id (p ∷ ps) (q ∷ qs) rest other c d a b e =
    let whole : id ∷ length p ∷ (p ++ (fragments kind ps ++ rest)) ≡ other_id ∷ length q ∷ (q ++ (fragments kind qs ++ other))
    = sym (append_assoc (piece id p) (fragments kind ps) rest) ∙ e ∙ append_assoc (piece other_id q) (fragments kind qs) other in
    let ids : id ≡ other_id = cc in
    let lens : length p ≡ length q = cc in
    let tails : p ++ (fragments kind ps ++ rest) ≡ q ++ (fragments kind qs ++ other) = cc in
    let parts = fronts p q (fragments kind ps ++ rest) (fragments kind qs ++ other) lens tails in
    let first = parts.0 in
    let more = one_fragments kind ps qs rest other a b parts.1 in
    let others = more.0 in
    (ids, cc, more.1)
