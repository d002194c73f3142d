-- Marks that become done, and the base behind them.
use Rattle.std.proofs.Common.{◌≡◌, ℕ, zero, suc, ◌+◌, ◌<◌, ◌≤◌, Bool, true, false, ◌||◌, eqb, ltb, eq-eqb, List, [], ◌∷◌, ◌++◌, length, set, drop, Some, None, refl, sym, ap, ◌∙◌, arith, inl, inr}
use Rattle.std.specs.Prelude.{slice_get}
use Rattle.std.proofs.lemmas.Bool.{ne_eqb, lt-ltb, le-ltb, cases_eq, cases_lt}
use Rattle.wl_window.specs.declared.mark.Mark.{Mark}
use Rattle.wl_window.specs.declared.mark.Mark.TheVariants.{Free, Booked, Done}
use Rattle.wl_window.specs.Numbering.{distance}
use Rattle.wl_window.specs.Originating.{free_mark, open_mark, done_mark, book_at, finish, finished, finishes, newly, settled, names, has_free}

-- ---- marks that become done

pub finished_same : (p q : ℕ → Bool) (marks : List Mark) → ((i : ℕ) → p i ≡ q i) → finished p marks ≡ finished q marks
finished_same p q [] e = refl
finished_same p q (mark ∷ marks) e = rw (e 0, finished_same (λ i. p (suc i)) (λ i. q (suc i)) marks (λ i. e (suc i))) refl

pub newly_same : (p q : ℕ → Bool) (marks : List Mark) → ((i : ℕ) → p i ≡ q i) → newly p marks ≡ newly q marks
newly_same p q [] e = refl
newly_same p q (mark ∷ marks) e = rw (e 0, newly_same (λ i. p (suc i)) (λ i. q (suc i)) marks (λ i. e (suc i))) refl

finish_both : (p q : Bool) (mark : Mark) → finish q (finish p mark) ≡ finish (p || q) mark
finish_both true true Free = refl
finish_both true true Booked = refl
finish_both true true Done = refl
finish_both true false Free = refl
finish_both true false Booked = refl
finish_both true false Done = refl
finish_both false q mark = refl

finishes_both : (p q : Bool) (mark : Mark) → finishes p mark + finishes q (finish p mark) ≡ finishes (p || q) mark
finishes_both true true Free = refl
finishes_both true true Booked = refl
finishes_both true true Done = refl
finishes_both true false Free = refl
finishes_both true false Booked = refl
finishes_both true false Done = refl
finishes_both false q mark = omega arith

pub finished_both : (p q : ℕ → Bool) (marks : List Mark) → finished q (finished p marks) ≡ finished (λ i. p i || q i) marks
finished_both p q [] = refl
finished_both p q (mark ∷ marks) = rw (finish_both (p 0) (q 0) mark, finished_both (λ i. p (suc i)) (λ i. q (suc i)) marks) refl

pub newly_both : (p q : ℕ → Bool) (marks : List Mark) → newly p marks + newly q (finished p marks) ≡ newly (λ i. p i || q i) marks
newly_both p q [] = refl
newly_both p q (mark ∷ marks) =
    let one = finishes_both (p 0) (q 0) mark in
    let more = newly_both (λ i. p (suc i)) (λ i. q (suc i)) marks in
    omega (arith, one, more)

finish_none : (p : Bool) (mark : Mark) → p ≡ false → (finish p mark ≡ mark) × (finishes p mark ≡ 0)
finish_none true mark e = absurd (cc)
finish_none false mark e = (refl, refl)

pub finished_none : (p : ℕ → Bool) (marks : List Mark) → ((i : ℕ) → p i ≡ false) → finished p marks ≡ marks
finished_none p [] e = refl
finished_none p (mark ∷ marks) e = rw ((finish_none (p 0) mark (e 0)).0, finished_none (λ i. p (suc i)) marks (λ i. e (suc i))) refl

pub newly_none : (p : ℕ → Bool) (marks : List Mark) → ((i : ℕ) → p i ≡ false) → newly p marks ≡ 0
newly_none p [] e = refl
newly_none p (mark ∷ marks) e = omega (arith, (finish_none (p 0) mark (e 0)).1, newly_none (λ i. p (suc i)) marks (λ i. e (suc i)))

finishes_one : (p : Bool) (mark : Mark) → finishes p mark ≤ 1
finishes_one true Free = omega arith
finishes_one true Booked = omega arith
finishes_one true Done = omega arith
finishes_one false mark = omega arith

pub newly_limit : (p : ℕ → Bool) (marks : List Mark) → newly p marks ≤ length marks
newly_limit p [] = omega arith
newly_limit p (mark ∷ marks) = omega (arith, finishes_one (p 0) mark, newly_limit (λ i. p (suc i)) marks)

pub finished_length : (p : ℕ → Bool) (marks : List Mark) → length (finished p marks) ≡ length marks
finished_length p [] = refl
finished_length p (mark ∷ marks) = ap suc (finished_length (λ i. p (suc i)) marks)

-- ---- one mark

suc_eqb : (i k : ℕ) → eqb (suc i) (suc k) ≡ eqb i k
suc_eqb i k = elim (cases_eq i k) [
  | inl e ↦ eq-eqb (suc i) (suc k) (omega arith) ∙ sym (eq-eqb i k e)
  | inr ne ↦ ne_eqb (suc i) (suc k) (λ e. ne (omega arith)) ∙ sym (ne_eqb i k ne)
]

never : (i : ℕ) → eqb (suc i) 0 ≡ false
never i = ne_eqb (suc i) 0 (λ e. omega arith)

-- the marks whose index passes became done, of which there were so many
pub record Finishes (passes : ℕ → Bool) (marks left : List Mark) (count : ℕ) : Type 0 where
  pub left_is : left ≡ finished passes marks
  pub count_is : count ≡ newly passes marks

-- the mark at an index alone
abbrev pub Alone : ℕ → List Mark → List Mark → ℕ → Type 0
Alone index = Finishes (λ k. eqb k index)

pub open_within : (index : ℕ) (marks : List Mark) → open_mark (slice_get marks index) ≡ true → index < length marks
open_within index [] e = absurd (cc)
open_within zero (mark ∷ marks) e = omega arith
open_within (suc index) (mark ∷ marks) e = omega (arith, open_within index marks e)

alone_first : (mark : Mark) (marks : List Mark) → finished (λ k. eqb k 0) (mark ∷ marks) ≡ finish true mark ∷ marks
alone_first mark marks = ap (λ (l : List Mark). finish true mark ∷ l) (finished_none (λ k. eqb (suc k) 0) marks never)

newly_first : (mark : Mark) (marks : List Mark) → newly (λ k. eqb k 0) (mark ∷ marks) ≡ finishes true mark
newly_first mark marks = let none = newly_none (λ k. eqb (suc k) 0) marks never in omega (arith, none)

alone_later : (index : ℕ) (mark : Mark) (marks left : List Mark) (count : ℕ) → Alone index marks left count → Alone (suc index) (mark ∷ marks) (mark ∷ left) count
alone_later index mark marks left count is =
    let same = finished_same (λ k. eqb (suc k) (suc index)) (λ k. eqb k index) marks (λ k. suc_eqb k index) in
    let none = finish_none (eqb 0 (suc index)) mark (ne_eqb 0 (suc index) (λ e. omega arith)) in
    record {
      left_is = rw (none.0, same) (ap (λ (l : List Mark). mark ∷ l) is.left_is);
      count_is = let counted = newly_same (λ k. eqb (suc k) (suc index)) (λ k. eqb k index) marks (λ k. suc_eqb k index) in omega (arith, none.1, counted, is.count_is);
    }

pub alone_open : (index : ℕ) (marks : List Mark) → open_mark (slice_get marks index) ≡ true → Alone index marks (set marks index Done) 1
alone_open index [] e = absurd (cc)
alone_open zero (Free ∷ marks) e = absurd (cc)
alone_open zero (Booked ∷ marks) e = record { left_is = sym (alone_first Booked marks); count_is = sym (newly_first Booked marks) }
alone_open zero (Done ∷ marks) e = absurd (cc)
alone_open (suc index) (mark ∷ marks) e = alone_later index mark marks (set marks index Done) 1 (alone_open index marks e)

pub alone_shut : (index : ℕ) (marks : List Mark) → open_mark (slice_get marks index) ≡ false → Alone index marks marks 0
alone_shut index [] e = record { left_is = refl; count_is = refl }
alone_shut zero (Free ∷ marks) e = record { left_is = sym (alone_first Free marks); count_is = sym (newly_first Free marks) }
alone_shut zero (Booked ∷ marks) e = absurd (cc)
alone_shut zero (Done ∷ marks) e = record { left_is = sym (alone_first Done marks); count_is = sym (newly_first Done marks) }
alone_shut (suc index) (mark ∷ marks) e = alone_later index mark marks marks 0 (alone_shut index marks e)

-- ---- a loop's step

pub one_more : (p q r : ℕ → Bool) (marks before after : List Mark) (count more : ℕ) → Finishes p marks before count → Finishes q before after more → ((i : ℕ) → (p i || q i) ≡ r i) → Finishes r marks after (count + more)
one_more p q r marks before after count more a b e = record {
  left_is = b.left_is ∙ ap (finished q) a.left_is ∙ finished_both p q marks ∙ finished_same (λ i. p i || q i) r marks e;
  count_is = let step = ap (newly q) a.left_is in omega (arith, a.count_is, b.count_is, step, newly_both p q marks, newly_same (λ i. p i || q i) r marks e);
}

pub none_yet : (p : ℕ → Bool) (marks : List Mark) → ((i : ℕ) → p i ≡ false) → Finishes p marks marks 0
none_yet p marks e = record { left_is = sym (finished_none p marks e); count_is = sym (newly_none p marks e) }

pub counted_below : (p : ℕ → Bool) (marks left : List Mark) (count : ℕ) → Finishes p marks left count → (count ≤ length marks) × (length left ≡ length marks)
counted_below p marks left count is = (omega (arith, is.count_is, newly_limit p marks), ap length is.left_is ∙ finished_length p marks)

pub below_none : (i : ℕ) → ltb i 0 ≡ false
below_none i = le-ltb i 0 (omega arith)

pub below_more : (index i : ℕ) → (ltb i index || eqb i index) ≡ ltb i (index + 1)
below_more index i = elim (cases_lt i index) [
  | inl lt ↦ rw (lt-ltb i index lt) (sym (lt-ltb i (index + 1) (omega arith)))
  | inr ge ↦ elim (cases_eq i index) [
    | inl e ↦ rw (le-ltb i index ge, eq-eqb i index e) (sym (lt-ltb i (index + 1) (omega arith)))
    | inr ne ↦ rw (le-ltb i index ge, ne_eqb i index ne) (sym (le-ltb i (index + 1) (omega arith)))
  ]
]

or_false : (b : Bool) → (b || false) ≡ b
or_false true = refl
or_false false = refl

or_assoc : (a b c : Bool) → ((a || b) || c) ≡ (a || (b || c))
or_assoc true b c = refl
or_assoc false b c = refl

eqb_sym : (i k : ℕ) → eqb i k ≡ eqb k i
eqb_sym i k = elim (cases_eq i k) [ inl e ↦ eq-eqb i k e ∙ sym (eq-eqb k i (sym e)) | inr ne ↦ ne_eqb i k ne ∙ sym (ne_eqb k i (λ e. ne (sym e))) ]

pub names_more : (base : ℕ) (numbers : List ℕ) (number i : ℕ) → (names base numbers i || eqb i (distance base number)) ≡ names base (numbers ++ number ∷ []) i
names_more base [] number i = eqb_sym i (distance base number) ∙ sym (or_false (eqb (distance base number) i))
names_more base (first ∷ numbers) number i =
    or_assoc (eqb (distance base first) i) (names base numbers i) (eqb i (distance base number)) ∙ ap (λ (b : Bool). eqb (distance base first) i || b) (names_more base numbers number i)

-- ---- booking

pub book_gap : (index : ℕ) (marks : List Mark) → length marks ≤ index → book_at index (marks ++ Free ∷ []) ≡ book_at index marks
book_gap zero [] le = refl
book_gap zero (mark ∷ marks) le = absurd (omega arith)
book_gap (suc index) [] le = refl
book_gap (suc index) (mark ∷ marks) le = ap (λ (l : List Mark). mark ∷ l) (book_gap index marks (omega arith))

pub book_set : (index : ℕ) (marks : List Mark) → index < length marks → set marks index Booked ≡ book_at index marks
book_set index [] lt = absurd (omega arith)
book_set zero (mark ∷ marks) lt = refl
book_set (suc index) (mark ∷ marks) lt = ap (λ (l : List Mark). mark ∷ l) (book_set index marks (omega arith))

-- ---- free marks

pub free_none : (count index : ℕ) (marks : List Mark) → slice_get marks index ≡ None → has_free count (drop index marks) ≡ false
free_none zero index marks e = refl
free_none (suc count) zero [] e = refl
free_none (suc count) zero (mark ∷ marks) e = absurd (cc)
free_none (suc count) (suc index) [] e = refl
free_none (suc count) (suc index) (mark ∷ marks) e = free_none (suc count) index marks e

pub free_some : (count index : ℕ) (marks : List Mark) (mark : Mark) → slice_get marks index ≡ Some mark → has_free (suc count) (drop index marks) ≡ (free_mark mark || has_free count (drop (suc index) marks))
free_some count index [] mark e = absurd (cc)
free_some count zero (first ∷ marks) mark e = let same : first ≡ mark = cc in ap (λ (m : Mark). free_mark m || has_free count marks) same
free_some count (suc index) (first ∷ marks) mark e = free_some count index marks mark e

-- ---- the base

pub settled_stays : (granted base : ℕ) (marks : List Mark) → done_mark (slice_get marks 0) ≡ false → settled granted base marks ≡ record { granted = granted; base = base; marks = marks }
settled_stays granted base [] e = refl
settled_stays granted base (Free ∷ marks) e = refl
settled_stays granted base (Booked ∷ marks) e = refl
settled_stays granted base (Done ∷ marks) e = absurd (cc)
