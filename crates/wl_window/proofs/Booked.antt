-- Which positions are booked, after a booking, after an ack and after giving up.
use Rattle.std.proofs.Common.{◌≡◌, ℕ, zero, suc, ◌+◌, ◌-◌, ◌<◌, ◌≤◌, Bool, true, false, eq-eqb, List, [], ◌∷◌, length, Some, None, Ok, Err, refl, sym, ap, subst, ◌∙◌, arith, inl, inr}
use Rattle.std.specs.Prelude.{◌==◌, ◌||◌, nat_lt, nat_le, if◌then◌else◌, slice_get}
use Rattle.std.proofs.lemmas.Bool.{ne_eqb, lt-ltb, le-ltb, cases_lt, cases_eq, cases_order, both_ways}
use Rattle.wl_window.specs.declared.mark.Mark.{Mark}
use Rattle.wl_window.specs.declared.mark.Mark.TheVariants.{Free, Booked, Done}
use Rattle.wl_window.specs.declared.refusal.MoveRefusal.TheVariants.{NotBooked, Behind}
use Rattle.wl_window.specs.Numbering.{distance}
use Rattle.wl_window.specs.Originating.{Sending, Acked, booked_mark, is_booked, booked_marks, booked_count, book_at, with_booked, finish, finished, newly, settled, acknowledges, acked, top, has_free, given_up, Keeps}

same_after : (k i : ℕ) → (suc k == suc i) ≡ (k == i)
same_after k i = elim (cases_eq k i) [
  | inl same ↦ eq-eqb (suc k) (suc i) (ap suc same) ∙ sym (eq-eqb k i same)
  | inr ne ↦ ne_eqb (suc k) (suc i) (λ e. ne (omega (arith, e))) ∙ sym (ne_eqb k i ne)
]

-- ---- a booking

mark_booked : (k : ℕ) (marks : List Mark) (i : ℕ) → booked_mark (slice_get (book_at k marks) i) ≡ (k == i || booked_mark (slice_get marks i))
mark_booked zero [] zero = refl
mark_booked zero [] (suc i) = sym (ap (λ (b : Bool). b || false) (ne_eqb 0 (suc i) (λ e. omega (arith, e))))
mark_booked zero (mark ∷ marks) zero = refl
mark_booked zero (mark ∷ marks) (suc i) = sym (ap (λ (b : Bool). b || booked_mark (slice_get marks i)) (ne_eqb 0 (suc i) (λ e. omega (arith, e))))
mark_booked (suc k) [] zero = sym (ap (λ (b : Bool). b || false) (ne_eqb (suc k) 0 (λ e. omega (arith, e))))
mark_booked (suc k) [] (suc i) = mark_booked k [] i ∙ sym (ap (λ (b : Bool). b || false) (same_after k i))
mark_booked (suc k) (mark ∷ marks) zero = sym (ap (λ (b : Bool). b || booked_mark (Some mark)) (ne_eqb (suc k) 0 (λ e. omega (arith, e))))
mark_booked (suc k) (mark ∷ marks) (suc i) = mark_booked k marks i ∙ sym (ap (λ (b : Bool). b || booked_mark (slice_get marks i)) (same_after k i))

marks_counted : (k : ℕ) (marks : List Mark) → booked_mark (slice_get marks k) ≡ false → booked_marks (book_at k marks) ≡ suc (booked_marks marks)
marks_counted zero [] free = refl
marks_counted zero (Free ∷ marks) free = refl
marks_counted zero (Booked ∷ marks) free = absurd (cc free)
marks_counted zero (Done ∷ marks) free = absurd (cc free)
marks_counted (suc k) [] free = marks_counted k [] refl
marks_counted (suc k) (Free ∷ marks) free = marks_counted k marks free
marks_counted (suc k) (Booked ∷ marks) free = ap suc (marks_counted k marks free)
marks_counted (suc k) (Done ∷ marks) free = ap suc (marks_counted k marks free)

-- what isn't booked isn't below the base
from_base : (s : Sending) (pos : ℕ) → is_booked s pos ≡ false → s.base ≤ pos
from_base s pos free = elim (cases_lt pos s.base) [
  | inl lt ↦ absurd (both_ways _ free (ap (λ (b : Bool). b || booked_mark (slice_get s.marks (pos - s.base))) (lt-ltb pos s.base lt)))
  | inr le ↦ le
]

free_mark_at : (s : Sending) (pos : ℕ) → is_booked s pos ≡ false → booked_mark (slice_get s.marks (pos - s.base)) ≡ false
free_mark_at s pos free = sym (ap (λ (b : Bool). b || booked_mark (slice_get s.marks (pos - s.base))) (le-ltb pos s.base (from_base s pos free))) ∙ free

or_true : (b : Bool) → (b || true) ≡ true
or_true true = refl
or_true false = refl

pub booking_marks : (s : Sending) (pos q : ℕ) → is_booked s pos ≡ false → is_booked (with_booked s pos) q ≡ (pos == q || is_booked s q)
booking_marks s pos q free = elim (cases_lt q s.base) [
  | inl lt ↦
      let below = lt-ltb q s.base lt in
      ap (λ (b : Bool). b || booked_mark (slice_get (book_at (pos - s.base) s.marks) (q - s.base))) below
      ∙ sym (ap (λ (b : Bool). pos == q || (b || booked_mark (slice_get s.marks (q - s.base)))) below ∙ or_true (pos == q))
  | inr le ↦
      let above = le-ltb q s.base le in
      let same : (pos - s.base == q - s.base) ≡ (pos == q) = shifted s.base pos q (from_base s pos free) le in
      ap (λ (b : Bool). b || booked_mark (slice_get (book_at (pos - s.base) s.marks) (q - s.base))) above
      ∙ mark_booked (pos - s.base) s.marks (q - s.base)
      ∙ ap (λ (b : Bool). b || booked_mark (slice_get s.marks (q - s.base))) same
      ∙ sym (ap (λ (b : Bool). pos == q || (b || booked_mark (slice_get s.marks (q - s.base)))) above)
]
  where
    shifted : (base pos q : ℕ) → base ≤ pos → base ≤ q → (pos - base == q - base) ≡ (pos == q)
    shifted base pos q a b = elim (cases_eq pos q) [
      | inl same ↦ eq-eqb (pos - base) (q - base) (ap (λ (n : ℕ). n - base) same) ∙ sym (eq-eqb pos q same)
      | inr ne ↦ ne_eqb (pos - base) (q - base) (λ e. ne (omega (arith, e, a, b))) ∙ sym (ne_eqb pos q ne)
    ]

pub booking_counts : (s : Sending) (pos : ℕ) → is_booked s pos ≡ false → booked_count (with_booked s pos) ≡ suc (booked_count s)
booking_counts s pos free = omega (arith, marks_counted (pos - s.base) s.marks (free_mark_at s pos free))

-- ---- an ack

finished_mark : (p : ℕ → Bool) (marks : List Mark) (i : ℕ) → booked_mark (slice_get (finished p marks) i) ≡ booked_mark (slice_get marks i)
finished_mark p [] i = refl
finished_mark p (mark ∷ marks) zero = one (p 0) mark
  where
    one : (b : Bool) (mark : Mark) → booked_mark (Some (finish b mark)) ≡ booked_mark (Some mark)
    one true Free = refl
    one true Booked = refl
    one true Done = refl
    one false mark = refl
finished_mark p (mark ∷ marks) (suc i) = finished_mark (λ index. p (suc index)) marks i

finished_counts : (p : ℕ → Bool) (marks : List Mark) → booked_marks (finished p marks) ≡ booked_marks marks
finished_counts p [] = refl
finished_counts p (Free ∷ marks) = free (p 0) (finished (λ index. p (suc index)) marks) ∙ finished_counts (λ index. p (suc index)) marks
  where
    free : (b : Bool) (more : List Mark) → booked_marks (finish b Free ∷ more) ≡ booked_marks more
    free true more = refl
    free false more = refl
finished_counts p (Booked ∷ marks) = one (p 0) (finished (λ index. p (suc index)) marks) ∙ ap suc (finished_counts (λ index. p (suc index)) marks)
  where
    one : (b : Bool) (more : List Mark) → booked_marks (finish b Booked ∷ more) ≡ suc (booked_marks more)
    one true more = refl
    one false more = refl
finished_counts p (Done ∷ marks) = one (p 0) (finished (λ index. p (suc index)) marks) ∙ ap suc (finished_counts (λ index. p (suc index)) marks)
  where
    one : (b : Bool) (more : List Mark) → booked_marks (finish b Done ∷ more) ≡ suc (booked_marks more)
    one true more = refl
    one false more = refl

abbrev at_base : ℕ → ℕ → List Mark → Sending
at_base granted base marks = record { granted = granted; base = base; marks = marks }

passed : (granted base : ℕ) (marks : List Mark) (q : ℕ) → is_booked (at_base granted (base + 1) marks) q ≡ is_booked (at_base granted base (Done ∷ marks)) q
passed granted base marks q = elim (cases_order q base) [
  | inl same ↦
      ap (λ (b : Bool). b || booked_mark (slice_get marks (q - (base + 1)))) (lt-ltb q (base + 1) (omega (arith, same)))
      ∙ sym (ap (λ (b : Bool). b || booked_mark (slice_get (Done ∷ marks) (q - base))) (le-ltb q base (omega (arith, same))) ∙ ap (λ (i : ℕ). booked_mark (slice_get (Done ∷ marks) i)) (zero_there same))
  | inr (inl lt) ↦
      ap (λ (b : Bool). b || booked_mark (slice_get marks (q - (base + 1)))) (lt-ltb q (base + 1) (omega (arith, lt)))
      ∙ sym (ap (λ (b : Bool). b || booked_mark (slice_get (Done ∷ marks) (q - base))) (lt-ltb q base lt))
  | inr (inr gt) ↦
      ap (λ (b : Bool). b || booked_mark (slice_get marks (q - (base + 1)))) (le-ltb q (base + 1) (omega (arith, gt)))
      ∙ sym (ap (λ (b : Bool). b || booked_mark (slice_get (Done ∷ marks) (q - base))) (le-ltb q base (omega (arith, gt))) ∙ ap (λ (i : ℕ). booked_mark (slice_get (Done ∷ marks) i)) (one_there gt))
]
  where
    zero_there : q ≡ base → q - base ≡ 0
    zero_there same = omega (arith, same)

    one_there : base < q → q - base ≡ suc (q - (base + 1))
    one_there gt = omega (arith, gt)

settled_booked : (granted base : ℕ) (marks : List Mark) (q : ℕ) → is_booked (settled granted base marks) q ≡ is_booked (at_base granted base marks) q
settled_booked granted base [] q = refl
settled_booked granted base (Free ∷ marks) q = refl
settled_booked granted base (Booked ∷ marks) q = refl
settled_booked granted base (Done ∷ marks) q = settled_booked granted (base + 1) marks q ∙ passed granted base marks q

settled_counts : (granted base : ℕ) (marks : List Mark) → booked_count (settled granted base marks) ≡ base + booked_marks marks
settled_counts granted base [] = refl
settled_counts granted base (Free ∷ marks) = refl
settled_counts granted base (Booked ∷ marks) = refl
settled_counts granted base (Done ∷ marks) = omega (arith, settled_counts granted (base + 1) marks)

settled_granted : (granted base : ℕ) (marks : List Mark) → (settled granted base marks).granted ≡ granted
settled_granted granted base [] = refl
settled_granted granted base (Free ∷ marks) = refl
settled_granted granted base (Booked ∷ marks) = refl
settled_granted granted base (Done ∷ marks) = settled_granted granted (base + 1) marks

settled_keeps : (s : Sending) (p : ℕ → Bool) → Keeps s (settled s.granted s.base (finished p s.marks))
settled_keeps s p = record {
  granted = settled_granted s.granted s.base (finished p s.marks);
  marks = λ q. settled_booked s.granted s.base (finished p s.marks) q ∙ ap (λ (b : Bool). nat_lt q s.base || b) (finished_mark p s.marks (q - s.base));
  counts = settled_counts s.granted s.base (finished p s.marks) ∙ ap (λ (n : ℕ). s.base + n) (finished_counts p s.marks);
}

keeps_by : (b : Bool) (s t : Sending) (count : ℕ) (a : Acked) → Keeps s t → (if b then None else Some (let x : Acked = record { newly = count; sending = t } in x)) ≡ Some a → Keeps s a.sending
keeps_by true s t count a h e = absurd (cc e)
keeps_by false s t count a h e = let same : t ≡ a.sending = cc in subst (Keeps s) same h

pub acking_keeps : (s : Sending) (start : ℕ) (stored : List ℕ) (a : Acked) → acked s start stored ≡ Some a → Keeps s a.sending
unfolding acked
acking_keeps s start stored a e =
    keeps_by (nat_lt (length s.marks) (distance s.base start)) s (settled s.granted s.base (finished (acknowledges s.base (distance s.base start) stored) s.marks))
    (newly (acknowledges s.base (distance s.base start) stored) s.marks) a (settled_keeps s (acknowledges s.base (distance s.base start) stored)) e

-- ---- giving up

given_by : (lacks low : Bool) (s t u : Sending) → Keeps s t → (if lacks then Err NotBooked else (if low then Err Behind else Ok t)) ≡ Ok u → Keeps s u
given_by true low s t u h e = let wrong : Err NotBooked ≡ Ok u = e in absurd (cc wrong)
given_by false true s t u h e = let wrong : Err Behind ≡ Ok u = e in absurd (cc wrong)
given_by false false s t u h e = let same : t ≡ u = cc in subst (Keeps s) same h

pub giving_up_keeps : (s t : Sending) (to : ℕ) → given_up s to ≡ Ok t → Keeps s t
unfolding given_up
giving_up_keeps s t to e =
    given_by (nat_lt (top s) to || has_free (to - s.base) s.marks) (nat_le to s.base) s (settled s.granted s.base (finished (λ index. nat_lt index (to - s.base)) s.marks)) t
    (settled_keeps s (λ index. nat_lt index (to - s.base))) e
