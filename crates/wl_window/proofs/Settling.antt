-- What originators keep when positions are booked and done.
use Rattle.std.proofs.Common.{◌≡◌, ℕ, zero, suc, ◌+◌, ◌-◌, ◌^◌, ◌<◌, ◌≤◌, max, Bool, true, false, List, [], ◌∷◌, length, refl, ◌∙◌, arith}
use Rattle.std.specs.Prelude.{slice_get}
use Rattle.wl_window.specs.declared.mark.Mark.{Mark}
use Rattle.wl_window.specs.declared.mark.Mark.TheVariants.{Free, Booked, Done}
use Rattle.wl_window.specs.Originating.{Sending, top, free_mark, done_mark, booked_mark, booked_marks, booked_count, ends_free, IsSending, book_at, with_booked, finish, finished, settled}
use Rattle.wl_window.proofs.Marking.{finished_length}

-- ---- marks that become done

free_finish : (p : Bool) (mark : Mark) → free_mark (finish p mark) ≡ free_mark mark
free_finish true Free = refl
free_finish true Booked = refl
free_finish true Done = refl
free_finish false mark = refl

ends_finished : (p : ℕ → Bool) (marks : List Mark) → ends_free (finished p marks) ≡ ends_free marks
ends_finished p [] = refl
ends_finished p (mark ∷ []) = free_finish (p 0) mark
ends_finished p (mark ∷ next ∷ marks) = ends_finished (λ i. p (suc i)) (next ∷ marks)

count_first : (mark : Mark) (marks : List Mark) → booked_marks (mark ∷ marks) ≡ booked_marks (mark ∷ []) + booked_marks marks
count_first Free marks = omega arith
count_first Booked marks = omega arith
count_first Done marks = omega arith

count_finish : (p : Bool) (mark : Mark) → booked_marks (finish p mark ∷ []) ≡ booked_marks (mark ∷ [])
count_finish true Free = refl
count_finish true Booked = refl
count_finish true Done = refl
count_finish false mark = refl

count_finished : (p : ℕ → Bool) (marks : List Mark) → booked_marks (finished p marks) ≡ booked_marks marks
count_finished p [] = refl
count_finished p (mark ∷ marks) =
    let rest = finished (λ i. p (suc i)) marks in
    omega (arith, count_first (finish (p 0) mark) rest, count_first mark marks, count_finish (p 0) mark, count_finished (λ i. p (suc i)) marks)

-- ---- the base

pub record Settles (granted base : ℕ) (marks : List Mark) (s : Sending) : Type 0 where
  pub granted_is : s.granted ≡ granted
  pub top_is : top s ≡ base + length marks
  pub booked_is : booked_count s ≡ base + booked_marks marks
  pub first : done_mark (slice_get s.marks 0) ≡ false
  pub last : ends_free s.marks ≡ false

ends_tail : (mark : Mark) (marks : List Mark) → ends_free (mark ∷ marks) ≡ false → ends_free marks ≡ false
ends_tail mark [] e = refl
ends_tail mark (next ∷ marks) e = e

pub settles : (granted base : ℕ) (marks : List Mark) → ends_free marks ≡ false → Settles granted base marks (settled granted base marks)
settles granted base [] e = record { granted_is = refl; top_is = refl; booked_is = refl; first = refl; last = refl }
settles granted base (Free ∷ marks) e = record { granted_is = refl; top_is = refl; booked_is = refl; first = refl; last = e }
settles granted base (Booked ∷ marks) e = record { granted_is = refl; top_is = refl; booked_is = refl; first = refl; last = e }
settles granted base (Done ∷ marks) e =
    let more = settles granted (base + 1) marks (ends_tail Done marks e) in
    record { granted_is = more.granted_is; top_is = omega (arith, more.top_is); booked_is = omega (arith, more.booked_is); first = more.first; last = more.last }

pub finished_sound : (s : Sending) (p : ℕ → Bool) → IsSending s → IsSending (settled s.granted s.base (finished p s.marks))
finished_sound s p is =
    let more = settles s.granted s.base (finished p s.marks) (ends_finished p s.marks ∙ is.last) in
    record {
      granted_limit = omega (arith, more.granted_is, is.granted_limit);
      top_limit = omega (arith, more.top_is, finished_length p s.marks, is.top_limit);
      first = more.first;
      last = more.last;
      booked = omega (arith, more.granted_is, more.booked_is, count_finished p s.marks, is.booked);
    }

-- ---- booking

ends_cons : (mark : Mark) (marks : List Mark) → 0 < length marks → ends_free (mark ∷ marks) ≡ ends_free marks
ends_cons mark [] lt = absurd (omega arith)
ends_cons mark (next ∷ marks) lt = refl

pub length_book : (index : ℕ) (marks : List Mark) → length (book_at index marks) ≡ max (length marks) (suc index)
length_book zero [] = refl
length_book zero (mark ∷ marks) = omega arith
length_book (suc index) [] = omega (arith, length_book index [])
length_book (suc index) (mark ∷ marks) = omega (arith, length_book index marks)

ends_book : (index : ℕ) (marks : List Mark) → ends_free marks ≡ false → ends_free (book_at index marks) ≡ false
ends_book zero [] e = refl
ends_book zero (mark ∷ []) e = refl
ends_book zero (mark ∷ next ∷ marks) e = e
ends_book (suc index) [] e = ends_cons Free (book_at index []) (omega (arith, length_book index [])) ∙ ends_book index [] e
ends_book (suc index) (mark ∷ marks) e = ends_cons mark (book_at index marks) (omega (arith, length_book index marks)) ∙ ends_book index marks (ends_tail mark marks e)

first_book : (index : ℕ) (marks : List Mark) → done_mark (slice_get marks 0) ≡ false → done_mark (slice_get (book_at index marks) 0) ≡ false
first_book zero [] e = refl
first_book zero (mark ∷ marks) e = refl
first_book (suc index) [] e = refl
first_book (suc index) (mark ∷ marks) e = e

count_book : (index : ℕ) (marks : List Mark) → booked_mark (slice_get marks index) ≡ false → booked_marks (book_at index marks) ≡ suc (booked_marks marks)
count_book zero [] e = refl
count_book zero (Free ∷ marks) e = refl
count_book zero (Booked ∷ marks) e = absurd (cc)
count_book zero (Done ∷ marks) e = absurd (cc)
count_book (suc index) [] e = count_book index [] refl
count_book (suc index) (mark ∷ marks) e = omega (arith, count_first mark (book_at index marks), count_first mark marks, count_book index marks e)

pub booked_sound : (s : Sending) (pos : ℕ) → IsSending s → booked_count s < s.granted → s.base ≤ pos → booked_mark (slice_get s.marks (pos - s.base)) ≡ false → pos < 2 ^ 32 - 1 → IsSending (with_booked s pos)
booked_sound s pos is more le free limit = record {
  granted_limit = is.granted_limit;
  top_limit = omega (arith, length_book (pos - s.base) s.marks, is.top_limit);
  first = first_book (pos - s.base) s.marks is.first;
  last = ends_book (pos - s.base) s.marks is.last;
  booked = omega (arith, count_book (pos - s.base) s.marks free, more);
}

-- ---- a bound

marks_booked : (marks : List Mark) → booked_marks marks ≤ length marks
marks_booked [] = omega arith
marks_booked (Free ∷ marks) = omega (arith, marks_booked marks)
marks_booked (Booked ∷ marks) = omega (arith, marks_booked marks)
marks_booked (Done ∷ marks) = omega (arith, marks_booked marks)

-- no more are booked than there are positions up to the top
pub few_booked : (s : Sending) → booked_count s ≤ top s
few_booked s = omega (arith, marks_booked s.marks)
