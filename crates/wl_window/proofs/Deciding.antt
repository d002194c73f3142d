-- What an originator's calls come to, case by case.
use Rattle.std.proofs.Common.{◌≡◌, ◌≢◌, ℕ, ◌+◌, ◌-◌, ◌<◌, ◌≤◌, true, false, ◌||◌, ltb, List, length, Some, None, Ok, Err, refl, inl, inr, ◌⊎◌}
use Rattle.std.proofs.lemmas.Bool.{eq-eqb, ne_eqb, lt-ltb, le-ltb, le-leb, lt-leb, or_left, or_right, or_from}
use Rattle.wl_window.specs.declared.refusal.OriginRefusal.TheVariants.{NothingQueued, WindowFull}
use Rattle.wl_window.specs.declared.refusal.MoveRefusal.TheVariants.{NotBooked, Behind}
use Rattle.wl_window.specs.Numbering.{distance}
use Rattle.wl_window.specs.Originating.{Sending, top, reserved, acked, Acked, acknowledges, names, given_up, has_free, finished, newly, settled}
use Rattle.wl_window.proofs.Marking.{finished_both, newly_both}

module _ (s : Sending) where
  pub nothing_is : (queued size : ℕ) → s.granted ≡ queued → reserved s queued size ≡ Err NothingQueued
  unfolding reserved
  nothing_is queued size e = rw (eq-eqb s.granted queued e) refl

  pub full_is : (queued size : ℕ) → s.granted ≢ queued → size ≤ s.granted - s.base → reserved s queued size ≡ Err WindowFull
  unfolding reserved
  full_is queued size ne le = rw (ne_eqb s.granted queued ne, le-leb size (s.granted - s.base) le) refl

  pub goes_is : (queued size : ℕ) → s.granted ≢ queued → s.granted - s.base < size → reserved s queued size ≡ Ok (record { granted = s.granted + 1; base = s.base; marks = s.marks })
  unfolding reserved
  goes_is queued size ne lt = rw (ne_eqb s.granted queued ne, lt-leb size (s.granted - s.base) lt) refl

  pub old_is : (start : ℕ) (stored : List ℕ) → length s.marks < distance s.base start → acked s start stored ≡ None
  unfolding acked
  old_is start stored lt = rw (lt-ltb (length s.marks) (distance s.base start) lt) refl

  -- what an ack that isn't old comes to
  abbrev pub acked_as : ℕ → List ℕ → Acked
  acked_as ahead stored = record { newly = newly (acknowledges s.base ahead stored) s.marks; sending = settled s.granted s.base (finished (acknowledges s.base ahead stored) s.marks) }

  pub acked_is : (start : ℕ) (stored : List ℕ) → distance s.base start ≤ length s.marks → acked s start stored ≡ Some (acked_as (distance s.base start) stored)
  unfolding acked
  acked_is start stored le = rw (le-ltb (length s.marks) (distance s.base start) le) refl

  pub not_booked_is : (to : ℕ) → (top s < to) ⊎ (has_free (to - s.base) s.marks ≡ true) → given_up s to ≡ Err NotBooked
  unfolding given_up
  not_booked_is to (inl lt) = rw (or_left (ltb (top s) to) (has_free (to - s.base) s.marks) (lt-ltb (top s) to lt)) refl
  not_booked_is to (inr free) = rw (or_right (ltb (top s) to) (has_free (to - s.base) s.marks) free) refl

  booked_all : (to : ℕ) → to ≤ top s → has_free (to - s.base) s.marks ≡ false → (ltb (top s) to || has_free (to - s.base) s.marks) ≡ false
  booked_all to le all = or_from (ltb (top s) to) (has_free (to - s.base) s.marks) (le-ltb (top s) to le) all

  pub behind_is : (to : ℕ) → to ≤ top s → has_free (to - s.base) s.marks ≡ false → to ≤ s.base → given_up s to ≡ Err Behind
  unfolding given_up
  behind_is to le all low = rw (booked_all to le all, le-leb to s.base low) refl

  pub given_up_is : (to : ℕ) → to ≤ top s → has_free (to - s.base) s.marks ≡ false → s.base < to → given_up s to ≡ Ok (settled s.granted s.base (finished (λ index. ltb index (to - s.base)) s.marks))
  unfolding given_up
  given_up_is to le all lt = rw (booked_all to le all, lt-leb to s.base lt) refl

  -- first those before the start of an ack, then those that it names
  pub two_steps : (ahead : ℕ) (stored : List ℕ) → finished (names s.base stored) (finished (λ k. ltb k ahead) s.marks) ≡ finished (acknowledges s.base ahead stored) s.marks
  two_steps ahead stored = finished_both (λ k. ltb k ahead) (names s.base stored) s.marks

  pub two_counts : (ahead : ℕ) (stored : List ℕ) → newly (λ k. ltb k ahead) s.marks + newly (names s.base stored) (finished (λ k. ltb k ahead) s.marks) ≡ newly (acknowledges s.base ahead stored) s.marks
  two_counts ahead stored = newly_both (λ k. ltb k ahead) (names s.base stored) s.marks
