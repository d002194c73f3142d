-- Nothing is lost, and what is done afterwards.
use Rattle.std.proofs.Common.{◌≡◌, ℕ, zero, suc, ◌+◌, ◌-◌, ◌^◌, ◌<◌, ◌≤◌, max, Bool, true, false, ◌||◌, ◌&&◌, ltb, eqb, List, [], ◌∷◌, ◌++◌, length, Some, None, Ok, Err, refl, sym, ap, subst, ◌∙◌, arith, inl, inr}
use Rattle.std.specs.Prelude.{slice_get, IsPermutation}
use Rattle.std.proofs.lemmas.Bool.{cases_lt, eqb-true, eqb-false, lt-ltb, le-ltb, or_parts, or_from, ne_eqb, cond_both}
use Rattle.std.proofs.lemmas.List.Sorted.{IsPermutation-refl, IsPermutation-cons, IsPermutation-trans, IsPermutation-sym, IsPermutation-middle}
use Rattle.wl_window.specs.declared.slot.Slot.{Slot}
use Rattle.wl_window.specs.declared.mark.Mark.{Mark}
use Rattle.wl_window.specs.declared.mark.Mark.TheVariants.{Free, Booked, Done}
use Rattle.wl_window.specs.declared.refusal.MoveRefusal.TheVariants.{NotBooked, Behind}
use Rattle.wl_window.specs.Numbering.{distance, full}
use Rattle.wl_window.specs.Reordering.{Store, Moved, Old, Doubled, Stored, holds, placed, items, IsRising, IsStore, advanced, arrived, requested}
use Rattle.wl_window.specs.Originating.{Sending, Acked, top, free_mark, done_mark, booked_mark, is_done, is_booked, has_free, finish, finished, settled, acked, acknowledges, given_up}
use Rattle.wl_window.proofs.Moving.{moves}
use Rattle.wl_window.proofs.Arriving.{old_is, doubled_is, stored_is, at_start, behind_is, requested_is, Comes, came_sound, request_sound}
use Rattle.wl_window.proofs.Deciding as deciding

-- ---- the recipient

module _ {T : Type 0} where
  pub absent_below : (slots : List (Slot T)) (number low high : ℕ) → number < low → IsRising low high slots → holds number slots ≡ false
  absent_below [] number low high lt is = refl
  absent_below (slot ∷ slots) number low high lt is =
      or_from _ _ (ne_eqb slot.number number (λ e. omega (arith, is.0))) (absent_below slots number (slot.number + 1) high (omega (arith, is.0)) is.2)

  -- what a frame that is stored moved
  pub record Came (store : Store T) (number size : ℕ) (item : T) (moved : Moved T) : Type 0 where
    pub to : ℕ
    pub at : ℕ
    pub comes : Comes store number size item at to (placed (record { number = at; item = item }) store.window.slots)
    pub moved_is : advanced to (placed (record { number = at; item = item }) store.window.slots) ≡ moved

  came_by : (store : Store T) (number size : ℕ) (item : T) (moved : Moved T) → distance store.window.start number < 2048 → (held : Bool) → holds (full store.window.start number) store.window.slots ≡ held → arrived store.window number size item ≡ Stored moved → Came store number size item moved
  came_by store number size item moved lt true held e = let wrong : Doubled ≡ Stored moved = sym (doubled_is store.window number size item lt held) ∙ e in absurd (cc)
  came_by store number size item moved lt false held e =
      let is = sym (stored_is store.window number size item lt held) ∙ e in
      record {
        to = max store.window.start (full store.window.start number + 1 - size);
        at = full store.window.start number;
        comes = record { full_is = refl; near = lt; absent = held; to_is = refl; slots_are = refl };
        moved_is = cc is;
      }

  pub came_so : (store : Store T) (number size : ℕ) (item : T) (moved : Moved T) → arrived store.window number size item ≡ Stored moved → Came store number size item moved
  came_so store number size item moved e = elim (cases_lt (distance store.window.start number) 2048) [
    | inl lt ↦ came_by store number size item moved lt (holds (full store.window.start number) store.window.slots) refl e
    | inr le ↦ let wrong : Old ≡ Stored moved = sym (old_is store.window number size item le) ∙ e in absurd (cc wrong)
  ]

  pub stored_sound : (store : Store T) (number size : ℕ) (item : T) (moved : Moved T) → IsStore store → store.window.start < 2 ^ 32 - 4096 → 1 ≤ size → size ≤ store.room → arrived store.window number size item ≡ Stored moved
      → IsStore (record { room = store.room; window = moved.window }) × (holds moved.window.start moved.window.slots ≡ false)
  stored_sound store number size item moved sound start some fits e =
      let came = came_so store number size item moved e in
      let after = came_sound store number size item came.at came.to _ sound start some fits came.comes in
      let is = subst (λ (m : Moved T). IsStore (record { room = store.room; window = m.window })) came.moved_is after.moved in
      (is, absent_below moved.window.slots moved.window.start (moved.window.start + 1) (moved.window.start + store.room) (omega arith) is.rising)

  placed_all : (new : Slot T) (slots : List (Slot T)) → IsPermutation (new.item ∷ items slots) (items (placed new slots))
  placed_all new [] = IsPermutation-refl (new.item ∷ [])
  placed_all new (slot ∷ slots) =
      cond_both (ltb new.number slot.number) (new ∷ slot ∷ slots) (slot ∷ placed new slots) (λ l. IsPermutation (new.item ∷ slot.item ∷ items slots) (items l))
      (λ _. IsPermutation-refl (new.item ∷ slot.item ∷ items slots))
      (λ _. IsPermutation-trans _ (slot.item ∷ new.item ∷ items slots) _ (IsPermutation-sym _ _ (IsPermutation-middle (slot.item ∷ []) new.item (items slots))) (IsPermutation-cons slot.item _ _ (placed_all new slots)))

  pub nothing_lost : (store : Store T) (number size : ℕ) (item : T) (moved : Moved T) → IsStore store → store.window.start < 2 ^ 32 - 4096 → 1 ≤ size → size ≤ store.room → arrived store.window number size item ≡ Stored moved
      → IsPermutation (item ∷ items store.window.slots) (moved.up ++ items moved.window.slots)
  nothing_lost store number size item moved sound start some fits e =
      let came = came_so store number size item moved e in
      let new : Slot T = record { number = came.at; item = item } in
      let after = came_sound store number size item came.at came.to _ sound start some fits came.comes in
      let all = (moves (placed new store.window.slots) came.to 0 (2 ^ 32 - 1) after.rising).all in
      let same = ap (λ (m : Moved T). m.up ++ items m.window.slots) came.moved_is in
      subst (λ (l : List T). IsPermutation (item ∷ items store.window.slots) l) (sym all ∙ same) (placed_all new store.window.slots)

  -- what a request moved
  pub record Asked (store : Store T) (moved : Moved T) : Type 0 where
    pub to : ℕ
    pub ahead : store.window.start ≤ to
    pub near : to < store.window.start + 2048
    pub moved_is : advanced to store.window.slots ≡ moved

  asked_by : (store : Store T) (start : ℕ) (moved : Moved T) → distance store.window.start start < 2048 → (same : Bool) → eqb (distance store.window.start start) 0 ≡ same → requested store.window start ≡ Some moved → Asked store moved
  asked_by store start moved lt true same e = let wrong : None ≡ Some moved = sym (at_start store.window start (eqb-true _ _ same)) ∙ e in absurd (cc wrong)
  asked_by store start moved lt false other e =
      let is = sym (requested_is store.window start (eqb-false _ _ other) lt) ∙ e in
      record { to = store.window.start + distance store.window.start start; ahead = omega arith; near = omega arith; moved_is = cc is }

  pub asked_so : (store : Store T) (start : ℕ) (moved : Moved T) → requested store.window start ≡ Some moved → Asked store moved
  asked_so store start moved e = elim (cases_lt (distance store.window.start start) 2048) [
    | inl lt ↦ asked_by store start moved lt (eqb (distance store.window.start start) 0) refl e
    | inr le ↦ let wrong : None ≡ Some moved = sym (behind_is store.window start le) ∙ e in absurd (cc wrong)
  ]

  pub requested_sound : (store : Store T) (start : ℕ) (moved : Moved T) → IsStore store → store.window.start < 2 ^ 32 - 4096 → requested store.window start ≡ Some moved → IsStore (record { room = store.room; window = moved.window }) × (holds moved.window.start moved.window.slots ≡ false)
  requested_sound store start moved sound limit e =
      let asked = asked_so store start moved e in
      let is = subst (λ (m : Moved T). IsStore (record { room = store.room; window = m.window })) asked.moved_is (request_sound store asked.to sound limit asked.ahead asked.near).1 in
      (is, absent_below moved.window.slots moved.window.start (moved.window.start + 1) (moved.window.start + store.room) (omega arith) is.rising)

  pub order_kept : (store : Store T) (start : ℕ) (moved : Moved T) → IsStore store → requested store.window start ≡ Some moved → moved.up ++ items moved.window.slots ≡ items store.window.slots
  order_kept store start moved sound e =
      let asked = asked_so store start moved e in
      sym (ap (λ (m : Moved T). m.up ++ items m.window.slots) asked.moved_is) ∙ (moves store.window.slots asked.to (store.window.start + 1) (store.window.start + store.room) sound.rising).all

-- ---- the originator

abbrev at_base : ℕ → ℕ → List Mark → Sending
at_base granted base marks = record { granted = granted; base = base; marks = marks }

pass_done : (base : ℕ) (marks : List Mark) (pos : ℕ) → (ltb pos (base + 1) || done_mark (slice_get marks (pos - (base + 1)))) ≡ (ltb pos base || done_mark (slice_get (Done ∷ marks) (pos - base)))
pass_done base marks pos = elim (cases_lt pos base) [
  | inl lt ↦ rw (lt-ltb pos (base + 1) (omega arith), lt-ltb pos base lt) refl
  | inr ge ↦ elim (cases_lt pos (base + 1)) [
    | inl lt ↦ let none : pos - base ≡ 0 = omega arith in rw (lt-ltb pos (base + 1) lt, le-ltb pos base ge, none) refl
    | inr past ↦ let next : pos - base ≡ suc (pos - (base + 1)) = omega arith in rw (le-ltb pos (base + 1) past, le-ltb pos base ge, next) refl
  ]
]

-- a base that passes positions leaves what is done
settled_done : (granted base : ℕ) (marks : List Mark) (pos : ℕ) → is_done (settled granted base marks) pos ≡ is_done (at_base granted base marks) pos
settled_done granted base [] pos = refl
settled_done granted base (Free ∷ marks) pos = refl
settled_done granted base (Booked ∷ marks) pos = refl
settled_done granted base (Done ∷ marks) pos = settled_done granted (base + 1) marks pos ∙ pass_done base marks pos

finish_done : (p : Bool) (mark : Mark) → done_mark (Some (finish p mark)) ≡ (done_mark (Some mark) || (booked_mark (Some mark) && p))
finish_done true Free = refl
finish_done true Booked = refl
finish_done true Done = refl
finish_done false Free = refl
finish_done false Booked = refl
finish_done false Done = refl

finished_done : (p : ℕ → Bool) (marks : List Mark) (index : ℕ) → done_mark (slice_get (finished p marks) index) ≡ (done_mark (slice_get marks index) || (booked_mark (slice_get marks index) && p index))
finished_done p [] index = refl
finished_done p (mark ∷ marks) zero = finish_done (p 0) mark
finished_done p (mark ∷ marks) (suc index) = finished_done (λ i. p (suc i)) marks index

done_so : (s : Sending) (p : ℕ → Bool) (pos : ℕ) → is_done (settled s.granted s.base (finished p s.marks)) pos ≡ (is_done s pos || (is_booked s pos && p (pos - s.base)))
done_so s p pos =
    settled_done s.granted s.base (finished p s.marks) pos ∙ elim (cases_lt pos s.base) [
      | inl lt ↦ rw (lt-ltb pos s.base lt) refl
      | inr ge ↦ rw (le-ltb pos s.base ge) (finished_done p s.marks (pos - s.base))
    ]

pub done_after_ack : (s : Sending) (start : ℕ) (stored : List ℕ) (a : Acked) (pos : ℕ) → acked s start stored ≡ Some a → is_done a.sending pos ≡ (is_done s pos || (is_booked s pos && acknowledges s.base (distance s.base start) stored (pos - s.base)))
done_after_ack s start stored a pos e = elim (cases_lt (length s.marks) (distance s.base start)) [
  | inl lt ↦ let wrong : None ≡ Some a = sym (deciding.old_is s start stored lt) ∙ e in absurd (cc wrong)
  | inr le ↦
      let is : deciding.acked_as s (distance s.base start) stored ≡ a = cc (sym (deciding.acked_is s start stored le) ∙ e) in
      ap (λ (b : Acked). is_done b.sending pos) (sym is) ∙ done_so s (acknowledges s.base (distance s.base start) stored) pos
]

booked_below : (count : ℕ) (marks : List Mark) (index : ℕ) → has_free count marks ≡ false → count ≤ length marks → index < count → booked_mark (slice_get marks index) ≡ true
booked_below zero marks index free le lt = absurd (omega arith)
booked_below (suc count) [] index free le lt = absurd (omega arith)
booked_below (suc count) (Free ∷ marks) zero free le lt = absurd (cc)
booked_below (suc count) (Booked ∷ marks) zero free le lt = refl
booked_below (suc count) (Done ∷ marks) zero free le lt = refl
booked_below (suc count) (mark ∷ marks) (suc index) free le lt = booked_below count marks index (or_parts (free_mark mark) (has_free count marks) free).1 (omega arith) (omega arith)

and_false : (b : Bool) → (b && false) ≡ false
and_false true = refl
and_false false = refl

-- what giving up came to
record GivenUp (s : Sending) (to : ℕ) (t : Sending) : Type 0 where
  within : to ≤ top s
  all : has_free (to - s.base) s.marks ≡ false
  past : s.base < to
  is : settled s.granted s.base (finished (λ index. ltb index (to - s.base)) s.marks) ≡ t

given_by : (s : Sending) (to : ℕ) (t : Sending) → to ≤ top s → (lacks : Bool) → has_free (to - s.base) s.marks ≡ lacks → given_up s to ≡ Ok t → GivenUp s to t
given_by s to t le true free e = let wrong : Err NotBooked ≡ Ok t = sym (deciding.not_booked_is s to (inr free)) ∙ e in absurd (cc wrong)
given_by s to t le false all e = elim (cases_lt s.base to) [
  | inl lt ↦ record { within = le; all = all; past = lt; is = cc (sym (deciding.given_up_is s to le all lt) ∙ e) }
  | inr ge ↦ let wrong : Err Behind ≡ Ok t = sym (deciding.behind_is s to le all ge) ∙ e in absurd (cc wrong)
]

given_so : (s : Sending) (to : ℕ) (t : Sending) → given_up s to ≡ Ok t → GivenUp s to t
given_so s to t e = elim (cases_lt (top s) to) [
  | inl lt ↦ let wrong : Err NotBooked ≡ Ok t = sym (deciding.not_booked_is s to (inl lt)) ∙ e in absurd (cc wrong)
  | inr le ↦ given_by s to t le (has_free (to - s.base) s.marks) refl e
]

covered : (s : Sending) (to pos : ℕ) → to ≤ top s → has_free (to - s.base) s.marks ≡ false → s.base < to → (is_done s pos || (is_booked s pos && ltb (pos - s.base) (to - s.base))) ≡ (is_done s pos || ltb pos to)
covered s to pos le all past = elim (cases_lt pos s.base) [
  | inl lt ↦ rw (lt-ltb pos s.base lt) refl
  | inr ge ↦ elim (cases_lt pos to) [
    | inl below ↦
        rw (le-ltb pos s.base ge, lt-ltb (pos - s.base) (to - s.base) (omega arith), lt-ltb pos to below, booked_below (to - s.base) s.marks (pos - s.base) all (omega arith) (omega arith)) refl
    | inr above ↦ rw (le-ltb pos s.base ge, le-ltb (pos - s.base) (to - s.base) (omega arith), le-ltb pos to above, and_false (booked_mark (slice_get s.marks (pos - s.base)))) refl
  ]
]

pub done_after_giving_up : (s t : Sending) (to pos : ℕ) → given_up s to ≡ Ok t → is_done t pos ≡ (is_done s pos || ltb pos to)
done_after_giving_up s t to pos e =
    let given = given_so s to t e in
    ap (λ (u : Sending). is_done u pos) (sym given.is) ∙ done_so s (λ index. ltb index (to - s.base)) pos ∙ covered s to pos given.within given.all given.past
