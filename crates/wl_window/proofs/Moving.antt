-- How a window moves, one slot after the other.
use Rattle.std.proofs.Common.{◌≡◌, ◌≢◌, ℕ, suc, ◌+◌, ◌-◌, ◌<◌, ◌≤◌, max, false, eqb, ltb, eq-eqb, List, [], ◌∷◌, ◌++◌, length, refl, sym, ap, subst, ◌∙◌, arith, inl, inr, append_assoc}
use Rattle.std.proofs.lemmas.Bool.{lt-ltb, le-ltb, eqb-false, ne_eqb, cases_lt, cond_both, or_parts}
use Rattle.std.proofs.lemmas.List.{append-nil}
use Rattle.wl_window.specs.Queue.{Queue, received}
use Rattle.wl_window.specs.declared.slot.Slot.{Slot}
use Rattle.wl_window.specs.Placing.{IsPast}
use Rattle.wl_window.specs.Reordering.{Moved, holds, placed, below, from, items, run_end, IsRising, advanced}

module _ {T : Type 0} where
  -- ---- rising slots

  pub wider : (slots : List (Slot T)) (low high least most : ℕ) → least ≤ low → high ≤ most → IsRising low high slots → IsRising least most slots
  wider [] low high least most p q is = tt
  wider (slot ∷ slots) low high least most p q is = (omega (arith, is.0), omega (arith, is.1), wider slots (slot.number + 1) high (slot.number + 1) most (omega arith) q is.2)

  pub rising_length : (slots : List (Slot T)) (low high : ℕ) → IsRising low high slots → length slots ≤ high - low
  rising_length [] low high is = omega arith
  rising_length (slot ∷ slots) low high is = omega (arith, is.0, is.1, rising_length slots (slot.number + 1) high is.2)

  from_all : (slots : List (Slot T)) (to low high : ℕ) → to ≤ low → IsRising low high slots → from to slots ≡ slots
  from_all [] to low high le is = refl
  from_all (slot ∷ slots) to low high le is = rw (le-ltb slot.number to (omega (arith, is.0))) (ap (λ (rest : List (Slot T)). slot ∷ rest) (from_all slots to (slot.number + 1) high (omega (arith, is.0)) is.2))

  below_none : (slots : List (Slot T)) (to low high : ℕ) → to ≤ low → IsRising low high slots → below to slots ≡ []
  below_none [] to low high le is = refl
  below_none (slot ∷ slots) to low high le is = rw (le-ltb slot.number to (omega (arith, is.0))) (below_none slots to (slot.number + 1) high (omega (arith, is.0)) is.2)

  pub run_end_least : (start : ℕ) (slots : List (Slot T)) → start ≤ run_end start slots
  run_end_least start [] = omega arith
  run_end_least start (slot ∷ slots) = cond_both (eqb slot.number start) (run_end (start + 1) slots) start (λ n. start ≤ n) (λ _. omega (arith, run_end_least (start + 1) slots)) (λ _. omega arith)

  -- ---- one slot

  abbrev at_end : ℕ → List (Slot T) → Moved T
  at_end end slots = record { up = items (below end slots); window = record { start = end; slots = from end slots } }

  -- nothing goes up
  abbrev pub still : ℕ → List (Slot T) → Moved T
  still start slots = record { up = []; window = record { start = start; slots = slots } }

  -- an item went up before
  abbrev pub after_item : T → Moved T → Moved T
  after_item item moved = record { up = item ∷ moved.up; window = moved.window }

  first_up : (end : ℕ) (slot : Slot T) (slots : List (Slot T)) → slot.number < end → at_end end (slot ∷ slots) ≡ after_item slot.item (at_end end slots)
  first_up end slot slots lt = rw (lt-ltb slot.number end lt) refl

  advanced_is : (to end : ℕ) (slots : List (Slot T)) → run_end to (from to slots) ≡ end → advanced to slots ≡ at_end end slots
  unfolding advanced
  advanced_is to end slots e = ap (λ (n : ℕ). at_end n slots) e

  under : (to : ℕ) (slot : Slot T) (slots : List (Slot T)) → slot.number < to → advanced to (slot ∷ slots) ≡ after_item slot.item (advanced to slots)
  under to slot slots lt =
      let end = run_end to (from to slots) in
      let least = run_end_least to (from to slots) in
      let same : run_end to (from to (slot ∷ slots)) ≡ end = rw (lt-ltb slot.number to lt) refl in
      advanced_is to end (slot ∷ slots) same ∙ first_up end slot slots (omega (arith, least)) ∙ ap (after_item slot.item) (sym (advanced_is to end slots refl))

  at : (to : ℕ) (slot : Slot T) (slots : List (Slot T)) (high : ℕ) → slot.number ≡ to → IsRising (slot.number + 1) high slots → advanced to (slot ∷ slots) ≡ after_item slot.item (advanced (to + 1) slots)
  at to slot slots high e is =
      let end = run_end (to + 1) slots in
      let least = run_end_least (to + 1) slots in
      let all : from to slots ≡ slots = from_all slots to (slot.number + 1) high (omega arith) is in
      let more : from (to + 1) slots ≡ slots = from_all slots (to + 1) (slot.number + 1) high (omega arith) is in
      let same : run_end to (from to (slot ∷ slots)) ≡ end = rw (le-ltb slot.number to (omega arith), eq-eqb slot.number to e, all) refl in
      advanced_is to end (slot ∷ slots) same ∙ first_up end slot slots (omega (arith, least)) ∙ ap (after_item slot.item) (sym (advanced_is (to + 1) end slots (ap (run_end (to + 1)) more)))

  -- a slot that isn't past the start goes up, and the start is past it then
  pub due : (to : ℕ) (slot : Slot T) (slots : List (Slot T)) (high : ℕ) → slot.number ≤ to → IsRising (slot.number + 1) high slots → advanced to (slot ∷ slots) ≡ after_item slot.item (advanced (max to (slot.number + 1)) slots)
  due to slot slots high le is = elim (cases_lt slot.number to) [
    | inl lt ↦ let same : max to (slot.number + 1) ≡ to = omega arith in under to slot slots lt ∙ ap (λ (n : ℕ). after_item slot.item (advanced n slots)) (sym same)
    | inr ge ↦ let same : max to (slot.number + 1) ≡ to + 1 = omega arith in at to slot slots high (omega arith) is ∙ ap (λ (n : ℕ). after_item slot.item (advanced n slots)) (sym same)
  ]

  -- the same of a list that begins with the slot
  pub due_first : (to next : ℕ) (slot : Slot T) (slots left : List (Slot T)) (high : ℕ) → slots ≡ slot ∷ left → IsRising 0 high slots → slot.number ≤ to → next ≡ max to (slot.number + 1) → advanced to slots ≡ after_item slot.item (advanced next left)
  due_first to next slot slots left high begins is le e =
      let rising : IsRising 0 high (slot ∷ left) = subst (λ (l : List (Slot T)). IsRising 0 high l) begins is in
      ap (advanced to) begins ∙ due to slot left high le rising.2 ∙ ap (λ (n : ℕ). after_item slot.item (advanced n left)) (sym e)

  pub rest_rising : (slot : Slot T) (slots left : List (Slot T)) (high : ℕ) → slots ≡ slot ∷ left → IsRising 0 high slots → IsRising 0 high left
  rest_rising slot slots left high begins is =
      let rising : IsRising 0 high (slot ∷ left) = subst (λ (l : List (Slot T)). IsRising 0 high l) begins is in
      wider left (slot.number + 1) high 0 high (omega arith) (omega arith) rising.2

  run_none : (start : ℕ) (slots : List (Slot T)) (high : ℕ) → IsRising (start + 1) high slots → run_end start slots ≡ start
  run_none start [] high is = refl
  run_none start (slot ∷ slots) high is = rw (ne_eqb slot.number start (λ e. omega (arith, is.0))) refl

  -- slots past the start stay
  pub not_due : (start : ℕ) (slots : List (Slot T)) (high : ℕ) → IsRising (start + 1) high slots → advanced start slots ≡ still start slots
  not_due start slots high is =
      let all : from start slots ≡ slots = from_all slots start (start + 1) high (omega arith) is in
      let none : below start slots ≡ [] = below_none slots start (start + 1) high (omega arith) is in
      advanced_is start start slots (rw all (run_none start slots high is)) ∙ rw (all, none) refl

  -- rising slots of which the first is past the start
  pub past_rising : (start : ℕ) (slots : List (Slot T)) (low high : ℕ) → IsRising low high slots → IsPast start slots → IsRising (start + 1) high slots
  past_rising start [] low high is past = tt
  past_rising start (slot ∷ slots) low high is past = (omega (arith, past), is.1, is.2)

  -- ---- the whole

  pub record Moves (to high : ℕ) (slots : List (Slot T)) (moved : Moved T) : Type 0 where
    pub least : to ≤ moved.window.start
    pub most : moved.window.start ≤ max to high
    pub rising : IsRising (moved.window.start + 1) high moved.window.slots
    pub all : moved.up ++ items moved.window.slots ≡ items slots

  moves_on : (slot : Slot T) (slots : List (Slot T)) (to high : ℕ) (moved : Moved T) → slot.number ≤ to → slot.number < high → Moves (max to (slot.number + 1)) high slots moved → Moves to high (slot ∷ slots) (after_item slot.item moved)
  moves_on slot slots to high moved le lt is = record {
    least = omega (arith, is.least);
    most = omega (arith, is.most);
    rising = is.rising;
    all = ap (λ (rest : List T). slot.item ∷ rest) is.all;
  }

  moves_still : (slots : List (Slot T)) (to high : ℕ) → IsRising (to + 1) high slots → Moves to high slots (still to slots)
  moves_still slots to high is = record { least = omega arith; most = omega arith; rising = is; all = refl }

  pub moves : (slots : List (Slot T)) (to low high : ℕ) → IsRising low high slots → Moves to high slots (advanced to slots)
  moves [] to low high is = subst (λ (m : Moved T). Moves to high [] m) (sym (not_due to [] high tt)) (moves_still [] to high tt)
  moves (slot ∷ slots) to low high is = elim (cases_lt to slot.number) [
    | inl lt ↦
        let past : IsRising (to + 1) high (slot ∷ slots) = (omega arith, is.1, is.2) in
        subst (λ (m : Moved T). Moves to high (slot ∷ slots) m) (sym (not_due to (slot ∷ slots) high past)) (moves_still (slot ∷ slots) to high past)
    | inr le ↦
        subst (λ (m : Moved T). Moves to high (slot ∷ slots) m) (sym (due to slot slots high le is.2))
        (moves_on slot slots to high (advanced (max to (slot.number + 1)) slots) le is.1 (moves slots (max to (slot.number + 1)) (slot.number + 1) high is.2))
  ]

  -- ---- a slot more

  pub placed_rising : (new : Slot T) (slots : List (Slot T)) (low high : ℕ) → IsRising low high slots → low ≤ new.number → new.number < high → holds new.number slots ≡ false → IsRising low high (placed new slots)
  placed_rising new [] low high is le lt absent = (le, lt, tt)
  placed_rising new (slot ∷ slots) low high is le lt absent = elim (cases_lt new.number slot.number) [
    | inl before ↦ rw (lt-ltb new.number slot.number before) (le, lt, (omega arith, is.1, is.2))
    | inr after ↦
        let parts = or_parts (eqb slot.number new.number) (holds new.number slots) absent in
        let other : slot.number ≢ new.number = eqb-false _ _ parts.0 in
        rw (le-ltb new.number slot.number after) (is.0, is.1, placed_rising new slots (slot.number + 1) high is.2 (omega (arith, other)) lt parts.1)
  ]

  pub placed_length : (new : Slot T) (slots : List (Slot T)) → length (placed new slots) ≡ suc (length slots)
  placed_length new [] = refl
  placed_length new (slot ∷ slots) = cond_both (ltb new.number slot.number) (new ∷ slot ∷ slots) (slot ∷ placed new slots) (λ l. length l ≡ suc (suc (length slots))) (λ _. refl) (λ _. ap suc (placed_length new slots))

-- ---- the queue

same_queue : {T : Type 0} (a b : List T) (m n : ℕ) → a ≡ b → m ≡ n → ◌≡◌ {A = Queue T} (record { items = a; spare = m }) (record { items = b; spare = n })
same_queue a b m n p q = cc

pub received_more : {T : Type 0} (queue : Queue T) (item : T) (more : List T) → received (received queue (item ∷ [])) more ≡ received queue (item ∷ more)
received_more queue item more =
    let spare : queue.spare - 1 - length more ≡ queue.spare - suc (length more) = omega arith in
    same_queue _ _ _ _ (append_assoc queue.items (item ∷ []) more) spare

pub received_none : {T : Type 0} (queue : Queue T) → received queue [] ≡ queue
received_none queue = same_queue _ _ _ _ (append-nil queue.items) (omega arith)
