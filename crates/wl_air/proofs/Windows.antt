-- What comes of a frame, and of a request, leaves a window near.
use Rattle.std.proofs.Common.{◌≡◌, ℕ, ◌≤◌, Option, Some, None, refl}
use Rattle.wl_window.specs.Reordering.{Window, Moved, Arrived, Old, Doubled, Stored, IsNear, MovesNear, arrived, requested}
use Rattle.wl_history.specs.declared.arrival.Arrival.{Arrival}

-- what the crate of windows says of it
abbrev pub StoredNear : Type 0
StoredNear = (w : Window Arrival) (number size : ℕ) (item : Arrival) (moved : Moved Arrival) → IsNear w → 1 ≤ size → arrived w number size item ≡ Stored moved → MovesNear w moved

abbrev pub ArrivedNear : Window Arrival → Arrived Arrival → Type 0
ArrivedNear old Old = Unit {0}
ArrivedNear old Doubled = Unit {0}
ArrivedNear old (Stored moved) = MovesNear old moved

near_by : (old : Window Arrival) (came : Arrived Arrival) → ((moved : Moved Arrival) → came ≡ Stored moved → MovesNear old moved) → ArrivedNear old came
near_by old Old h = tt
near_by old Doubled h = tt
near_by old (Stored moved) h = h moved refl

pub arrived_near : StoredNear → (w : Window Arrival) (number size : ℕ) (item : Arrival) → 1 ≤ size → IsNear w → ArrivedNear w (arrived w number size item)
arrived_near law w number size item some near = near_by w (arrived w number size item) (λ moved e. law w number size item moved near some e)

abbrev pub RequestedNear : Type 0
RequestedNear = (w : Window Arrival) (start : ℕ) (moved : Moved Arrival) → IsNear w → requested w start ≡ Some moved → MovesNear w moved

-- both
pub record NearLaws : Type 0 where
  pub stored : StoredNear
  pub asked : RequestedNear

abbrev pub AskedNear : Window Arrival → Option (Moved Arrival) → Type 0
AskedNear old None = Unit {0}
AskedNear old (Some moved) = MovesNear old moved

asked_by : (old : Window Arrival) (asked : Option (Moved Arrival)) → ((moved : Moved Arrival) → asked ≡ Some moved → MovesNear old moved) → AskedNear old asked
asked_by old None h = tt
asked_by old (Some moved) h = h moved refl

pub asked_near : RequestedNear → (w : Window Arrival) (start : ℕ) → IsNear w → AskedNear w (requested w start)
asked_near law w start near = asked_by w (requested w start) (λ moved e. law w start moved near e)
