-- What goes up from a window finds the room that was counted for it.
use Rattle.std.proofs.Common.{◌≡◌, ◌≤◌, List, [], Option, Some, None, length, ap, arith, length-append}
use Rattle.wl_window.specs.Queue.{Queue}
use Rattle.wl_window.specs.Reordering.{Moved, Arrived, Old, Doubled, Stored, up_count, queue_after, up_count_requested, queue_requested}
use Rattle.wl_history.specs.declared.arrival.Arrival.{Arrival}

pub ups_fit : (q : Queue Arrival) (a : Arrived Arrival) → q.items ≡ [] → length (queue_after q a).items ≤ up_count a
ups_fit q Old none = omega (arith, ap (λ (l : List Arrival). length l) none)
ups_fit q Doubled none = omega (arith, ap (λ (l : List Arrival). length l) none)
ups_fit q (Stored moved) none = omega (arith, length-append q.items moved.up, ap (λ (l : List Arrival). length l) none)

pub asked_fit : (q : Queue Arrival) (m : Option (Moved Arrival)) → q.items ≡ [] → length (queue_requested q m).items ≤ up_count_requested m
asked_fit q None none = omega (arith, ap (λ (l : List Arrival). length l) none)
asked_fit q (Some moved) none = omega (arith, length-append q.items moved.up, ap (λ (l : List Arrival). length l) none)
