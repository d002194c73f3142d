-- How many commands a value counts as, how many places it has, and how many things it asks for.
use Rattle.std.proofs.Common.{◌≡◌, ℕ, zero, suc, ◌+◌, ◌*◌, ◌<◌, ◌≤◌, ◌&&◌, nat_le, Bool, true, false, if◌then◌else◌, List, [], ◌∷◌, length, get_or, drop, min, Option, Some, None, Result, Ok, Err, codes, refl, sym, ap, ◌∙◌, length-append, arith}
use Rattle.std.specs.Prelude.{option_and_then}
use Rattle.std.proofs.lemmas.List.{at_drop_more}
use Rattle.serde_json.specs.Data.{Data, Items, no_items, item}
use Rattle.serde_json.specs.Events.{items_len}
use Rattle.serde_json.specs.View.{view, items_view}
use Rattle.serde_json.specs.declared.value.Value.{Value}
use Rattle.serde_json.proofs.Views.{items_len-items_view}
use Rattle.wl_history.specs.declared.script.Plain.{Plain}
use Rattle.wl_history.specs.declared.script.Item.{Item}
use Rattle.wl_history.specs.declared.start.LinkStart.{LinkStart}
use Rattle.wl_history.specs.Scripts.{times_of, body_of, repeated}
use Rattle.wl_scene.specs.Members.{has_only, in_range, whole_at, list_at}
use Rattle.wl_scene.specs.Commands.{command_of}
use Rattle.wl_scene.specs.Items.{times_at, before_plains, plains_of, looped, loop_from, loop_of, once_from, item_of, places_of, is_loop, loop_count, count_of, count_all}
use Rattle.wl_scene.proofs.Found.{tells}

-- ---- one value

-- the commands of a body are as many, and none is wrong behind them
abbrev PlainsCounted : Result (List Plain) ℕ → ℕ → Type 0
PlainsCounted (Ok body) count = length body ≡ count
PlainsCounted (Err number) count = number ≤ count

plain_counted : (c : Option Plain) (r : Result (List Plain) ℕ) (count : ℕ) → PlainsCounted r count → PlainsCounted (before_plains c r) (suc count)
plain_counted None r count so_far = omega arith
plain_counted (Some plain) (Ok body) count so_far = ap suc so_far
plain_counted (Some plain) (Err number) count so_far = omega (arith, so_far)

plains_counted : (links : List LinkStart) (ds : Items) → PlainsCounted (plains_of links ds) (items_len ds)
plains_counted links no_items = refl
plains_counted links (item d ds) = plain_counted (command_of links d) (plains_of links ds) (items_len ds) (plains_counted links ds)

-- A command that counts so often has at most one place more, and asks for as many things.
abbrev pub Counted : Result Item ℕ → ℕ → Type 0
Counted (Ok one) count = (places_of one ≤ suc count) × (length (repeated (times_of one) (body_of one)) ≡ count)
Counted (Err place) count = place ≤ suc count

repeated-length : (times : ℕ) (body : List Plain) → length (repeated times body) ≡ times * length body
repeated-length zero body = omega arith
repeated-length (suc times) body = omega (arith, length-append body (repeated times body), repeated-length times body)

more_times : (times n : ℕ) → 1 ≤ times → n ≤ times * n
more_times zero n some = absurd (omega arith)
more_times (suc times) n some = omega arith

looped_counted : (times : ℕ) (r : Result (List Plain) ℕ) (count : ℕ) → 1 ≤ times → PlainsCounted r count → Counted (looped times r) (times * count)
looped_counted times (Ok body) count some so_far =
    let more = more_times times count some in
    (omega (arith, more, so_far), repeated-length times body ∙ ap (λ (n : ℕ). times * n) so_far)
looped_counted times (Err number) count some so_far = let more = more_times times count some in omega (arith, more, so_far)

abbrev SomeTimes : Option ℕ → Type 0
SomeTimes (Some times) = 1 ≤ times
SomeTimes None = Unit {0}

ranged_some : (low high : Bool) (n : ℕ) → (low ≡ true → 1 ≤ n) → SomeTimes (if low && high then Some n else None)
ranged_some true true n is = is refl
ranged_some true false n is = tt
ranged_some false high n is = tt

times_from : (x : Option ℕ) → SomeTimes (option_and_then (in_range 1 65536) x)
times_from None = tt
times_from (Some n) = ranged_some (nat_le 1 n) (nat_le n 65536) n (tells 1 n)

loop_from_counted : (links : List LinkStart) (times : Option ℕ) (ds : Option Items) → SomeTimes times → Counted (loop_from links times ds) (loop_count times ds)
loop_from_counted links (Some times) (Some ds) some = looped_counted times (plains_of links ds) (items_len ds) some (plains_counted links ds)
loop_from_counted links (Some times) None some = omega arith
loop_from_counted links None ds some = omega arith

named_counted : (b : Bool) (r : Result Item ℕ) (count : ℕ) → Counted r count → Counted (if b then r else Err 1) count
named_counted true r count so_far = so_far
named_counted false r count so_far = omega arith

once_counted : (c : Option Plain) → Counted (once_from c) 1
once_counted (Some plain) = (omega arith, refl)
once_counted None = omega arith

either_counted : (b : Bool) (loop once : Result Item ℕ) (count : ℕ) → Counted loop count → Counted once 1 → Counted (if b then loop else once) (if b then count else 1)
either_counted true loop once count a b = a
either_counted false loop once count a b = b

pub counted : (links : List LinkStart) (d : Data) → Counted (item_of links d) (count_of d)
unfolding count_of loop_of
counted links d =
    either_counted _ (loop_of links d) (once_from (command_of links d)) _
    (named_counted (has_only (codes "do" ∷ codes "times" ∷ codes "body" ∷ []) d) _ _ (loop_from_counted links (times_at d) (list_at (codes "body") d) (times_from (whole_at (codes "times") d))))
    (once_counted (command_of links d))

-- ---- the loops over commands

-- the number of a body's first wrong command
pub number_within : (links : List LinkStart) (values : List Value) (number : ℕ) → plains_of links (items_view values) ≡ Err number → number ≤ length values
number_within links values number is = let all = plains_counted links (items_view values) in omega (arith, rw is at all, items_len-items_view values)

place_within : (links : List LinkStart) (d : Data) (place : ℕ) → item_of links d ≡ Err place → place ≤ suc (count_of d)
place_within links d place is = let all = counted links d in rw is at all

places_within : (links : List LinkStart) (d : Data) (one : Item) → item_of links d ≡ Ok one → places_of one ≤ suc (count_of d)
places_within links d one is = let all = counted links d in (rw is at all).0

counted_first : (values : List Value) (i : ℕ) (d : Value) → i < length values → count_all (items_view (drop i values)) ≡ count_of (view (get_or values i d)) + count_all (items_view (drop (i + 1) values))
counted_first values i d within = at_drop_more (λ (left : List Value). count_all (items_view left)) values i d within

-- the places so far, and what is left to count
pub before_place : (links : List LinkStart) (values : List Value) (i : ℕ) (d : Value) (before place : ℕ) → i < length values → before + count_all (items_view (drop i values)) ≤ i + 65536 → item_of links (view (get_or values i d)) ≡ Err place → before + place ≤ i + 65537
before_place links values i d before place within so_far is =
    omega (arith, so_far, counted_first values i d within, place_within links (view (get_or values i d)) place is)

pub places_more : (links : List LinkStart) (values : List Value) (i : ℕ) (d : Value) (before : ℕ) (one : Item) → i < length values → before + count_all (items_view (drop i values)) ≤ i + 65536 → item_of links (view (get_or values i d)) ≡ Ok one
    → (before + places_of one) + count_all (items_view (drop (i + 1) values)) ≤ (i + 1) + 65536
places_more links values i d before one within so_far is =
    omega (arith, so_far, counted_first values i d within, places_within links (view (get_or values i d)) one is)

-- ---- the loop that counts

pub loop_counts : (d : Data) (times : ℕ) (values : List Value) (n : ℕ) → true ≡ is_loop d → Some times ≡ times_at d → Some (items_view values) ≡ list_at (codes "body") d → n ≡ min (times * length values) 65537 → n ≡ min (count_of d) 65537
unfolding count_of
loop_counts d times values n loop times_is values_are is =
    let count : loop_count (times_at d) (list_at (codes "body") d) ≡ times * length values =
    ap (λ (t : Option ℕ). loop_count t (list_at (codes "body") d)) (sym times_is) ∙ ap (loop_count (Some times)) (sym values_are) ∙ ap (λ (k : ℕ). times * k) (items_len-items_view values) in
    is ∙ ap (λ (k : ℕ). min k 65537) (sym (ap (λ (b : Bool). if b then loop_count (times_at d) (list_at (codes "body") d) else 1) (sym loop) ∙ count))
