-- The loops over lists: what the elements left are read as, behind those so far, is what all are read as.
use Rattle.std.proofs.Common.{◌≡◌, ℕ, suc, ◌+◌, ◌<◌, ◌≤◌, List, [], ◌∷◌, ◌++◌, length, get_or, drop, Option, Some, None, Result, Ok, Err, refl, sym, ap, ◌∙◌, append_assoc, arith}
use Rattle.std.specs.Prelude.{option_map}
use Rattle.std.proofs.lemmas.List.{append-nil, drop_all, drop_more}
use Rattle.serde_json.specs.Data.{Data}
use Rattle.serde_json.specs.View.{view, items_view}
use Rattle.serde_json.specs.declared.value.Value.{Value}
use Rattle.wl_history.specs.declared.script.Plain.{Plain}
use Rattle.wl_history.specs.declared.script.Item.{Item}
use Rattle.wl_history.specs.declared.start.LinkStart.{LinkStart}
use Rattle.wl_scene.specs.Commands.{command_of}
use Rattle.wl_scene.specs.Items.{before_plains, plains_of, item_of, places_of, before_others, items_of}
use Rattle.wl_scene.specs.Members.{each_of}

-- ---- with places

-- a reading of what is left, behind these elements, which have so many places
abbrev pub resumed : {A : Type 0} → List A → ℕ → Result (List A) ℕ → Result (List A) ℕ
resumed elements count (Ok left) = Ok (elements ++ left)
resumed elements count (Err place) = Err (count + place)

pub begins : {A : Type 0} (r : Result (List A) ℕ) → r ≡ resumed [] 0 r
begins (Ok elements) = refl
begins (Err place) = ap Err (omega arith)

pub ends : {A : Type 0} (read : List Value → Result (List A) ℕ) (values : List Value) (i count : ℕ) (elements : List A) (whole : Result (List A) ℕ) → read [] ≡ Ok [] → length values ≤ i → whole ≡ resumed elements count (read (drop i values)) → whole ≡ Ok elements
ends read values i count elements whole none past so_far =
    so_far ∙ ap (λ (left : List Value). resumed elements count (read left)) (drop_all i values past) ∙ ap (resumed elements count) none ∙ ap Ok (append-nil elements)

-- the body of a loop
abbrev pub reading : List LinkStart → List Value → Result (List Plain) ℕ
reading links values = plains_of links (items_view values)

plain_read : (body : List Plain) (count : ℕ) (plain : Plain) (r : Result (List Plain) ℕ) → resumed body count (before_plains (Some plain) r) ≡ resumed (body ++ plain ∷ []) (count + 1) r
plain_read body count plain (Ok left) = ap Ok (sym (append_assoc body (plain ∷ []) left))
plain_read body count plain (Err number) = let same : count + suc number ≡ (count + 1) + number = omega arith in ap Err same

pub plain_more : (links : List LinkStart) (values : List Value) (i : ℕ) (d : Value) (body : List Plain) (plain : Plain) (whole : Result (List Plain) ℕ) → i < length values → whole ≡ resumed body i (reading links (drop i values)) → command_of links (view (get_or values i d)) ≡ Some plain
    → whole ≡ resumed (body ++ plain ∷ []) (i + 1) (reading links (drop (i + 1) values))
plain_more links values i d body plain whole within so_far read =
    so_far ∙ ap (resumed body i) (ap (reading links) (drop_more values i d within) ∙ ap (λ (c : Option Plain). before_plains c (reading links (drop (i + 1) values))) read) ∙ plain_read body i plain (reading links (drop (i + 1) values))

pub plain_wrong : (links : List LinkStart) (values : List Value) (i : ℕ) (d : Value) (body : List Plain) (whole : Result (List Plain) ℕ) → i < length values → whole ≡ resumed body i (reading links (drop i values)) → command_of links (view (get_or values i d)) ≡ None
    → whole ≡ Err (i + 1)
plain_wrong links values i d body whole within so_far none =
    so_far ∙ ap (resumed body i) (ap (reading links) (drop_more values i d within) ∙ ap (λ (c : Option Plain). before_plains c (reading links (drop (i + 1) values))) none)

-- all commands
abbrev pub reading_all : List LinkStart → List Value → Result (List Item) ℕ
reading_all links values = items_of links (items_view values)

item_read : (items : List Item) (count : ℕ) (one : Item) (r : Result (List Item) ℕ) → resumed items count (before_others (Ok one) r) ≡ resumed (items ++ one ∷ []) (count + places_of one) r
item_read items count one (Ok left) = ap Ok (sym (append_assoc items (one ∷ []) left))
item_read items count one (Err place) = let same : count + (places_of one + place) ≡ (count + places_of one) + place = omega arith in ap Err same

pub item_more : (links : List LinkStart) (values : List Value) (i : ℕ) (d : Value) (items : List Item) (count : ℕ) (one : Item) (whole : Result (List Item) ℕ) → i < length values → whole ≡ resumed items count (reading_all links (drop i values)) → item_of links (view (get_or values i d)) ≡ Ok one
    → whole ≡ resumed (items ++ one ∷ []) (count + places_of one) (reading_all links (drop (i + 1) values))
item_more links values i d items count one whole within so_far read =
    so_far ∙ ap (resumed items count) (ap (reading_all links) (drop_more values i d within) ∙ ap (λ (c : Result Item ℕ). before_others c (reading_all links (drop (i + 1) values))) read)
    ∙ item_read items count one (reading_all links (drop (i + 1) values))

-- ---- without places

-- what is left, behind these elements
abbrev pub behind : {A : Type 0} → List A → Option (List A) → Option (List A)
behind elements left = option_map (λ others. elements ++ others) left

abbrev pub reading_each : {A : Type 0} → (Data → Option A) → List Value → Option (List A)
reading_each read values = each_of read (items_view values)
