-- What a scenario's commands ask for is as many things as they count, and each is one of a scenario.
use Rattle.std.proofs.Common.{◌≡◌, ℕ, zero, suc, ◌+◌, Bool, true, false, if◌then◌else◌, List, [], ◌∷◌, ◌++◌, length, Option, Some, None, Result, Ok, Err, codes, length-append, refl, subst, arith}
use Rattle.std.specs.List.{AllByRecursion}
use Rattle.serde_json.specs.Data.{Data, Items, no_items, item}
use Rattle.wl_history.specs.declared.script.Plain.{Plain}
use Rattle.wl_history.specs.declared.script.Item.{Item}
use Rattle.wl_history.specs.declared.script.Item.TheVariants.{Once, Loop}
use Rattle.wl_history.specs.declared.start.LinkStart.{LinkStart}
use Rattle.wl_history.specs.declared.start.Start.{Start}
use Rattle.wl_history.specs.Scripts.{plains, repeated, times_of, body_of}
use Rattle.wl_scene.specs.Commands.{command_of}
use Rattle.wl_scene.specs.Items.{times_at, before_plains, plains_of, looped, loop_from, loop_of, once_from, item_of, before_others, items_of, count_of, count_all}
use Rattle.wl_scene.specs.Members.{list_at}
use Rattle.wl_scene.specs.Sound.{PlainFits}
use Rattle.wl_scene.proofs.Counts.{counted}
use Rattle.wl_scene.proofs.Fields.{HasLinks}
use Rattle.wl_scene.proofs.Fitting.{plain_fits}

-- what was read is within a scenario
abbrev AllFit : Start → List Plain → Type 0
AllFit start left = AllByRecursion (PlainFits start) left

all_append : (start : Start) (a b : List Plain) → AllFit start a → AllFit start b → AllFit start (a ++ b)
all_append start [] b first second = second
all_append start (p ∷ a) b first second = (first.0, all_append start a b first.1 second)

all_repeated : (start : Start) (times : ℕ) (body : List Plain) → AllFit start body → AllFit start (repeated times body)
all_repeated start zero body fits = tt
all_repeated start (suc times) body fits = all_append start body (repeated times body) fits (all_repeated start times body fits)

plain_more : (start : Start) (c : Option Plain) (r : Result (List Plain) ℕ) (body : List Plain) → ((p : Plain) → c ≡ Some p → PlainFits start p) → ((left : List Plain) → r ≡ Ok left → AllFit start left) → before_plains c r ≡ Ok body → AllFit start body
plain_more start None r body fits more same = absurd (cc)
plain_more start (Some p) (Err number) body fits more same = absurd (cc)
plain_more start (Some p) (Ok left) body fits more same = let is : p ∷ left ≡ body = cc in subst (AllFit start) is (fits p refl, more left refl)

plains_fit : (start : Start) (links : List LinkStart) (ds : Items) (body : List Plain) → HasLinks start links → plains_of links ds ≡ Ok body → AllFit start body
plains_fit start links no_items body has same = let is : [] ≡ body = cc in subst (AllFit start) is tt
plains_fit start links (item d ds) body has same =
    plain_more start (command_of links d) (plains_of links ds) body (λ p is. plain_fits start links d p has is) (λ left is. plains_fit start links ds left has is) same

-- what one command asks for each time
abbrev BodyFits : Start → Item → Type 0
BodyFits start one = AllFit start (body_of one)

looped_fits : (start : Start) (times : ℕ) (r : Result (List Plain) ℕ) (one : Item) → ((body : List Plain) → r ≡ Ok body → AllFit start body) → looped times r ≡ Ok one → BodyFits start one
looped_fits start times (Ok body) one fits same = let is : Loop times body ≡ one = cc in subst (BodyFits start) is (fits body refl)
looped_fits start times (Err number) one fits same = absurd (cc)

loop_from_fits : (start : Start) (links : List LinkStart) (times : Option ℕ) (ds : Option Items) (one : Item) → HasLinks start links → loop_from links times ds ≡ Ok one → BodyFits start one
loop_from_fits start links (Some times) (Some ds) one has same = looped_fits start times (plains_of links ds) one (λ body is. plains_fit start links ds body has is) same
loop_from_fits start links (Some times) None one has same = absurd (cc)
loop_from_fits start links None ds one has same = absurd (cc)

either_item : (b : Bool) (x y : Result Item ℕ) (one : Item) (P : Type 0) → (x ≡ Ok one → P) → (y ≡ Ok one → P) → (if b then x else y) ≡ Ok one → P
either_item true x y one P here there = here
either_item false x y one P here there = there

once_fits : (start : Start) (c : Option Plain) (one : Item) → ((p : Plain) → c ≡ Some p → PlainFits start p) → once_from c ≡ Ok one → BodyFits start one
once_fits start (Some p) one fits same = let is : Once p ≡ one = cc in subst (BodyFits start) is (fits p refl, tt)
once_fits start None one fits same = absurd (cc)

item_fits : (start : Start) (links : List LinkStart) (d : Data) (one : Item) → HasLinks start links → item_of links d ≡ Ok one → BodyFits start one
unfolding loop_of
item_fits start links d one has =
    either_item _ (loop_of links d) (once_from (command_of links d)) one (BodyFits start one)
    (either_item _ (loop_from links (times_at d) (list_at (codes "body") d)) (Err 1) one (BodyFits start one) (loop_from_fits start links (times_at d) (list_at (codes "body") d) one has) (λ same. absurd (cc)))
    (once_fits start (command_of links d) one (λ p is. plain_fits start links d p has is))

pub record AreItems (start : Start) (count : ℕ) (items : List Item) : Type 0 where
  pub asked : length (plains items) ≡ count
  pub fit : AllFit start (plains items)

one_more : (start : Start) (n count : ℕ) (c : Result Item ℕ) (others : Result (List Item) ℕ) (items : List Item) → ((one : Item) → c ≡ Ok one → BodyFits start one) → ((one : Item) → c ≡ Ok one → length (repeated (times_of one) (body_of one)) ≡ n)
    → ((left : List Item) → others ≡ Ok left → AreItems start count left) → before_others c others ≡ Ok items → AreItems start (n + count) items
one_more start n count (Err place) others items fits long more same = absurd (cc)
one_more start n count (Ok one) (Err place) items fits long more same = absurd (cc)
one_more start n count (Ok one) (Ok left) items fits long more same =
    let is : one ∷ left ≡ items = cc in
    let each = repeated (times_of one) (body_of one) in
    let rest = more left refl in
    subst (AreItems start (n + count)) is
    (record { asked = omega (arith, length-append each (plains left), long one refl, rest.asked); fit = all_append start each (plains left) (all_repeated start (times_of one) (body_of one) (fits one refl)) rest.fit })

asks_for : (links : List LinkStart) (d : Data) (one : Item) → item_of links d ≡ Ok one → length (repeated (times_of one) (body_of one)) ≡ count_of d
asks_for links d one is = let all = counted links d in (rw is at all).1

pub all_fit : (start : Start) (links : List LinkStart) (ds : Items) (items : List Item) → HasLinks start links → items_of links ds ≡ Ok items → AreItems start (count_all ds) items
all_fit start links no_items items has same = let is : [] ≡ items = cc in subst (AreItems start 0) is (record { asked = refl; fit = tt })
all_fit start links (item d ds) items has same =
    one_more start (count_of d) (count_all ds) (item_of links d) (items_of links ds) items (λ one is. item_fits start links d one has is) (λ one is. asks_for links d one is) (λ left is. all_fit start links ds left has is) same
