-- What is left of a script, from a place in it.
use Rattle.std.proofs.Common.{◌≡◌, ℕ, zero, suc, ◌+◌, ◌-◌, ◌<◌, ◌≤◌, List, [], ◌∷◌, ◌++◌, length, get_or, drop, refl, sym, ap, subst, ◌∙◌, arith}
use Rattle.std.proofs.lemmas.List.{drop_more, drop_all}
use Rattle.wl_history.specs.declared.cursor.Cursor.{Cursor as Kept}
use Rattle.wl_history.specs.declared.script.Item.{Item}
use Rattle.wl_history.specs.declared.script.Plain.{Plain}
use Rattle.wl_history.specs.Scripts.{cursor_at, repeated, plains, times_of, body_of}
use Rattle.wl_history.specs.Cursors.{rounds_from, item_from, left_from, cursor_of}

pub all_rounds : (times : ℕ) (body : List Plain) → rounds_from times 0 body ≡ repeated times body
all_rounds zero body = refl
all_rounds (suc later) body = refl

none_repeated : (times : ℕ) → repeated times [] ≡ []
none_repeated zero = refl
none_repeated (suc later) = none_repeated later

no_rounds : (left place : ℕ) (body : List Plain) → left ≡ 0 → rounds_from left place body ≡ []
no_rounds left place body is = ap (λ (n : ℕ). rounds_from n place body) is

-- a round that is over leaves those behind it
pub turned : (times round place : ℕ) (body : List Plain) → round < times → length body ≤ place → rounds_from (times - (round + 1)) 0 body ≡ rounds_from (times - round) place body
turned times round place body within past =
    let more : times - round ≡ suc (times - (round + 1)) = omega arith in
    all_rounds (times - (round + 1)) body
    ∙ ap (λ (l : List Plain). l ++ repeated (times - (round + 1)) body) (sym (drop_all place body past))
    ∙ ap (λ (n : ℕ). rounds_from n place body) (sym more)

pub past_rounds : (times round place : ℕ) (body : List Plain) → times ≤ round → rounds_from (times - round) place body ≡ []
past_rounds times round place body past = no_rounds (times - round) place body (omega arith)

empty_body : (body : List Plain) → length body ≤ 0 → body ≡ []
empty_body [] none = refl
empty_body (plain ∷ body) none = absurd (omega arith)

pub empty_rounds : (times : ℕ) (body : List Plain) → length body ≤ 0 → rounds_from times 0 body ≡ []
empty_rounds times body none = ap (rounds_from times 0) (empty_body body none) ∙ all_rounds times [] ∙ none_repeated times

-- what stands at a place of a round
pub at_place : (times round place : ℕ) (body : List Plain) (d : Plain) → round < times → place < length body → rounds_from (times - round) place body ≡ get_or body place d ∷ rounds_from (times - round) (place + 1) body
at_place times round place body d within there =
    let more : times - round ≡ suc (times - (round + 1)) = omega arith in
    ap (λ (n : ℕ). rounds_from n place body) more
    ∙ ap (λ (l : List Plain). l ++ repeated (times - (round + 1)) body) (drop_more body place d there)
    ∙ ap (λ (n : ℕ). get_or body place d ∷ rounds_from n (place + 1) body) (sym more)

-- the beginning of what is left of some items
pub from_first : (items : List Item) → left_from items 0 0 ≡ plains items
from_first [] = refl
from_first (item ∷ items) = ap (λ (l : List Plain). l ++ plains items) (ap (λ (n : ℕ). rounds_from n 0 (body_of item)) (let same : times_of item - 0 ≡ times_of item = omega arith in same) ∙ all_rounds (times_of item) (body_of item))

-- behind an item of which nothing is left stand the items behind it
pub gone_on : (script items : List Item) (kept new : Kept) (item : Item) → items ≡ script → kept.item < length items → item ≡ get_or items kept.item item → new ≡ record kept { round = new.round; place = new.place } → item_from item kept.round kept.place ≡ []
    → cursor_of script (record { item = new.item + 1; round = 0; place = 0; stage = new.stage }) ≡ cursor_of script kept
gone_on script items kept new item same within is still none =
    let there : kept.item < length script = subst (λ (l : List Item). kept.item < length l) same within in
    let stands : get_or script kept.item item ≡ item = sym (is ∙ ap (λ (l : List Item). get_or l kept.item item) same) in
    let behind : List Item = drop (kept.item + 1) script in
    let left : left_from behind 0 0 ≡ left_from (drop kept.item script) kept.round kept.place =
    from_first behind
    ∙ ap (λ (l : List Plain). l ++ plains behind) (sym none)
    ∙ ap (λ (x : Item). left_from (x ∷ behind) kept.round kept.place) (sym stands)
    ∙ ap (λ (l : List Item). left_from l kept.round kept.place) (sym (drop_more script kept.item item there)) in
    ap (λ (k : Kept). cursor_at k.stage (left_from (drop (k.item + 1) script) 0 0)) still ∙ ap (cursor_at kept.stage) left
