-- The one booking with a pair, and the one at a position.
use Rattle.std.proofs.Common.{◌≡◌, ℕ, zero, suc, Bool, true, ◌&&◌, List, [], ◌∷◌, Option, Some, None, refl, sym, ap, ◌∙◌, arith, eq-eqb}
use Rattle.std.specs.Prelude.{◌==◌, if◌then◌else◌, IfSome, IfNone}
use Rattle.std.specs.List.{Contains}
use Rattle.std.proofs.lemmas.Bool.{ne_eqb}
use Rattle.wl_elem.specs.declared.lane.Lane.{Lane}
use Rattle.wl_elem.specs.Lanes.{lane_index}
use Rattle.wl_frame.specs.declared.key.Key.{Key}
use Rattle.wl_number.specs.declared.numbers.Numbers.{Numbers}
use Rattle.wl_number.specs.OrderRule.{OrderRule, list_at, list_of, same_pair}
use Rattle.wl_number.specs.Bookings.{BookedAt, BookedWith}
use Rattle.wl_history.specs.Answers.{at_position}
use Rattle.wl_history.specs.declared.opened.Opened.{Opened}
use Rattle.wl_end.specs.declared.flight.Under.{Under}
use Rattle.wl_end.specs.Putting.{four_of}

abbrev pub BookedOnce : Type 0
BookedOnce = (lanes : List (List Numbers)) (place other : ℕ) (a b : Numbers) → OrderRule lanes → Contains (list_at lanes place) a → Contains (list_at lanes other) b → same_pair a b ≡ true → (place ≡ other) × (a ≡ b)

both_true : (a b : Bool) → a ≡ true → b ≡ true → (a && b) ≡ true
both_true a b p q = ap (λ (x : Bool). x && b) p ∙ q

pub one_place : BookedOnce → (lanes : List (List Numbers)) (found lane : Lane) (pos other key pn : ℕ) → OrderRule lanes → BookedWith lanes found pos key pn → BookedWith lanes lane other key pn → (lane_index found ≡ lane_index lane) × (pos ≡ other)
one_place law lanes found lane pos other key pn rule a b =
    let n : Numbers = record { pos = pos; key = key; pn = pn } in
    let m : Numbers = record { pos = other; key = key; pn = pn } in
    let both = law lanes (lane_index found) (lane_index lane) n m rule a b (both_true (key == key) (pn == pn) (eq-eqb key key refl) (eq-eqb pn pn refl)) in
    (both.0, ap (λ (x : Numbers). x.pos) both.1)

pub four_same : (u : Under) (body : List ℕ) (four : Opened) → u.key ≡ four.key → u.nonce ≡ four.nonce → u.aad ≡ four.aad → body ≡ four.body → four_of u body ≡ four
four_same u body four k n a b =
    let made = λ (key : Key) (nonce aad octets : List ℕ). let o : Opened = record { key = key; nonce = nonce; aad = aad; body = octets } in o in
    ap (λ (x : Key). made x u.nonce u.aad body) k ∙ ap (λ (x : List ℕ). made four.key x u.aad body) n ∙ ap (λ (x : List ℕ). made four.key four.nonce x body) a ∙ ap (made four.key four.nonce four.aad) b

-- ---- by its position

-- what the crate of histories says of it
abbrev pub IsFound : Type 0
IsFound = (lanes : List (List Numbers)) (lane : Lane) (n : Numbers) → OrderRule lanes → Contains (list_of lanes lane) n → at_position n.pos (list_of lanes lane) ≡ Some n

none_in : (pos : ℕ) (ns : List Numbers) → ((n : Numbers) → Contains ns n → n.pos ≡ pos → ⊥) → at_position pos ns ≡ None
none_in pos [] none = refl
none_in pos (x ∷ xs) none =
    ap (λ (b : Bool). if b then Some x else at_position pos xs) (ne_eqb x.pos pos (λ e. none x (zero, omega arith, refl) e))
    ∙ none_in pos xs (λ n there e. none n (suc there.0, omega (arith, there.1), there.2) e)

-- what is booked at a position is found there
pub found_at : IsFound → (lanes : List (List Numbers)) (lane : Lane) (pos : ℕ) (r : Option Numbers) → OrderRule lanes → IfSome r (BookedAt lanes lane pos) → IfNone r ((n : Numbers) → BookedAt lanes lane pos n → ⊥)
    → r ≡ at_position pos (list_of lanes lane)
found_at law lanes lane pos (Some n) rule some none = sym (ap (λ (p : ℕ). at_position p (list_of lanes lane)) (sym some.position) ∙ law lanes lane n rule some.booked)
found_at law lanes lane pos None rule some none = sym (none_in pos (list_of lanes lane) (λ n there e. none n (record { booked = there; position = e })))

pub found_there : (lanes : List (List Numbers)) (lane : Lane) (pos : ℕ) (r : Option Numbers) → IfSome r (BookedAt lanes lane pos) → IfSome r (Contains (list_of lanes lane))
found_there lanes lane pos (Some n) some = some.booked
found_there lanes lane pos None some = tt
