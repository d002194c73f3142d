-- Hands of threads, and how many hold a reserve.
use Rattle.std.proofs.Common.{◌≡◌, ◌≢◌, ℕ, zero, suc, ◌+◌, Bool, true, false, List, [], ◌∷◌, refl, ap, arith}
use Rattle.std.specs.Prelude.{if◌then◌else◌}
use Rattle.wl_history.specs.declared.hand.Hand.{Hand}
use Rattle.wl_history.specs.Hands.{hand_of, set_hand, reserves, reserve_count, bit}

pub hand_set : (thread : ℕ) (new : Hand) (hands : List Hand) → hand_of (set_hand thread new hands) thread ≡ new
hand_set zero new [] = refl
hand_set zero new (hand ∷ hands) = refl
hand_set (suc thread) new [] = hand_set thread new []
hand_set (suc thread) new (hand ∷ hands) = hand_set thread new hands

pub hand_kept : (thread other : ℕ) (new : Hand) (hands : List Hand) → thread ≢ other → hand_of (set_hand thread new hands) other ≡ hand_of hands other
hand_kept zero zero new hands ne = absurd (ne refl)
hand_kept zero (suc other) new [] ne = refl
hand_kept zero (suc other) new (hand ∷ hands) ne = refl
hand_kept (suc thread) zero new [] ne = refl
hand_kept (suc thread) zero new (hand ∷ hands) ne = refl
hand_kept (suc thread) (suc other) new [] ne = hand_kept thread other new [] (λ e. ne (ap suc e))
hand_kept (suc thread) (suc other) new (hand ∷ hands) ne = hand_kept thread other new hands (λ e. ne (ap suc e))

count_cons : (b : Bool) (n : ℕ) → (if b then suc n else n) ≡ bit b + n
count_cons true n = omega arith
count_cons false n = omega arith

-- a hand that changes is counted anew
pub count_set : (place : ℕ) (thread : ℕ) (new : Hand) (hands : List Hand)
    → reserve_count place (set_hand thread new hands) + bit (reserves place (hand_of hands thread)) ≡ reserve_count place hands + bit (reserves place new)
count_set place zero new [] =
    let counted : reserve_count place (new ∷ []) ≡ bit (reserves place new) + 0 = count_cons (reserves place new) 0 in
    let goal : reserve_count place (new ∷ []) + 0 ≡ 0 + bit (reserves place new) = omega arith in
    goal
count_set place zero new (hand ∷ hands) = omega (arith, count_cons (reserves place new) (reserve_count place hands), count_cons (reserves place hand) (reserve_count place hands))
count_set place (suc thread) new [] = count_set place thread new []
count_set place (suc thread) new (hand ∷ hands) =
    omega (arith, count_set place thread new hands, count_cons (reserves place hand) (reserve_count place hands), count_cons (reserves place hand) (reserve_count place (set_hand thread new hands)))
