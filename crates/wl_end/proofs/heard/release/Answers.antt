use Rattle.std.proofs.Common.{◌≡◌, ◌+◌, ◌++◌, ◌∷◌, [], ℕ, Bool, true, false, List, Option, length, vec_len, vec_capacity, Vec, sym, ap, subst, ◌∙◌, arith}
use Rattle.std.specs.Global.{Global}
use Rattle.std.specs.Prelude.{if◌then◌else◌}
use Rattle.wl_replay.specs.declared.replay.Pair.{Pair}
use Rattle.wl_replay.specs.Replay.{with_last}
use Rattle.wl_history.specs.declared.arrival.Arrival.{Arrival}
use Rattle.wl_end.proofs.Releasing.{Comes, one_more, one_dropped, first_is}
use Rattle.wl_end.proofs.heard.release.Goals as goal
use Rattle.wl_end.proofs.heard.release.Goals.{After-admit, then-admit, else-admit}

-- the loop's start, with its first item apart
before : (c : After-admit) → Comes c.args.lane.now c.ups.guard c.args.guard.now (c.in-Some.arrival ∷ c.take_first.new.self.items) c.args.ups.now.items c.ups.released.items c.args.released.now.items c.ups.up.items c.args.up.now.items
before c =
    let items : c.ups.ups.items ≡ c.in-Some.arrival ∷ c.take_first.new.self.items = first_is c.ups.ups.items c.in-Some.arrival c.in-Some.ensures.first ∙ ap (λ (l : List Arrival). c.in-Some.arrival ∷ l) (sym c.in-Some.ensures.items) in
    subst (λ (l : List Arrival). Comes c.args.lane.now c.ups.guard c.args.guard.now l c.args.ups.now.items c.ups.released.items c.args.released.now.items c.ups.up.items c.args.up.now.items) items c.ups.invariant.comes

count : (c : After-admit) → length c.take_first.new.self.items + 1 ≡ length c.ups.ups.items
count c =
    let items : c.ups.ups.items ≡ c.in-Some.arrival ∷ c.take_first.new.self.items = first_is c.ups.ups.items c.in-Some.arrival c.in-Some.ensures.first ∙ ap (λ (l : List Arrival). c.in-Some.arrival ∷ l) (sym c.in-Some.ensures.items) in
    omega (arith, ap (λ (l : List Arrival). length l) items)

-- the pairs where the arrival is above, and where it isn't
pairs_above : (c : After-admit) → c.admit.result ≡ true → c.admit.new.self ≡ with_last c.ups.guard c.args.lane.now c.in-Some.arrival.numbers.key c.in-Some.arrival.numbers.pn
pairs_above c is = c.admit.ensures.last ∙ ap (λ (b : Bool). if b then with_last c.ups.guard c.args.lane.now c.in-Some.arrival.numbers.key c.in-Some.arrival.numbers.pn else c.ups.guard) is

pairs_kept : (c : After-admit) → c.admit.result ≡ false → c.admit.new.self ≡ c.ups.guard
pairs_kept c is = c.admit.ensures.last ∙ ap (λ (b : Bool). if b then with_last c.ups.guard c.args.lane.now c.in-Some.arrival.numbers.key c.in-Some.arrival.numbers.pn else c.ups.guard) is

pub ups-preserved : goal.ups-preserved
ups-preserved c =
    let all = (goal.at.ups-preserved c).After-admit in
    let lane = c.args.lane.now in
    let items = c.take_first.new.self.items in
    let left = count all in
    elim c.if-admit.branch [
      | then-admit w ↦
          let more = one_more lane c.ups.guard c.args.guard.now c.in-Some.arrival items c.args.ups.now.items c.ups.released.items c.args.released.now.items c.ups.up.items c.args.up.now.items (sym c.admit.ensures.above ∙ w.if-admit.true) (before all) in
          let released = ap (λ (v : Vec ℕ Global). v.items) w.released-is ∙ w.push_reserved.ensures.items in
          let up = ap (λ (v : Vec ℕ Global). v.items) w.up-is ∙ w.push_reserved-then-admit.ensures.items in
          record {
            comes =
                subst (λ (p : List (Option Pair)). Comes lane p c.args.guard.now items c.args.ups.now.items c.if-admit.released.items c.args.released.now.items c.if-admit.up.items c.args.up.now.items) (sym (pairs_above all w.if-admit.true))
                (subst (λ (r : List ℕ). Comes lane (with_last c.ups.guard lane c.in-Some.arrival.numbers.key c.in-Some.arrival.numbers.pn) c.args.guard.now items c.args.ups.now.items r c.args.released.now.items c.if-admit.up.items c.args.up.now.items) (sym released)
                (subst (λ (u : List ℕ). Comes lane (with_last c.ups.guard lane c.in-Some.arrival.numbers.key c.in-Some.arrival.numbers.pn) c.args.guard.now items c.args.ups.now.items (c.ups.released.items ++ c.in-Some.arrival.numbers.pos ∷ []) c.args.released.now.items u c.args.up.now.items) (sym up) more));
            room = omega (arith, left, c.ups.invariant.room, ap (λ (v : Vec ℕ Global). vec_len v) w.released-is, ap (λ (v : Vec ℕ Global). vec_capacity v) w.released-is, w.push_reserved.ensures.len, w.push_reserved.ensures.capacity);
            up_room = omega (arith, left, c.ups.invariant.up_room, ap (λ (v : Vec ℕ Global). vec_len v) w.up-is, ap (λ (v : Vec ℕ Global). vec_capacity v) w.up-is, w.push_reserved-then-admit.ensures.len, w.push_reserved-then-admit.ensures.capacity);
          }
      | else-admit w ↦
          let fewer = one_dropped lane c.ups.guard c.args.guard.now c.in-Some.arrival items c.args.ups.now.items c.ups.released.items c.args.released.now.items c.ups.up.items c.args.up.now.items (sym c.admit.ensures.above ∙ w.if-admit.false) (before all) in
          record {
            comes =
                subst (λ (p : List (Option Pair)). Comes lane p c.args.guard.now items c.args.ups.now.items c.if-admit.released.items c.args.released.now.items c.if-admit.up.items c.args.up.now.items) (sym (pairs_kept all w.if-admit.false))
                (subst (λ (r : Vec ℕ Global). Comes lane c.ups.guard c.args.guard.now items c.args.ups.now.items r.items c.args.released.now.items c.if-admit.up.items c.args.up.now.items) (sym w.released-is)
                (subst (λ (u : Vec ℕ Global). Comes lane c.ups.guard c.args.guard.now items c.args.ups.now.items c.ups.released.items c.args.released.now.items u.items c.args.up.now.items) (sym w.up-is) fewer));
            room = omega (arith, left, c.ups.invariant.room, ap (λ (v : Vec ℕ Global). vec_len v) w.released-is, ap (λ (v : Vec ℕ Global). vec_capacity v) w.released-is);
            up_room = omega (arith, left, c.ups.invariant.up_room, ap (λ (v : Vec ℕ Global). vec_len v) w.up-is, ap (λ (v : Vec ℕ Global). vec_capacity v) w.up-is);
          }
    ]
