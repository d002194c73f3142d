use Rattle.std.proofs.Common.{◌≡◌, ◌≤◌, ◌+◌, ◌-◌, ◌^◌, refl, sym, ap, ◌∙◌, arith}
use Rattle.wl_window.specs.Reordering.{Store, Old, Doubled, Stored, placed, advanced, arrived, up_count}
use Rattle.wl_window.proofs.Moving.{wider}
use Rattle.wl_window.proofs.Arriving.{old_is, doubled_is, came}
use Rattle.wl_window.proofs.reorder.Reorder.due_on_arrival.Given.{Over}
use Rattle.wl_window.proofs.reorder.Reorder.due_on_arrival.Goals as goal

behind : (g : Over) (c : goal.In_default g) (item : g.row.T.Denot) → arrived c.args.self.now.window c.args.number c.args.size item ≡ Old
behind g c item = rw (← c.self.view_is) (old_is _ c.args.number c.args.size item c.in_default.ensures.behind)

pub returns-in_default-clause-count : goal.returns-in_default-clause-count
returns-in_default-clause-count g c item = sym (ap up_count (behind g c item))

pub is_stored-requires : goal.is_stored-requires
is_stored-requires g c = let sound = c.self.invariant.0 in (c.self.inside.start + c.self.inside.room, wider c.self.inside.slots.items (c.self.inside.start + 1) (c.self.inside.start + c.self.inside.room) 0 (c.self.inside.start + c.self.inside.room) (omega arith) (omega arith) sound.rising)

twice : (g : Over) (c : goal.Then-is_stored g) (item : g.row.T.Denot) → arrived c.args.self.now.window c.args.number c.args.size item ≡ Doubled
twice g c item = rw (← c.self.view_is) (doubled_is _ c.args.number c.args.size item c.in-Some.ensures.ahead.1 (rw (← c.in-Some.ensures.ahead.0) (sym c.if-is_stored.ensures)))

pub returns-then-is_stored-clause-count : goal.returns-then-is_stored-clause-count
returns-then-is_stored-clause-count g c item = sym (ap up_count (twice g c item))

pub due_with-requires-clause-rising : goal.due_with-requires-clause-rising
due_with-requires-clause-rising g c =
    let sound = c.self.invariant.0 in
    let start = ap (λ (s : Store g.row.T.Denot). s.window.start) c.self.view_is in
    let limit : c.self.inside.room ≤ 1024 = sound.room_limit in
    wider c.self.inside.slots.items (c.self.inside.start + 1) (c.self.inside.start + c.self.inside.room) 0 (2 ^ 32 - 1) (omega arith) (omega (arith, start, limit, c.requires.start)) sound.rising

stored : (g : Over) (c : goal.After-due_with g) (item : g.row.T.Denot) → arrived c.args.self.now.window c.args.number c.args.size item ≡ Stored (advanced c.start_with.result (placed (record { number = c.in-Some.number; item = item }) c.self.inside.slots.items))
stored g c item =
    rw (← c.self.view_is) (came (record { room = c.self.inside.room; window = record { start = c.self.inside.start; slots = c.self.inside.slots.items } }) c.args.number c.args.size item c.in-Some.number c.start_with.result _ (record {
      full_is = c.in-Some.ensures.ahead.0;
      near = c.in-Some.ensures.ahead.1;
      absent = sym c.if-is_stored.ensures;
      to_is = c.start_with.ensures;
      slots_are = refl;
    }))

pub returns-clause-count : goal.returns-clause-count
returns-clause-count g c item = c.due_with.ensures.count item ∙ sym (ap up_count (stored g c item))
