use Rattle.std.proofs.Common.{◌≡◌, ◌+◌, sym, ap, subst, ◌∙◌, arith}
use Rattle.wl_window.specs.Reordering.{Window, Store, Old, Doubled, Stored, IsStore, advanced, arrived, answer, up_count, window_after, queue_after}
use Rattle.wl_window.proofs.Moving.{wider}
use Rattle.wl_window.proofs.Arriving.{old_is, doubled_is, Comes, came, Sound, came_sound, same_window}
use Rattle.wl_window.proofs.reorder.Reorder.arrive.Given.{Over}
use Rattle.wl_window.proofs.reorder.Reorder.arrive.Goals as goal
use Rattle.wl_window.proofs.reorder.Reorder.arrive.Goals.{After-start_with-to}

-- ---- the number is behind

behind : (g : Over) (c : goal.In_default g) → arrived c.args.self.now.window c.args.number c.args.size c.args.item ≡ Old
behind g c = rw (← c.self.view_is) (old_is _ c.args.number c.args.size c.args.item c.in_default.ensures.behind)

pub returns-in_default-clause-answer : goal.returns-in_default-clause-answer
returns-in_default-clause-answer g c = sym (ap (answer c.args.item) (behind g c))

pub returns-in_default-clause-window : goal.returns-in_default-clause-window
returns-in_default-clause-window g c = sym (ap (window_after c.args.self.now.window) (behind g c))

pub returns-in_default-clause-up : goal.returns-in_default-clause-up
returns-in_default-clause-up g c = sym (ap (queue_after c.args.up.now) (behind g c))

-- ---- the number is stored

pub place_of-requires : goal.place_of-requires
place_of-requires g c = let sound = c.self.invariant.0 in (c.self.inside.start + c.self.inside.room, wider c.self.inside.slots.items (c.self.inside.start + 1) (c.self.inside.start + c.self.inside.room) 0 (c.self.inside.start + c.self.inside.room) (omega arith) (omega arith) sound.rising)

twice : (g : Over) (c : goal.In_default-place_of g) → arrived c.args.self.now.window c.args.number c.args.size c.args.item ≡ Doubled
twice g c = rw (← c.self.view_is) (doubled_is _ c.args.number c.args.size c.args.item c.in-Some.ensures.ahead.1 (rw (← c.in-Some.ensures.ahead.0) c.in_default-place_of.ensures))

pub returns-in_default-place_of-clause-answer : goal.returns-in_default-place_of-clause-answer
returns-in_default-place_of-clause-answer g c = sym (ap (answer c.args.item) (twice g c))

pub returns-in_default-place_of-clause-window : goal.returns-in_default-place_of-clause-window
returns-in_default-place_of-clause-window g c = sym (ap (window_after c.args.self.now.window) (twice g c))

pub returns-in_default-place_of-clause-up : goal.returns-in_default-place_of-clause-up
returns-in_default-place_of-clause-up g c = sym (ap (queue_after c.args.up.now) (twice g c))

-- ---- the item is stored

pub insert-requires-clause-room : goal.insert-requires-clause-room
insert-requires-clause-room g c = let held = c.self.invariant.0.bounded in let room : c.self.inside.slots.cap ≡ c.self.inside.room = c.self.invariant.1 in let len = c.self.inside.slots.ok.0 in omega (arith, held, room, len)

comes : (g : Over) (c : After-start_with-to g) → Comes (record { room = c.self.inside.room; window = record { start = c.self.inside.start; slots = c.self.inside.slots.items } }) c.args.number c.args.size c.args.item c.in-Some.number c.start_with-to.result c.insert.new.slots.items
comes g c =
    let gap = c.in-Err.ensures in
    record {
      full_is = c.in-Some.ensures.ahead.0;
      near = c.in-Some.ensures.ahead.1;
      absent = gap.absent;
      to_is = c.start_with-to.ensures;
      slots_are = c.insert.ensures.slots ∙ sym (gap.put c.args.item);
    }

sound : (g : Over) (c : After-start_with-to g) → Sound (record { room = c.self.inside.room; window = record { start = c.self.inside.start; slots = c.self.inside.slots.items } }) c.start_with-to.result c.insert.new.slots.items
sound g c =
    let start = ap (λ (s : Store g.row.T.Denot). s.window.start) c.self.view_is in
    let room = ap (λ (s : Store g.row.T.Denot). s.room) c.self.view_is in
    came_sound _ c.args.number c.args.size c.args.item c.in-Some.number c.start_with-to.result c.insert.new.slots.items c.self.invariant.0
    (omega (arith, start, c.requires.start)) c.requires.size.0 (omega (arith, room, c.requires.size.1)) (comes g c)

stored : (g : Over) (c : After-start_with-to g) → arrived c.args.self.now.window c.args.number c.args.size c.args.item ≡ Stored (advanced c.start_with-to.result c.insert.new.slots.items)
stored g c = rw (← c.self.view_is) (came _ c.args.number c.args.size c.args.item c.in-Some.number c.start_with-to.result c.insert.new.slots.items (comes g c))

pub advance-self-inside-requires-clause-rising : goal.advance-self-inside-requires-clause-rising
advance-self-inside-requires-clause-rising g c = (sound g (goal.at.advance-self-inside-requires-clause-rising g c).After-start_with-to).rising

pub advance-self-inside-requires-clause-spare : goal.advance-self-inside-requires-clause-spare
advance-self-inside-requires-clause-spare g c = let due = ap up_count (stored g (goal.at.advance-self-inside-requires-clause-spare g c).After-start_with-to) in omega (arith, due, c.requires.spare)

pub invariant_of-self : goal.invariant_of-self
invariant_of-self g c =
    let is = (sound g (goal.at.invariant_of-self g c).After-start_with-to).moved in
    let moved = c.advance-self-inside.ensures.window in
    let kept = c.advance-self-inside.ensures.kept in
    let more = c.insert.ensures.kept in
    let room : c.self.inside.slots.cap ≡ c.self.inside.room = c.self.invariant.1 in (
      subst (λ (w : Window g.row.T.Denot). IsStore (record { room = c.self.inside.room; window = w })) (sym (same_window _ _ _ moved.0 moved.1)) is,
      kept ∙ more ∙ room,
    )

pub returns-clause-answer : goal.returns-clause-answer
returns-clause-answer g c = sym (ap (answer c.args.item) (stored g (goal.at.returns-clause-answer g c).After-start_with-to))

pub returns-clause-window : goal.returns-clause-window
returns-clause-window g c =
    let moved = c.advance-self-inside.ensures.window in
    same_window _ _ _ moved.0 moved.1 ∙ sym (ap (window_after c.args.self.now.window) (stored g (goal.at.returns-clause-window g c).After-start_with-to))

pub returns-clause-up : goal.returns-clause-up
returns-clause-up g c = c.advance-self-inside.ensures.up ∙ sym (ap (queue_after c.args.up.now) (stored g (goal.at.returns-clause-up g c).After-start_with-to))

pub returns-clause-sound : goal.returns-clause-sound
returns-clause-sound g c =
    let moved = c.advance-self-inside.ensures.window in
    subst (λ (w : Window g.row.T.Denot). IsStore (record { room = c.self.inside.room; window = w })) (sym (same_window _ _ _ moved.0 moved.1)) (sound g (goal.at.returns-clause-sound g c).After-start_with-to).moved
