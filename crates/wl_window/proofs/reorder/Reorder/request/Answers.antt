use Rattle.std.proofs.Common.{◌≡◌, ◌+◌, ◌-◌, ◌^◌, ℕ, Option, Some, None, sym, ap, subst, ◌∙◌, arith, inl, inr}
use Rattle.std.specs.Prelude.{is_some}
use Rattle.wl_window.specs.Numbering.{distance}
use Rattle.wl_window.specs.Reordering.{Window, Store, Moved, IsRising, IsStore, advanced, requested, up_count_requested, window_requested, queue_requested}
use Rattle.wl_window.proofs.Arriving.{at_start, behind_is, requested_is, request_sound, same_window}
use Rattle.wl_window.proofs.reorder.Reorder.request.Given.{Over}
use Rattle.wl_window.proofs.reorder.Reorder.request.Goals as goal
use Rattle.wl_window.proofs.reorder.Reorder.request.Goals.{After-from}

-- ---- the numbers aren't ahead

behind : (g : Over) (c : goal.Joined-then-ahead-eq0 g) → requested c.args.self.now.window c.args.start ≡ None
behind g c = rw (← c.self.view_is) (elim c.then-ahead-eq0.either [ inl same ↦ at_start _ c.args.start (omega (arith, same)) | inr far ↦ behind_is _ c.args.start (omega (arith, far.1)) ])

pub returns-then-ahead-eq0-clause-answer : goal.returns-then-ahead-eq0-clause-answer
returns-then-ahead-eq0-clause-answer g c = sym (ap (λ (o : Option (Moved g.row.T.Denot)). is_some o) (behind g c))

pub returns-then-ahead-eq0-clause-window : goal.returns-then-ahead-eq0-clause-window
returns-then-ahead-eq0-clause-window g c = sym (ap (window_requested c.args.self.now.window) (behind g c))

pub returns-then-ahead-eq0-clause-up : goal.returns-then-ahead-eq0-clause-up
returns-then-ahead-eq0-clause-up g c = sym (ap (queue_requested c.args.up.now) (behind g c))

-- ---- the window moves

goes : (g : Over) (c : After-from g) → requested c.args.self.now.window c.args.start ≡ Some (advanced (c.self.inside.start + c.from.result) c.self.inside.slots.items)
goes g c =
    let ahead : distance c.self.inside.start c.args.start ≡ c.from.result = omega arith in
    rw (← c.self.view_is) (requested_is _ c.args.start (λ e. omega (arith, e)) (omega arith) ∙ ap (λ (n : ℕ). Some (advanced (c.self.inside.start + n) c.self.inside.slots.items)) ahead)

sound : (g : Over) (c : After-from g) → IsRising 0 (2 ^ 32 - 1) c.self.inside.slots.items × IsStore (record { room = c.self.inside.room; window = (advanced (c.self.inside.start + c.from.result) c.self.inside.slots.items).window })
sound g c = let start = ap (λ (s : Store g.row.T.Denot). s.window.start) c.self.view_is in request_sound _ (c.self.inside.start + c.from.result) c.self.invariant.0 (omega (arith, start, c.requires.start)) (omega arith) (omega arith)

pub advance-self-inside-requires-clause-rising : goal.advance-self-inside-requires-clause-rising
advance-self-inside-requires-clause-rising g c = (sound g (goal.at.advance-self-inside-requires-clause-rising g c).After-from).0

pub advance-self-inside-requires-clause-spare : goal.advance-self-inside-requires-clause-spare
advance-self-inside-requires-clause-spare g c = let due = ap up_count_requested (goes g (goal.at.advance-self-inside-requires-clause-spare g c).After-from) in omega (arith, due, c.requires.spare)

pub invariant_of-self : goal.invariant_of-self
invariant_of-self g c =
    let is = (sound g (goal.at.invariant_of-self g c).After-from).1 in
    let moved = c.advance-self-inside.ensures.window in
    let kept = c.advance-self-inside.ensures.kept in
    let room : c.self.inside.slots.cap ≡ c.self.inside.room = c.self.invariant.1 in
    (subst (λ (w : Window g.row.T.Denot). IsStore (record { room = c.self.inside.room; window = w })) (sym (same_window _ _ _ moved.0 moved.1)) is, kept ∙ room)

pub returns-clause-answer : goal.returns-clause-answer
returns-clause-answer g c = sym (ap (λ (o : Option (Moved g.row.T.Denot)). is_some o) (goes g (goal.at.returns-clause-answer g c).After-from))

pub returns-clause-window : goal.returns-clause-window
returns-clause-window g c =
    let moved = c.advance-self-inside.ensures.window in
    same_window _ _ _ moved.0 moved.1 ∙ sym (ap (window_requested c.args.self.now.window) (goes g (goal.at.returns-clause-window g c).After-from))

pub returns-clause-up : goal.returns-clause-up
returns-clause-up g c = c.advance-self-inside.ensures.up ∙ sym (ap (queue_requested c.args.up.now) (goes g (goal.at.returns-clause-up g c).After-from))

pub returns-clause-sound : goal.returns-clause-sound
returns-clause-sound g c =
    let moved = c.advance-self-inside.ensures.window in
    subst (λ (w : Window g.row.T.Denot). IsStore (record { room = c.self.inside.room; window = w })) (sym (same_window _ _ _ moved.0 moved.1)) (sound g (goal.at.returns-clause-sound g c).After-from).1
