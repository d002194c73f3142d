use Rattle.std.proofs.Common.{◌≡◌, ◌≤◌, ◌+◌, ◌-◌, ◌^◌, ℕ, None, length, sym, ap, ◌∙◌, arith, inl, inr}
use Rattle.std.proofs.lemmas.Bool.{cases_eq}
use Rattle.wl_window.specs.Numbering.{distance}
use Rattle.wl_window.specs.Reordering.{Store, Moved, advanced, requested, up_count_requested}
use Rattle.wl_window.proofs.Moving.{wider, not_due}
use Rattle.wl_window.proofs.Arriving.{at_start, behind_is, requested_is}
use Rattle.wl_window.proofs.reorder.Reorder.due_on_request.Given.{Over}
use Rattle.wl_window.proofs.reorder.Reorder.due_on_request.Goals as goal
use Rattle.wl_window.proofs.reorder.Reorder.due_on_request.Goals.{In-Some}

behind : (g : Over) (c : goal.In_default g) → requested c.args.self.now.window c.args.start ≡ None
behind g c = rw (← c.self.view_is) (behind_is _ c.args.start c.in_default.ensures.behind)

pub returns-in_default-clause-count : goal.returns-in_default-clause-count
returns-in_default-clause-count g c = sym (ap up_count_requested (behind g c))

pub due_from-requires-clause-rising : goal.due_from-requires-clause-rising
due_from-requires-clause-rising g c =
    let sound = c.self.invariant.0 in
    let start = ap (λ (s : Store g.row.T.Denot). s.window.start) c.self.view_is in
    let limit : c.self.inside.room ≤ 1024 = sound.room_limit in
    wider c.self.inside.slots.items (c.self.inside.start + 1) (c.self.inside.start + c.self.inside.room) 0 (2 ^ 32 - 1) (omega arith) (omega (arith, start, limit, c.requires)) sound.rising

-- at the start itself nothing is due
due_is : (g : Over) (c : In-Some g) → up_count_requested (requested c.args.self.now.window c.args.start) ≡ length (advanced c.in-Some.to c.self.inside.slots.items).up
due_is g c =
    let to = c.in-Some.ensures.ahead in
    rw (← c.self.view_is) (elim (cases_eq (distance c.self.inside.start c.args.start) 0) [
      | inl same ↦
          let at : c.in-Some.to ≡ c.self.inside.start = omega (arith, to.0, same) in
          let sound = c.self.invariant.0 in
          let stays = ap (λ (n : ℕ). advanced n c.self.inside.slots.items) at ∙ not_due c.self.inside.start c.self.inside.slots.items (c.self.inside.start + c.self.inside.room) sound.rising in
          ap up_count_requested (at_start _ c.args.start same) ∙ sym (ap (λ (m : Moved g.row.T.Denot). length m.up) stays)
      | inr ne ↦ ap up_count_requested (requested_is _ c.args.start ne to.1) ∙ ap (λ (n : ℕ). length (advanced n c.self.inside.slots.items).up) (sym to.0)
    ])

pub returns-clause-count : goal.returns-clause-count
returns-clause-count g c = c.due_from.ensures.due.0 ∙ sym (due_is g (goal.at.returns-clause-count g c).In-Some)
