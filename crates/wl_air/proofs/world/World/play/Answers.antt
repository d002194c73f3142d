use Rattle.std.proofs.Common.{◌≡◌, ◌<◌, Some, sym, ◌∙◌}
use Rattle.wl_history.specs.Cursors.{cursor_of}
use Rattle.wl_history.specs.Scripts.{asks}
use Rattle.wl_air.proofs.Plays.{Goes, most, goes_first, goes_room, goes_fit, goes_next, goes_down}
use Rattle.wl_air.proofs.world.World.play.Given.{Over}
use Rattle.wl_air.proofs.world.World.play.Goals as goal
use Rattle.wl_air.proofs.world.World.play.Goals.{After-advance}

module _ (g : Over) (c : After-advance g) where
  asked : asks (cursor_of c.args.script.now c.steps.cursor) ≡ Some c.in-Some.command
  asked = sym c.in_ok-command.ensures.ok ∙ c.in-Some.is

  down : most (cursor_of c.args.script.now c.advance.new.self) < most (cursor_of c.args.script.now c.steps.cursor)
  down =
      goes_down (g.Z.Sealer.text c.args.z.now) c.args.self.now c.steps.self c.args.script.now (cursor_of c.args.script.now c.steps.cursor) c.in-Some.command asked c.steps.invariant
      c.in_ok-outcome.outcome (cursor_of c.args.script.now c.advance.new.self) c.advance.ensures

  goes_on : Goes (g.Z.Sealer.text c.args.z.now) c.args.self.now c.step.new.self c.args.script.now (cursor_of c.args.script.now c.advance.new.self)
  goes_on =
      goes_next (g.Z.Sealer.text c.args.z.now) c.args.self.now c.steps.self c.args.script.now (cursor_of c.args.script.now c.steps.cursor) c.in-Some.command asked c.steps.invariant
      c.step.new.self c.in_ok-outcome.outcome (cursor_of c.args.script.now c.advance.new.self) c.advance.ensures c.in_ok-outcome.ensures.start c.in_ok-outcome.ensures.stepped c.in_ok-outcome.ensures.stands

pub steps-init : goal.steps-init
steps-init g c = goes_first (g.Z.Sealer.text c.args.z.now) c.args.self.now c.args.script.now _ (c.start-cursor.ensures c.args.script.now) c.requires.room c.requires.fits

pub step-requires-clause-room : goal.step-requires-clause-room
step-requires-clause-room g c =
    goes_room (g.Z.Sealer.text c.args.z.now) c.args.self.now c.steps.self c.args.script.now (cursor_of c.args.script.now c.steps.cursor) c.in-Some.command (sym c.in_ok-command.ensures.ok ∙ c.in-Some.is) c.steps.invariant

pub step-requires-clause-fits : goal.step-requires-clause-fits
step-requires-clause-fits g c =
    goes_fit (g.Z.Sealer.text c.args.z.now) c.args.self.now c.steps.self c.args.script.now (cursor_of c.args.script.now c.steps.cursor) c.in-Some.command (sym c.in_ok-command.ensures.ok ∙ c.in-Some.is) c.steps.invariant

pub steps-smaller : goal.steps-smaller
steps-smaller g c = let all = goal.at.steps-smaller g c in down g all.After-advance

pub steps-preserved : goal.steps-preserved
steps-preserved g c = let all = goal.at.steps-preserved g c in goes_on g all.After-advance

pub steps-smaller-in_ok-outcome : goal.steps-smaller-in_ok-outcome
steps-smaller-in_ok-outcome g c = let all = goal.at.steps-smaller-in_ok-outcome g c in down g all.After-advance

pub steps-preserved-in_ok-outcome : goal.steps-preserved-in_ok-outcome
steps-preserved-in_ok-outcome g c = let all = goal.at.steps-preserved-in_ok-outcome g c in goes_on g all.After-advance

pub steps-smaller-in_ok-outcome-2 : goal.steps-smaller-in_ok-outcome-2
steps-smaller-in_ok-outcome-2 g c = let all = goal.at.steps-smaller-in_ok-outcome-2 g c in down g all.After-advance

pub steps-preserved-in_ok-outcome-2 : goal.steps-preserved-in_ok-outcome-2
steps-preserved-in_ok-outcome-2 g c = let all = goal.at.steps-preserved-in_ok-outcome-2 g c in goes_on g all.After-advance

pub steps-smaller-in_ok-outcome-3 : goal.steps-smaller-in_ok-outcome-3
steps-smaller-in_ok-outcome-3 g c = let all = goal.at.steps-smaller-in_ok-outcome-3 g c in down g all.After-advance

pub steps-preserved-in_ok-outcome-3 : goal.steps-preserved-in_ok-outcome-3
steps-preserved-in_ok-outcome-3 g c = let all = goal.at.steps-preserved-in_ok-outcome-3 g c in goes_on g all.After-advance
