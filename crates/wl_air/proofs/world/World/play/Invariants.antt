use Rattle.wl_history.specs.Cursors.{cursor_of}
use Rattle.wl_air.proofs.Plays.{Goes, most}
use Rattle.wl_air.proofs.world.World.play.Given as goal

abbrev pub invariant-steps : goal.invariant-steps
invariant-steps g l = Goes (g.Z.Sealer.text l.z) l.fn.self l.self l.script (cursor_of l.script l.cursor)

abbrev pub decreases-steps : goal.decreases-steps
decreases-steps g l = most (cursor_of l.script l.cursor)
