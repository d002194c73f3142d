use Rattle.std.proofs.Common.{◌≡◌, List, [], length, refl}
use Rattle.wl_elem.specs.declared.lane.EndId.TheVariants.{Ap, Sta}
use Rattle.wl_history.specs.declared.start.Start.{Start}
use Rattle.wl_history.specs.declared.step.Step.{Step}
use Rattle.wl_history.specs.AirState.{AirState, begun}
use Rattle.wl_air.specs.World.{IsWorld, Stands, world_of}
use Rattle.wl_air.proofs.Bounds.{begun_world}
use Rattle.wl_air.proofs.Worlds.{so_begun, begun_stands}
use Rattle.wl_air.proofs.world.World.new.Goals as goal

pub new-requires-clause-ap : goal.new-requires-clause-ap
new-requires-clause-ap c = record { some_window = c.requires.some_window Ap; window_limit = c.requires.window_limit Ap; some_pn = c.requires.some_pn Ap; pn_limit = c.requires.pn_limit Ap }

pub new-requires-clause-sta : goal.new-requires-clause-sta
new-requires-clause-sta c = record { some_window = c.requires.some_window Sta; window_limit = c.requires.window_limit Sta; some_pn = c.requires.some_pn Sta; pn_limit = c.requires.pn_limit Sta }

pub invariant_of-result : goal.invariant_of-result
invariant_of-result c =
    so_begun (λ (start : Start) (a : AirState) (steps : List Step). IsWorld start a (length steps)) c.args.start.now c.in_ok-kept.kept c.in_ok-air.air c.new-2.result c.in_ok-kept.ensures c.in_ok-air.ensures.begun c.new-2.ensures (begun_world c.args.start.now c.requires)

pub returns-clause-begun : goal.returns-clause-begun
returns-clause-begun c =
    so_begun (λ (start : Start) (a : AirState) (steps : List Step). world_of start a steps ≡ world_of c.args.start.now (begun c.args.start.now) []) c.args.start.now c.in_ok-kept.kept c.in_ok-air.air c.new-2.result c.in_ok-kept.ensures c.in_ok-air.ensures.begun c.new-2.ensures refl

pub returns-clause-stands : goal.returns-clause-stands
returns-clause-stands c text =
    so_begun (λ (start : Start) (a : AirState) (steps : List Step). Stands text (world_of start a steps)) c.args.start.now c.in_ok-kept.kept c.in_ok-air.air c.new-2.result c.in_ok-kept.ensures c.in_ok-air.ensures.begun c.new-2.ensures (begun_stands text c.args.start.now c.requires)
