use Rattle.std.proofs.Common.{◌≡◌, ◌<◌, ◌∷◌, length, refl, sym, ap, subst, ◌∙◌, arith}
use Rattle.wl_history.specs.declared.command.Command.{Command}
use Rattle.wl_history.specs.declared.outcome.Outcome.TheVariants as outcomes
use Rattle.wl_history.specs.AirState.{AirState, state_of}
use Rattle.wl_history.specs.Legal.{Fits, Forges, step_limit}
use Rattle.wl_history.specs.Scripts.{step_of}
use Rattle.wl_air.specs.Acting.{CanDo, IsStepFault}
use Rattle.wl_air.specs.Air.{KnowsPeer}
use Rattle.wl_air.specs.Playing.{IsWorldFault}
use Rattle.wl_air.specs.World.{WorldState, Stands, world_of}
use Rattle.wl_air.proofs.Worlds.{knows_peer, can_do, both_roomy, unchanged, unmade, noted, settled, Acted, kept, stands, fault}
use Rattle.wl_air.proofs.world.World.step.Given.{Over}
use Rattle.wl_air.proofs.world.World.step.Goals as goal
use Rattle.wl_air.proofs.world.World.step.Goals.{After-settle}

module _ (g : Over) (c : After-settle g) where
  acted : Acted (g.Z.Sealer.text c.args.z.now) c.args.thread c.args.command c.self.inside.air c.in-Ok.outcome c.act.new.self
  acted =
      subst (λ (x : Command). Acted (g.Z.Sealer.text c.args.z.now) c.args.thread x c.self.inside.air c.in-Ok.outcome c.act.new.self)
      (noted c.args.thread c.args.command c.latest-command.result.now outcomes.Nothing c.self.inside.journal.steps c.push.new.self c.in_ok-push.ensures.ok c.latest-command.ensures)
      (record { answer = c.in-Ok.ensures.answer; unforged = c.in-Ok.ensures.unforged; then_is = c.in-Ok.ensures.after })

  later : c.settle.new.self ≡ step_of c.args.thread c.args.command c.in-Ok.outcome ∷ c.self.inside.journal.steps
  later = settled c.args.thread c.args.command outcomes.Nothing c.in-Ok.outcome c.in-Ok.again c.self.inside.journal.steps c.push.new.self c.settle.new.self c.in_ok-push.ensures.ok c.in-Ok.ensures.again c.settle.ensures

  room : length c.self.inside.journal.steps < step_limit
  room = subst (λ (w : WorldState). length w.steps < step_limit) (sym c.self.view_is) c.requires.room

  join : KnowsPeer c.args.command c.self.inside.air
  join = knows_peer c.self.inside.journal.start c.self.inside.air (length c.self.inside.journal.steps) c.args.command c.self.invariant

  goes_on : Stands (g.Z.Sealer.text c.args.z.now) c.args.self.now → Stands (g.Z.Sealer.text c.args.z.now) (world_of c.self.inside.journal.start c.act.new.self c.settle.new.self)
  goes_on h =
      stands (g.Z.Sealer.text c.args.z.now) c.self.inside.journal.start c.self.inside.air c.act.new.self c.self.inside.journal.steps c.settle.new.self c.args.thread c.args.command c.in-Ok.outcome
      room (omega arith) (subst (λ (w : WorldState). Fits w.start c.args.command) (sym c.self.view_is) c.requires.fits) c.test.ensures later acted join (subst (Stands (g.Z.Sealer.text c.args.z.now)) (sym c.self.view_is) h)

pub invariant_of-self-in-Ok : goal.invariant_of-self-in-Ok
invariant_of-self-in-Ok g c =
    kept (record { stored = c.stored_near.ensures; asked = c.requested_near.ensures }) (g.Z.Sealer.text c.args.z.now) c.self.inside.journal.start c.self.inside.air c.act.new.self c.self.inside.journal.steps c.settle.new.self c.args.thread c.args.command c.in-Ok.outcome (room g c) (later g c) (acted g c) c.self.invariant

pub returns-in-Ok-clause-stands : goal.returns-in-Ok-clause-stands
returns-in-Ok-clause-stands g c h = goes_on g c h

pub returns-in-Ok-clause-safe : goal.returns-in-Ok-clause-safe
returns-in-Ok-clause-safe g c h = c.every_history_is_safe.ensures (g.Z.Sealer.text c.args.z.now) c.self.inside.journal.start c.settle.new.self (goes_on g c h).legal

pub returns-in-Ok-clause-unforged : goal.returns-in-Ok-clause-unforged
returns-in-Ok-clause-unforged g c h opened forged =
    let was : Stands (g.Z.Sealer.text c.args.z.now) (world_of c.self.inside.journal.start c.self.inside.air c.self.inside.journal.steps) = subst (Stands (g.Z.Sealer.text c.args.z.now)) (sym c.self.view_is) h in
    (acted g c).unforged (join g c) opened
    (subst (λ (x : AirState). Forges (g.Z.Sealer.text c.args.z.now) c.args.command x opened) (sym was.air_is)
    (subst (λ (w : WorldState). Forges (g.Z.Sealer.text c.args.z.now) c.args.command (state_of (g.Z.Sealer.text c.args.z.now) w.start w.steps) opened) (sym c.self.view_is) forged))

pub returns-in-Err-clause-fault : goal.returns-in-Err-clause-fault
returns-in-Err-clause-fault g c =
    subst (λ (w : WorldState). IsWorldFault (g.Z.Sealer.text c.args.z.now) w c.args.command c.in-Err.fault) c.self.view_is
    (fault (g.Z.Sealer.text c.args.z.now) c.self.inside.journal.start c.self.inside.air c.self.inside.journal.steps c.args.command c.in-Err.fault
    (subst (λ (x : Command). IsStepFault (g.Z.Sealer.text c.args.z.now) x c.self.inside.air c.in-Err.fault)
    (noted c.args.thread c.args.command c.latest-command.result.now outcomes.Nothing c.self.inside.journal.steps c.push.new.self c.in_ok-push.ensures.ok c.latest-command.ensures)
    (c.in-Err.ensures.fault (knows_peer c.self.inside.journal.start c.self.inside.air (length c.self.inside.journal.steps) c.latest-command.result.now c.self.invariant))))

-- a step that wasn't made left all as it was
pub invariant_of-self : goal.invariant_of-self
invariant_of-self g c = unmade c.self.inside.journal.start c.self.inside.air c.self.inside.air c.self.inside.journal.steps c.push.new.self refl c.in_err-push.ensures.err c.self.invariant

pub invariant_of-self-in-Err : goal.invariant_of-self-in-Err
invariant_of-self-in-Err g c =
    unmade c.self.inside.journal.start c.self.inside.air c.act.new.self c.self.inside.journal.steps c.take_back.new.self c.in-Err.ensures.unchanged
    (c.take_back.ensures _ c.self.inside.journal.steps c.in_ok-push.ensures.ok) c.self.invariant

pub returns-in-Err-clause-unchanged : goal.returns-in-Err-clause-unchanged
returns-in-Err-clause-unchanged g c =
    unchanged c.self.inside.journal.start c.self.inside.air c.act.new.self c.self.inside.journal.steps c.take_back.new.self c.in-Err.ensures.unchanged
    (c.take_back.ensures _ c.self.inside.journal.steps c.in_ok-push.ensures.ok) ∙ c.self.view_is

pub act-requires-clause-fits : goal.act-requires-clause-fits
act-requires-clause-fits g c =
    subst (λ (x : Command). CanDo x c.self.inside.air) (sym (noted c.args.thread c.args.command c.latest-command.result.now outcomes.Nothing c.self.inside.journal.steps c.push.new.self c.in_ok-push.ensures.ok c.latest-command.ensures))
    (can_do c.self.inside.journal.start c.self.inside.air (length c.self.inside.journal.steps) c.args.command c.self.invariant (subst (λ (w : WorldState). Fits w.start c.args.command) (sym c.self.view_is) c.requires.fits) c.test.ensures)

pub act-requires-clause-roomy : goal.act-requires-clause-roomy
act-requires-clause-roomy g c = both_roomy c.self.inside.journal.start c.self.inside.air c.self.inside.journal.steps c.self.invariant (subst (λ (w : WorldState). length w.steps < step_limit) (sym c.self.view_is) c.requires.room)

pub returns-in_err-push-clause-start : goal.returns-in_err-push-clause-start
returns-in_err-push-clause-start g c = ap (λ (w : WorldState). w.start) (unchanged c.self.inside.journal.start c.self.inside.air c.self.inside.air c.self.inside.journal.steps c.push.new.self refl c.in_err-push.ensures.err ∙ c.self.view_is)

pub returns-in_err-push-clause-stands : goal.returns-in_err-push-clause-stands
returns-in_err-push-clause-stands g c h = subst (Stands (g.Z.Sealer.text c.args.z.now)) (sym (unchanged c.self.inside.journal.start c.self.inside.air c.self.inside.air c.self.inside.journal.steps c.push.new.self refl c.in_err-push.ensures.err ∙ c.self.view_is)) h

pub returns-in-Err-clause-start : goal.returns-in-Err-clause-start
returns-in-Err-clause-start g c = ap (λ (w : WorldState). w.start) (unchanged c.self.inside.journal.start c.self.inside.air c.act.new.self c.self.inside.journal.steps c.take_back.new.self c.in-Err.ensures.unchanged (c.take_back.ensures _ c.self.inside.journal.steps c.in_ok-push.ensures.ok) ∙ c.self.view_is)

pub returns-in-Err-clause-stands : goal.returns-in-Err-clause-stands
returns-in-Err-clause-stands g c h = subst (Stands (g.Z.Sealer.text c.args.z.now)) (sym (unchanged c.self.inside.journal.start c.self.inside.air c.act.new.self c.self.inside.journal.steps c.take_back.new.self c.in-Err.ensures.unchanged (c.take_back.ensures _ c.self.inside.journal.steps c.in_ok-push.ensures.ok) ∙ c.self.view_is)) h
