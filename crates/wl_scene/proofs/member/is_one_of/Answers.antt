use Rattle.std.proofs.Common.{sym, ◌∙◌}
use Rattle.wl_scene.proofs.Among.{is_there, goes_on, is_none}
use Rattle.wl_scene.proofs.member.is_one_of.Goals as goal

pub returns-then-eq : goal.returns-then-eq
returns-then-eq c = is_there c.args.name.now c.args.names.now c.names.other-index _ c.names-test.true c.names.invariant (sym c.eq.ensures ∙ c.if-eq.true)

pub names-preserved : goal.names-preserved
names-preserved c = goes_on c.args.name.now c.args.names.now c.names.other-index _ c.names-test.true c.names.invariant (sym c.eq.ensures ∙ c.if-eq.false)

pub returns : goal.returns
returns c = is_none c.args.name.now c.args.names.now c.names.other-index c.names-test.false c.names.invariant
