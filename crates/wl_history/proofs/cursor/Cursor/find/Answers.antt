use Rattle.std.proofs.Common.{◌∙◌}
use Rattle.wl_history.proofs.Cursors.{gone_on}
use Rattle.wl_history.proofs.cursor.Cursor.find.Goals as goal

pub items-preserved : goal.items-preserved
items-preserved c =
    gone_on c.args.script.now c.as_slice-items.result.now c.items.self c.find_in.new.self c.index-items-self.result c.as_slice-items.ensures c.items-test.true c.index-items-self.is c.find_in.ensures.kept c.in_default.ensures.found
    ∙ c.items.invariant
