use Rattle.wl_action.proofs.Once.{fit_if}
use Rattle.wl_action.proofs.well_formed.are_fit.Goals as goal

pub returns : goal.returns
returns c = fit_if (record { lists = c.read_once.ensures; maps = c.read_once-2.ensures; links = c.read_once-3.ensures }) c.args.code c.args.list.now c.in_ok-refusal.refusal c.is_none.result (cc) c.in_ok-refusal.ensures c.is_none.ensures
