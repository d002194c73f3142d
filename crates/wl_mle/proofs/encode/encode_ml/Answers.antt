use Rattle.wl_mle.proofs.Writing.{is_within}
use Rattle.wl_mle.proofs.encode.encode_ml.Goals as goal

pub new-requires : goal.new-requires
new-requires c = is_within c.spelled_once.ensures c.args.value.now c.in_ok-body.body c.requires c.in_ok-body.ensures
