use Rattle.std.specs.String.{string_bytes}
use Rattle.wl_shown.specs.MlText.{common_basics, common_capabilities}
use Rattle.wl_shown.proofs.Values.{both, all_added}
use Rattle.wl_shown.proofs.multi_link.push_common.Goals as goal

pub returns : goal.returns
returns c = all_added c.push_common_capabilities.result (string_bytes c.push_common_capabilities.new.out) _ _ c.push_common_capabilities.ensures
    (rw (c.in_ok-push_common_basics.ensures) (both (string_bytes c.args.out.now) (common_basics c.args.c.now) (common_capabilities c.args.c.now)))
