use Rattle.std.proofs.Common.{◌≡◌, ◌++◌, take}
use Rattle.std.specs.String.{string_bytes}
use Rattle.wl_shown.specs.MlText.{more_subs, reconf_sub_text}
use Rattle.wl_shown.proofs.multi_link.push_more_reconf_subs.Given as goal

abbrev pub invariant-subs : goal.invariant-subs
invariant-subs l = string_bytes l.out ≡ string_bytes l.fn.out ++ more_subs reconf_sub_text (take l.sub-index l.subs)
