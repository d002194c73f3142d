use Rattle.std.proofs.Common.{◌≡◌, None, subst}
use Rattle.wl_action.specs.declared.code.Code.{Code}
use Rattle.wl_action.specs.Action.{field_fault}
use Rattle.wl_action.proofs.Table.{reply_whole}
use Rattle.wl_action.proofs.decode.read_behind.Goals as goal

pub reconf_reply-requires : goal.reconf_reply-requires
reconf_reply-requires c = reply_whole c.args.rest.now (subst (λ (code : Code). field_fault code c.args.rest.now ≡ None) c.in-ReconfReply.is c.requires.whole)
