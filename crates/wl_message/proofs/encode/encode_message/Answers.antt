use Rattle.std.proofs.lemmas.Result.{IfOk-weaker}
use Rattle.wl_message.specs.Message.{message_octets}
use Rattle.wl_message.proofs.Spelled.{stands_for, has_room}
use Rattle.wl_message.proofs.encode.encode_message.Goals as goal

pub encode_action-requires : goal.encode_action-requires
encode_action-requires c =
    let m = c.args.message.now in
    (message_octets m, has_room m c.requires, stands_for m c.in_ok-action.action c.requires c.in_ok-action.ensures)

pub returns : goal.returns
returns c =
    let m = c.args.message.now in
    let action = c.in_ok-action.action in
    IfOk-weaker c.encode_action.result _ _ (λ body of. c.spelled_once.ensures action body (message_octets m) of (stands_for m action c.requires c.in_ok-action.ensures)) c.encode_action.ensures
