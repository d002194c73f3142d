use Rattle.std.proofs.Common.{rules}
use Rattle.wl_frame.proofs.Groups.{control_refused}
use Rattle.wl_frame.proofs.refusal.test_frame.Goals as goal

pub returns-in_err-test_control : goal.returns-in_err-test_control
returns-in_err-test_control c =
    let e = control_refused c.args.octets.now c.in_err-test_control.field-0.0 c.if-octets-lt24.false (rw c.from.ensures at c.in_err-test_control.ensures) in
    search (rules, e)
