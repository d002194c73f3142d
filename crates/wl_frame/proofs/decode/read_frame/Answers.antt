use Rattle.std.proofs.Common.{sym}
use Rattle.wl_frame.proofs.Passed.{is_whole}
use Rattle.wl_frame.proofs.Once.{read_frame, read_refusal}
use Rattle.wl_frame.proofs.decode.read_frame.Goals as goal

pub frame_at-requires : goal.frame_at-requires
frame_at-requires c = is_whole c.args.octets.now (sym c.in-Ok.ensures)

pub returns-in-Ok-clause-made : goal.returns-in-Ok-clause-made
returns-in-Ok-clause-made c = read_frame c.args.octets.now _ (sym c.in-Ok.ensures) c.frame_at.ensures.made

pub returns-in-Err-clause-made : goal.returns-in-Err-clause-made
returns-in-Err-clause-made c = read_refusal c.args.octets.now c.in-Err.refusal (sym c.in-Err.ensures)
