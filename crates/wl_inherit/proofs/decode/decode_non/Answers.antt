use Rattle.std.proofs.Common.{rules}
use Rattle.wl_inherit.proofs.Once.{is_read_back}
use Rattle.wl_inherit.proofs.decode.decode_non.Goals as goal

pub returns-in_ok-value_of-in-Ok-clause-only : goal.returns-in_ok-value_of-in-Ok-clause-only
returns-in_ok-value_of-in-Ok-clause-only c reading h = is_read_back c.in_ok-value_of-in-Ok.field-0 c.args.element.now.body reading (search rules) h
