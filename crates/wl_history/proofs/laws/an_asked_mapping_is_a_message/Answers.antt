use Rattle.std.proofs.Common.{sym}
use Rattle.wl_history.specs.declared.outcome.Outcome.TheVariants.{Asked}
use Rattle.wl_history.proofs.Making.{asked_made}
use Rattle.wl_history.proofs.laws.an_asked_mapping_is_a_message.Goals as goal

pub returns : goal.returns
returns c = λ setup entries token good lt is. (asked_made entries (Asked token) setup good (sym is) lt).good
