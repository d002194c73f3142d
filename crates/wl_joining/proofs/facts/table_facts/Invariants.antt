use Rattle.std.proofs.Common.{ℕ, ◌<◌, IfSome}
use Rattle.wl_mle.specs.MultiLink.{IsAddress}
use Rattle.wl_setup.specs.Table.{entry_for}
use Rattle.wl_joining.proofs.facts.table_facts.Given as goal

abbrev pub invariant-links : goal.invariant-links
invariant-links l = (link : ℕ) → link < l.id → IfSome (entry_for l.macs link) IsAddress
