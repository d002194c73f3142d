use Rattle.std.proofs.Common.{◌≡◌, ◌≤◌, length, ◌-◌, ◌+◌}
use Rattle.wl_io.specs.Reading.{read_limit}
use Rattle.wl_io.specs.Source.{Hands}
use Rattle.wl_io.proofs.read.read_rest.Given as goal

-- so far the bytes are what the source handed over, and no read failed
abbrev pub invariant-reads : goal.invariant-reads
invariant-reads g l = record {
  within : length l.bytes ≤ read_limit + 1;
  unharmed : g.S.Source.faults l.source ≡ g.S.Source.faults l.initial.source;
  handed : Hands (g.S.Source.left l.initial.source) (g.S.Source.left l.source) l.bytes;
}

abbrev pub decreases-reads : goal.decreases-reads
decreases-reads g l = read_limit + 1 - length l.bytes
