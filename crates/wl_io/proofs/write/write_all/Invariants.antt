use Rattle.std.proofs.Common.{◌≡◌, length, take, ◌-◌, ◌≤◌}
use Rattle.wl_io.specs.Sink.{Takes}
use Rattle.wl_io.proofs.write.write_all.Given as goal

-- the sink took the first bytes, and no write failed
abbrev pub invariant-writes : goal.invariant-writes
invariant-writes g l = record {
  within : l.taken ≤ length l.bytes;
  unharmed : g.K.Sink.faults l.sink ≡ g.K.Sink.faults l.initial.sink;
  took : Takes (g.K.Sink.taken l.initial.sink) (g.K.Sink.taken l.sink) (take l.taken l.bytes);
}

abbrev pub decreases-writes : goal.decreases-writes
decreases-writes g l = length l.bytes - l.taken
