use Rattle.std.proofs.Common.{◌≤◌, ◌*◌, take}
use Rattle.wl_elem.specs.Encoding.{HasLength}
use Rattle.wl_elem.proofs.encode.encoded_len.Given as goal

abbrev pub invariant-loop-e : goal.invariant-loop-e
invariant-loop-e l = record {
  counted : HasLength (take l.e-index l.e-items) l.sum;
  bound : l.sum ≤ l.e-index * 33554432;
}
