use Rattle.std.proofs.Common.{ℕ, ◌∙◌, arith, length-take, length-drop}
use Rattle.wl_io.proofs.Moves.{Takes-next}
use Rattle.wl_io.proofs.write.write_all.Goals as goal

pub writes-preserved : goal.writes-preserved
writes-preserved g c = record {
  within = omega (arith, c.in-Ok.ensures.bound, length-take {A = ℕ}, length-drop {A = ℕ});
  unharmed = c.in-Ok.ensures.unharmed ∙ c.writes.invariant.unharmed;
  took = Takes-next _ _ _ _ _ _ c.writes.invariant.took c.in-Ok.ensures.took;
}
