use Rattle.std.proofs.Common.{◌≡◌, ◌++◌, ◌∷◌, drop, map}
use Rattle.serde_json.specs.View.{view}
use Rattle.wl_scene.specs.Report.{run_data, runs_from, runs}
use Rattle.wl_scene.proofs.runs.of_runs.Given as goal

-- with the open run and what is left they are whole
abbrev pub invariant-positions : goal.invariant-positions
invariant-positions l = map view l.values.items ++ map run_data (runs_from l.begun.first l.begun.last (drop l.pos-index l.rest)) ≡ map run_data (runs (l.fn.first ∷ l.fn.rest))
