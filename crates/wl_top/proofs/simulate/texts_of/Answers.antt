use Rattle.std.proofs.Common.{ℕ, List, ◌++◌, ap, ◌∙◌}
use Rattle.wl_history.specs.declared.step.Step.{Step}
use Rattle.wl_scene.specs.Lines.{journal_lines}
use Rattle.wl_top.proofs.simulate.texts_of.Goals as goal

pub returns : goal.returns
returns c text h = record {
  report = c.in_ok-report.report;
  is_report = c.in_ok-report.ensures text h;
  out_is =
      c.in_ok-extend.ensures.ok
      ∙ ap (λ (r : List ℕ). c.in_ok-out.out ++ r) c.as_slice.ensures
      ∙ ap (λ (j : List ℕ). j ++ c.in_ok-report.report) (c.in_ok-out.ensures ∙ ap (λ (s : List Step). journal_lines s) c.journal.ensures.steps);
}
