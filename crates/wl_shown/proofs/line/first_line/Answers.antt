use Rattle.std.proofs.Common.{refl, List, ℕ, [], ◌∷◌, sym, ap, ◌∙◌}
use Rattle.wl_shown.specs.Line.{lines_of}
use Rattle.wl_shown.proofs.Lines.{lines_first, lines_last}
use Rattle.wl_shown.proofs.line.first_line.Goals as goal

pub returns-in-Some-clause-lines : goal.returns-in-Some-clause-lines
returns-in-Some-clause-lines c =
    lines_first c.args.text.now c.in-Some.line.now c.in-Some.rest.now c.in-Some.ensures.found ∙ ap (λ (x : List ℕ). x ∷ lines_of c.in-Some.rest.now) (sym c.without_return.ensures)

pub returns-in-None-clause-lines : goal.returns-in-None-clause-lines
returns-in-None-clause-lines c =
    lines_last c.args.text.now c.requires (c.in-None.ensures.none refl) ∙ ap (λ (x : List ℕ). x ∷ []) (sym c.without_return-in-None.ensures)
