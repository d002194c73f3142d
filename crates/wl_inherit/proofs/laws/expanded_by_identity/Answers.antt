use Rattle.std.proofs.Common.{List, ap, ◌∙◌, Some}
use Rattle.wl_elem.specs.Element.{ElementValue}
use Rattle.wl_inherit.specs.Identity.{of_identity}
use Rattle.wl_inherit.proofs.Expansion.{at_identity_expected, no_non}
use Rattle.wl_inherit.proofs.laws.expanded_by_identity.Goals as goal

pub returns-clause-each : goal.returns-clause-each
returns-clause-each c outer profile list nons are is id ext isnt = ap (λ (x : List ElementValue). of_identity id ext x) is ∙ at_identity_expected nons outer profile id ext isnt

pub returns-clause-none : goal.returns-clause-none
returns-clause-none c outer profile list nons are is = ap (λ (x : List ElementValue). of_identity 255 (Some 56) x) is ∙ no_non nons outer profile
