use Rattle.std.proofs.Common.{take}
use Rattle.std.specs.Prelude.{All}
use Rattle.wl_inherit.specs.Identity.{IsIdentity}
use Rattle.wl_inherit.specs.Marks.{AddsAll}
use Rattle.wl_inherit.proofs.identities.Identities.mark_all.Given as goal

abbrev pub invariant-elements : goal.invariant-elements
invariant-elements l = record {
  marks : AddsAll (take l.element-index l.list) l.fn.self l.self;
  identities : All (λ e. IsIdentity e.id e.ext) (take l.element-index l.list);
}
