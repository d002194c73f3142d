use Rattle.std.proofs.Common.{◌≡◌, ◌||◌, ℕ, eqb, false, get_or, take}
use Rattle.std.specs.List.{list_any}
use Rattle.wl_inherit.proofs.identities.mark_octets.Given as goal

abbrev pub invariant-octets : goal.invariant-octets
invariant-octets l = (n : ℕ) → get_or l.table n false ≡ (get_or l.fn.table n false || list_any (λ x. eqb x n) (take l.octet-index l.octets))
