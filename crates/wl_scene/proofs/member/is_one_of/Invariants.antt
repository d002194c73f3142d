use Rattle.std.proofs.Common.{◌≡◌, map, drop}
use Rattle.wl_scene.specs.Members.{is_among}
use Rattle.wl_scene.proofs.member.is_one_of.Given as goal

-- the names so far aren't it
abbrev pub invariant-names : goal.invariant-names
invariant-names l = is_among l.name (map (λ n. n.now) l.names) ≡ is_among l.name (map (λ n. n.now) (drop l.other-index l.names))
