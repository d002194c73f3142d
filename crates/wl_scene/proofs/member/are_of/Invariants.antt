use Rattle.std.proofs.Common.{◌≡◌, map}
use Rattle.serde_json.specs.View.{members_view}
use Rattle.wl_scene.specs.Members.{are_among}
use Rattle.wl_scene.proofs.Among.{keys_among}
use Rattle.wl_scene.proofs.member.are_of.Given as goal

-- the names so far are among them
abbrev pub invariant-members : goal.invariant-members
invariant-members l =
    (goal.iterator-members).can_next l.name-iterator ×
    (goal.iterator-members).is_finite l.name-iterator ×
    (are_among (members_view l.members.entries) (map (λ n. n.now) l.names) ≡ keys_among l.name-iterator (map (λ n. n.now) l.names))
