-- For private contracts alone: objects that are being built.
use Rattle.serde_json.specs.Data.{Members}
use Rattle.serde_json.specs.View.{members_view}
use Rattle.wl_scene.specs.declared.object.Object.{Object}

-- the members so far
abbrev pub built : Object → Members
built o = members_view o.members.entries
