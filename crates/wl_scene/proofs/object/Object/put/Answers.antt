use Rattle.wl_scene.proofs.Members.{still_no_float}
use Rattle.wl_scene.proofs.object.Object.put.Goals as goal

pub invariant_of-self : goal.invariant_of-self
invariant_of-self c = record { no_float = still_no_float c.put.result c.args.name.now _ c.args.self.now.members.entries c.put.new.map.entries c.put.ensures.ok c.put.ensures.err c.requires c.args.self.now.no_float }
