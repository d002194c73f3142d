use Rattle.std.proofs.Common.{◌-◌, arith}
use Rattle.wl_window.proofs.Turning.{turned_back}
use Rattle.wl_window.proofs.reorder.insert.Goals as goal

pub returns-clause-slots : goal.returns-clause-slots
returns-clause-slots g c =
    turned_back c.args.slots.now.items _ _ _ c.args.place (c.push_front_reserved.new.self.len - c.args.place) c.args.slot
    (omega (arith, c.requires.within, c.args.slots.now.ok.0)) (omega (arith, c.push_front_reserved.ensures.len, c.rotate_left.ensures.len, c.args.slots.now.ok.0))
    c.rotate_left.ensures.items c.push_front_reserved.ensures.items c.rotate_right.ensures.items
