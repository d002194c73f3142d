use Rattle.std.proofs.Common.{Bool, List, ap, ◌∙◌}
use Rattle.wl_history.specs.EndState.{LaneState, aired_at}
use Rattle.wl_end.proofs.Places.{mark_filled}
use Rattle.wl_end.proofs.lane_parts.LaneParts.air.Goals as goal

pub returns : goal.returns
returns c =
    let inside = c.self.inside in
    let made = λ (aired : List Bool). let l : LaneState = record { queue = inside.queue; sending = inside.origin.sending; window = inside.reorder.window; released = inside.released.items; aired = aired; room = inside.reorder.room } in l in
    ap made (mark_filled inside.aired.items c.fill.new.list.items c.args.pos c.fill.ensures.reached c.fill.ensures.items)
    ∙ ap (λ (l : LaneState). record l { aired = aired_at c.args.pos l.aired }) c.self.view_is
