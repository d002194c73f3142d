use Rattle.std.proofs.Common.{rules}
use Rattle.wl_frame.specs.StandIn.{stand_in}
use Rattle.wl_frame.proofs.stand_in.StandInSealer.seal.Goals as goal

pub returns : goal.returns
unfolding stand_in
returns c =
    let tag = c.as_slice.ensures in
    let made = c.in_ok-out.ensures in
    search (rules, tag, made, c.tag_of.ensures, c.in_ok-extend.ensures.ok)
