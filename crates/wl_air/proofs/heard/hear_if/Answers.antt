use Rattle.std.proofs.Common.{ap}
use Rattle.std.specs.Prelude.{option_copied}
use Rattle.wl_air.proofs.Hearing.{HearLaws, if_answer, if_unforged, if_after, if_fault}
use Rattle.wl_air.proofs.heard.hear_if.Given.{Over}
use Rattle.wl_air.proofs.heard.hear_if.Goals as goal
use Rattle.wl_air.proofs.heard.hear_if.Goals.{After-take_seen}

module _ (g : Over) (c : After-take_seen g) where
  laws : HearLaws
  laws = record { once = c.read_once.ensures; lane_told = c.nonce_tells_lane.ensures; one_booking = c.booked_once.ensures; fits = c.what_opens_fits.ensures }

pub returns-clause-answer : goal.returns-clause-answer
returns-clause-answer g c =
    if_answer (g.Z.Sealer.text c.args.z.now) c.sealer_is_sealing.ensures (laws g c) c.args.own.now c.args.peer.now c.test.ensures.sound c.test.ensures.in_range c.args.link c.in-Some.octets.now c.in-Ok.peek c.in-Ok.ensures.peeked (option_copied c.args.octets) (ap option_copied c.in-Some.is)
    (λ o. o.0) c.take_seen.new.own c.take_seen.result c.take_seen.ensures.heard

pub returns-clause-unforged : goal.returns-clause-unforged
returns-clause-unforged g c =
    if_unforged (g.Z.Sealer.text c.args.z.now) c.sealer_is_sealing.ensures (laws g c) c.args.own.now c.args.peer.now c.test.ensures.sound c.test.ensures.in_range c.args.link c.in-Some.octets.now c.in-Ok.peek c.in-Ok.ensures.peeked (option_copied c.args.octets) (ap option_copied c.in-Some.is)
    (λ o. o.0) c.take_seen.new.own c.take_seen.result c.take_seen.ensures.heard

pub returns-clause-after : goal.returns-clause-after
returns-clause-after g c =
    if_after (g.Z.Sealer.text c.args.z.now) c.sealer_is_sealing.ensures (laws g c) c.args.own.now c.args.peer.now c.test.ensures.sound c.test.ensures.in_range c.args.link c.in-Some.octets.now c.in-Ok.peek c.in-Ok.ensures.peeked (option_copied c.args.octets) (ap option_copied c.in-Some.is)
    (λ o. o.0) c.take_seen.new.own c.take_seen.result c.in-Ok.ensures.fits c.take_seen.ensures.heard

pub returns-clause-fault : goal.returns-clause-fault
returns-clause-fault g c =
    if_fault (g.Z.Sealer.text c.args.z.now) c.sealer_is_sealing.ensures (laws g c) c.args.own.now c.args.peer.now c.test.ensures.sound c.test.ensures.in_range c.args.link c.in-Some.octets.now c.in-Ok.peek c.in-Ok.ensures.peeked (option_copied c.args.octets) (ap option_copied c.in-Some.is)
    c.take_seen.result c.take_seen.ensures.fault
