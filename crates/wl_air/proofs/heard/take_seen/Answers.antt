use Rattle.wl_air.proofs.Hearing.{body_made}
use Rattle.wl_air.proofs.heard.take_seen.Goals as goal

pub take-requires-clause-made : goal.take-requires-clause-made
take-requires-clause-made c = body_made c.args.peer.now c.in-Some.ensures.sound c.in-Opened.lane c.in-Opened.pn c.in-Opened.four c.in-Some.pos c.in-Some.ensures.some
