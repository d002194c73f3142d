use Rattle.std.proofs.Common.{List, ℕ, Option, Some, IfOk, ap, subst, ◌∙◌}
use Rattle.wl_elem.specs.declared.lane.EndId.{EndId}
use Rattle.wl_elem.specs.Lanes.{peer_of}
use Rattle.wl_history.specs.declared.opened.Opened.{Opened}
use Rattle.wl_history.specs.AirState.{end_of}
use Rattle.wl_history.specs.EndState.{EndState}
use Rattle.wl_history.specs.Hearing.{forged}
use Rattle.wl_history.specs.Legal.{ForgedIf}
use Rattle.wl_air.specs.Air.{AreJoined}
use Rattle.wl_air.proofs.air.Air.forge.Goals as goal

pub returns-clause-unforged : goal.returns-clause-unforged
returns-clause-unforged g c =
    let text = g.Z.Sealer.text c.args.z.now in
    let s = end_of c.args.self.now c.args.end in
    let sender = end_of c.args.self.now (peer_of c.args.end) in
    let peer = c.end-peer.ensures ∙ ap (λ (e : EndId). end_of c.args.self.now e) c.peer.ensures in
    let octets = c.as_slice-2.ensures ∙ c.in-Ok.ensures ∙ ap (λ (body : List ℕ). forged text c.end-peer.result.now.start c.args.link c.args.lane c.args.numbers body) c.as_slice.ensures
    ∙ ap (λ (p : EndState). forged text p.start c.args.link c.args.lane c.args.numbers c.args.body.now) peer in
    subst (λ (o : Option (List ℕ)). IfOk c.hear.result (λ r. AreJoined s sender → (opened : Opened) → ForgedIf text s sender c.args.link o opened → ⊥)) (ap Some octets) c.hear.ensures.unforged
