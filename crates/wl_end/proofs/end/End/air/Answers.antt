use Rattle.std.proofs.Common.{◌≡◌, List, subst, sym, ap, ◌∙◌}
use Rattle.wl_history.specs.declared.hand.Hand.{Hand}
use Rattle.wl_history.specs.declared.hand.Hand.TheVariants.{Booking}
use Rattle.wl_history.specs.Hands.{hand_of}
use Rattle.wl_history.specs.EndState.{EndState, IsEnd}
use Rattle.wl_end.specs.contracts.end.End.{the_view}
use Rattle.wl_end.proofs.end.End.air.Goals as goal
use Rattle.wl_end.proofs.end.End.air.Goals.{After-replace}

pub frame-requires-clause-booked : goal.frame-requires-clause-booked
frame-requires-clause-booked g c = (c.test.ensures.sound.sender.held c.args.thread c.args.lane.now c.args.n.now c.requires.held).0

kept : (g : _) (c : After-replace g) → IsEnd (the_view (record c.self.inside { hands = c.replace.new.self }))
kept g c =
    let s = the_view c.self.inside in
    let hand_in = λ (e : EndState). hand_of e.hands c.args.thread in
    let held : hand_of s.hands c.args.thread ≡ Booking c.args.lane.now c.args.n.now = ap hand_in c.self.view_is ∙ ap hand_in c.in_ok-retry.ensures.after ∙ c.requires.held in
    let made = λ (h : List Hand). let e : EndState = record s { hands = h } in e in
    subst IsEnd (sym (ap made c.replace.ensures.hands)) (c.an_end_keeps.ensures.put_down s c.args.thread c.args.lane.now c.args.n.now c.self.invariant.sound held)

pub invariant_of-self : goal.invariant_of-self
invariant_of-self g c = let all = (goal.at.invariant_of-self g c).After-replace in record { sound = kept g all; known = c.self.invariant.known }

pub returns-clause-sound : goal.returns-clause-sound
returns-clause-sound g c = kept g (goal.at.returns-clause-sound g c).After-replace
