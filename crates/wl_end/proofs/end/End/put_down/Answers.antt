use Rattle.std.proofs.Common.{◌≡◌, true, List, subst, sym, ap, ◌∙◌}
use Rattle.wl_history.specs.declared.hand.Hand.{Hand}
use Rattle.wl_history.specs.Hands.{hand_of}
use Rattle.wl_history.specs.EndState.{EndState, IsEnd}
use Rattle.wl_end.specs.Putting.{is_booking}
use Rattle.wl_end.specs.contracts.end.End.{the_view}
use Rattle.wl_end.proofs.Booking.{any_put_down}
use Rattle.wl_end.proofs.end.End.put_down.Goals as goal
use Rattle.wl_end.proofs.end.End.put_down.Goals.{After-replace}

kept : (c : After-replace) → IsEnd (the_view (record c.self.inside { hands = c.replace.new.self }))
kept c =
    let s = the_view c.self.inside in
    let held : is_booking (hand_of s.hands c.args.thread) ≡ true = ap (λ (e : EndState). is_booking (hand_of e.hands c.args.thread)) c.self.view_is ∙ c.requires in
    let made = λ (h : List Hand). let e : EndState = record s { hands = h } in e in
    subst IsEnd (sym (ap made c.replace.ensures.hands)) (any_put_down c.an_end_keeps.ensures.put_down s c.args.thread c.self.invariant.sound held)

pub invariant_of-self : goal.invariant_of-self
invariant_of-self c = let all = (goal.at.invariant_of-self c).After-replace in record { sound = kept all; known = c.self.invariant.known }

pub returns-clause-sound : goal.returns-clause-sound
returns-clause-sound c = kept (goal.at.returns-clause-sound c).After-replace
