use Rattle.std.proofs.Common.{◌≡◌, ◌<◌, ℕ, false, List, length, arith, subst, sym, ap, ◌∙◌}
use Rattle.wl_elem.specs.Lanes.{lane_index}
use Rattle.wl_number.specs.declared.numbers.Numbers.{Numbers}
use Rattle.wl_number.specs.NumberObject.{NumberObject, drawn, position_of}
use Rattle.wl_number.specs.OrderRule.{NoneBreaks, with_booking}
use Rattle.wl_window.specs.Originating.{booked_count, is_booked, with_booked}
use Rattle.wl_history.specs.declared.hand.Hand.{Hand}
use Rattle.wl_history.specs.declared.hand.Hand.TheVariants.{Booking, Reserve}
use Rattle.wl_history.specs.declared.outcome.Outcome.TheVariants as outcomes
use Rattle.wl_history.specs.Hands.{hand_of, set_hand}
use Rattle.wl_history.specs.EndState.{EndState, LaneState, IsEnd, lane_at, after_book}
use Rattle.wl_end.specs.Parts.{with_lane_of}
use Rattle.wl_end.specs.contracts.end.End.{the_view}
use Rattle.wl_end.proofs.Booking.{some_to_book, next_is_queued, next_is_free, draw_breaks_none}
use Rattle.wl_end.proofs.end.End.draw.Goals as goal
use Rattle.wl_end.proofs.end.End.draw.Goals.{After-replace, After-position-pos, After-reserve}

held : (c : After-position-pos) → hand_of (the_view c.self.inside).hands c.args.thread ≡ Reserve c.args.lane.now
held c = ap (λ (s : EndState). hand_of s.hands c.args.thread) c.self.view_is ∙ c.requires.held

pub book-requires-clause-granted : goal.book-requires-clause-granted
book-requires-clause-granted c =
    subst (λ (l : LaneState). booked_count l.sending < l.sending.granted) (sym c.at_mut.ensures.value)
    (some_to_book (the_view c.self.inside) c.args.thread c.args.lane.now c.self.invariant.sound (held (goal.at.book-requires-clause-granted c).After-position-pos))

pub book-requires-clause-free : goal.book-requires-clause-free
book-requires-clause-free c =
    subst (λ (l : LaneState). is_booked l.sending c.position-pos.result ≡ false) (sym c.at_mut.ensures.value) (next_is_free (the_view c.self.inside) c.args.lane.now c.position-pos.result c.self.invariant.sound c.position-pos.ensures.value)

-- fewer than 2^32 bodies are queued
room : (c : After-reserve) → position_of c.self.inside.numbers c.args.lane.now < 4294967295
room c =
    let s = the_view c.self.inside in
    let held : hand_of s.hands c.args.thread ≡ Reserve c.args.lane.now = ap (λ (e : EndState). hand_of e.hands c.args.thread) c.self.view_is ∙ c.requires.held in
    omega (arith, next_is_queued s c.args.thread c.args.lane.now c.self.invariant.sound held, c.queued.type_inv, c.queued.ensures, ap (λ (l : LaneState). length l.queue) c.at.ensures.value)

pub book-requires-clause-limit : goal.book-requires-clause-limit
book-requires-clause-limit c = omega (arith, room (goal.at.book-requires-clause-limit c).After-reserve, c.position-pos.ensures.value)

pub next_of-n-requires-clause-room : goal.next_of-n-requires-clause-room
next_of-n-requires-clause-room c = room (goal.at.next_of-n-requires-clause-room c).After-reserve

pub enter-requires-clause-stands : goal.enter-requires-clause-stands
enter-requires-clause-stands c =
    let s = the_view c.self.inside in
    let none = draw_breaks_none c.highest_breaks_none.ensures c.a_draw_is_next.ensures.above s c.args.lane.now c.self.invariant.sound in
    subst (λ (l : List (List Numbers)). NoneBreaks l c.args.lane.now c.next_of-n.result) (sym c.in_ok-reserve.ensures.lanes) (subst (λ (n : Numbers). NoneBreaks s.booked c.args.lane.now n) (sym c.next_of-n.ensures.drawn) none)

-- the end that the booking leaves
abbrev drawing : After-replace → EndState → EndState
drawing c s = after_book c.args.thread (outcomes.Booked c.args.lane.now (drawn s.numbers c.args.lane.now)) s

abbrev lanes_left : After-replace → List LaneState
lanes_left c = with_lane_of c.self.inside.lanes c.args.lane.now c.book.new.self

left : (c : After-replace) → the_view (record c.self.inside { lanes = lanes_left c; hands = c.replace.new.self; numbers = c.next_of-n.new.numbers; booked = c.enter.new.booked }) ≡ drawing c (the_view c.self.inside)
left c =
    let s = the_view c.self.inside in
    let lane = c.args.lane.now in
    let k = lane_index lane in
    let n = drawn s.numbers lane in
    let t = drawing c s in
    let marked = λ (l : LaneState) (pos : ℕ). let m : LaneState = record l { sending = with_booked l.sending pos } in m in
    let own : c.book.new.self ≡ marked (lane_at s k) n.pos = c.in_ok-book.ensures.ok ∙ ap (λ (l : LaneState). marked l c.position-pos.result) c.at_mut.ensures.value ∙ ap (marked (lane_at s k)) c.position-pos.ensures.value in
    let lanes : lanes_left c ≡ t.lanes = ap (with_lane_of s.lanes lane) own in
    let hands : c.replace.new.self.hands ≡ t.hands = c.replace.ensures.hands ∙ ap (λ (m : Numbers). set_hand c.args.thread (Booking lane m) s.hands) c.next_of-n.ensures.drawn in
    let booked : c.enter.new.booked.lanes ≡ t.booked = c.enter.ensures ∙ ap (λ (l : List (List Numbers)). with_booking l lane c.next_of-n.result) c.in_ok-reserve.ensures.lanes ∙ ap (with_booking s.booked lane) c.next_of-n.ensures.drawn in
    let made = λ (l : List LaneState) (h : List Hand) (o : NumberObject) (b : List (List Numbers)). let e : EndState = record s { lanes = l; hands = h; numbers = o; booked = b } in e in
    ap (λ (l : List LaneState). made l c.replace.new.self.hands c.next_of-n.new.numbers c.enter.new.booked.lanes) lanes
    ∙ ap (λ (h : List Hand). made t.lanes h c.next_of-n.new.numbers c.enter.new.booked.lanes) hands
    ∙ ap (λ (o : NumberObject). made t.lanes t.hands o c.enter.new.booked.lanes) c.next_of-n.ensures.after
    ∙ ap (made t.lanes t.hands t.numbers) booked

kept : (c : After-replace) → IsEnd (the_view (record c.self.inside { lanes = lanes_left c; hands = c.replace.new.self; numbers = c.next_of-n.new.numbers; booked = c.enter.new.booked }))
kept c =
    let s = the_view c.self.inside in
    subst IsEnd (sym (left c)) (c.an_end_keeps.ensures.book s c.args.thread c.args.lane.now c.self.invariant.sound (ap (λ (e : EndState). hand_of e.hands c.args.thread) c.self.view_is ∙ c.requires.held))

pub invariant_of-self-2 : goal.invariant_of-self-2
invariant_of-self-2 c = let all = (goal.at.invariant_of-self-2 c).After-replace in record { sound = kept all; known = c.self.invariant.known }

pub returns-clause-sound : goal.returns-clause-sound
returns-clause-sound c = kept (goal.at.returns-clause-sound c).After-replace
