use Rattle.std.proofs.Common.{◌≡◌, false, true, subst, sym, ap, ◌∙◌}
use Rattle.wl_elem.specs.Lanes.{lane_index}
use Rattle.wl_number.specs.declared.numbers.Numbers.{Numbers}
use Rattle.wl_history.specs.EndState.{EndState, LaneState, lane_at}
use Rattle.wl_history.specs.Hearing.{sealed_under}
use Rattle.wl_history.specs.Words.{body_at}
use Rattle.wl_end.specs.Peeking.{IsBookingOf}
use Rattle.wl_end.specs.contracts.end.End.{the_view}
use Rattle.wl_end.proofs.Finding.{one_place, four_same}
use Rattle.wl_end.proofs.end.End.booking_of.Goals as goal

pub returns-in_default-clause-none : goal.returns-in_default-clause-none
returns-in_default-clause-none c pos is =
    let here : IsBookingOf (the_view c.self.inside) c.args.lane c.args.pn c.args.four.now pos = subst (λ (s : EndState). IsBookingOf s c.args.lane c.args.pn c.args.four.now pos) (sym c.self.view_is) is in
    c.in_default.ensures.none c.args.lane pos here.booked

pub returns-then-index-clause-none : goal.returns-then-index-clause-none
returns-then-index-clause-none c pos is =
    let here : IsBookingOf (the_view c.self.inside) c.args.lane c.args.pn c.args.four.now pos = subst (λ (s : EndState). IsBookingOf s c.args.lane c.args.pn c.args.four.now pos) (sym c.self.view_is) is in
    let one = one_place c.booked_once.ensures (the_view c.self.inside).booked c.in-Some.found c.args.lane c.in-Some.pos pos c.args.four.now.key.number c.args.pn c.in-Some.ensures.is_book.rule c.in-Some.ensures.some here.booked in
    c.if-index.true (c.index.ensures.place ∙ one.0 ∙ sym c.index-2.ensures.place)

pub new-own-requires : goal.new-own-requires
new-own-requires c =
    let n : Numbers = record { pos = c.in-Some.pos; key = c.args.four.now.key.number; pn = c.args.pn } in
    (c.in-Some.ensures.is_book.in_range (lane_index c.in-Some.found) n c.in-Some.ensures.some).bound

pub returns-else-sealed-clause-none : goal.returns-else-sealed-clause-none
returns-else-sealed-clause-none c pos is =
    let here : IsBookingOf (the_view c.self.inside) c.args.lane c.args.pn c.args.four.now pos = subst (λ (s : EndState). IsBookingOf s c.args.lane c.args.pn c.args.four.now pos) (sym c.self.view_is) is in
    let one = one_place c.booked_once.ensures (the_view c.self.inside).booked c.in-Some.found c.args.lane c.in-Some.pos pos c.args.four.now.key.number c.args.pn c.in-Some.ensures.is_book.rule c.in-Some.ensures.some here.booked in
    let queue = (lane_at (the_view c.self.inside) (lane_index c.args.lane)).queue in
    let body = c.body.ensures.value ∙ ap (λ (l : LaneState). body_at l.queue c.in-Some.pos) c.at.ensures.value ∙ ap (body_at queue) one.1 in
    let same = four_same c.new-own.result c.body.result.now (sealed_under c.self.inside.start c.self.inside.start.end c.args.lane (record { pos = pos; key = c.args.four.now.key.number; pn = c.args.pn }) (body_at queue pos)) c.new-own.ensures.key c.new-own.ensures.nonce c.new-own.ensures.aad body in
    let no : false ≡ true = sym c.if-sealed.false ∙ c.sealed.ensures.1 (same ∙ here.sealed) in
    absurd (cc no)
