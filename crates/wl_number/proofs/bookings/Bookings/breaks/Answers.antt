use Rattle.std.proofs.Common.{arith, ◌+◌, ◌≤◌, eqb, List, Option, length, sym, subst}
use Rattle.std.specs.Prelude.{IfSome, IfNone}
use Rattle.wl_number.specs.declared.numbers.Numbers.{Numbers}
use Rattle.wl_number.specs.OrderRule.{LeastBreaks}
use Rattle.wl_number.specs.Places.{NoClash, FirstClash}
use Rattle.wl_number.specs.Bookings.{Book, lists_of}
use Rattle.wl_number.proofs.Lanes.{SoFar, one_more, least_of_all}
use Rattle.wl_number.proofs.bookings.Bookings.breaks.Goals as goal

pub lanes-preserved : goal.lanes-preserved
lanes-preserved c =
    let lists = lists_of c.self.inside.lanes in
    let own = c.place_of-own.result in
    let found = c.first_clash.result in
    let some = subst (λ (l : List Numbers). IfSome found (FirstClash (eqb c.lanes.place own) c.args.n l)) c.list_in.ensures c.first_clash.ensures.some in
    let none = subst (λ (l : List Numbers). IfNone found (NoClash (eqb c.lanes.place own) c.args.n l)) c.list_in.ensures c.first_clash.ensures.none in
    subst (λ (r : Option Numbers). SoFar lists own c.args.n (c.lanes.place + 1) r) (sym c.lower-kept.ensures) (one_more lists own c.args.n c.lanes.place c.lanes.kept found c.lanes.invariant some none)

pub returns-clause-some : goal.returns-clause-some
returns-clause-some c =
    let lists = lists_of c.self.inside.lanes in
    let nine : length lists ≤ c.lanes.place = omega (arith, c.self.invariant.book.nine, c.lanes-test.false) in
    subst (λ (b : Book). IfSome c.lanes.kept (LeastBreaks b.lanes c.args.lane c.args.n)) c.self.view_is (least_of_all lists c.place_of-own.result c.args.n c.lanes.place c.args.lane c.lanes.kept nine c.place_of-own.ensures.place c.lanes.invariant)
