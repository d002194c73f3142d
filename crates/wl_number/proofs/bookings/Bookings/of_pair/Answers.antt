use Rattle.std.proofs.Common.{arith, ◌≤◌, ℕ, List, length, sym, subst, inl, inr}
use Rattle.std.specs.List.{Contains}
use Rattle.std.proofs.lemmas.Bool.{cases_lt}
use Rattle.wl_elem.specs.Lanes.{lane_index}
use Rattle.wl_number.specs.declared.numbers.Numbers.{Numbers}
use Rattle.wl_number.specs.OrderRule.{list_at}
use Rattle.wl_number.specs.Bookings.{Book, lists_of, BookedWith}
use Rattle.wl_number.proofs.Lanes.{last_or_before, none_past}
use Rattle.wl_number.proofs.bookings.Bookings.of_pair.Goals as goal

pub lanes-preserved : goal.lanes-preserved
lanes-preserved c p pos lt there =
    let lists = lists_of c.self.inside.lanes in
    let n : Numbers = record { pos = pos; key = c.args.key; pn = c.args.pn } in
    elim (last_or_before p c.lanes.place lt) [
      | inl below ↦ c.lanes.invariant p pos below there
      | inr same ↦ c.in_default.ensures.none pos (subst (λ (l : List Numbers). Contains l n) (sym c.list_in.ensures) (subst (λ (k : ℕ). Contains (list_at lists k) n) same there))
    ]

pub returns-clause-none : goal.returns-clause-none
returns-clause-none c lane pos there =
    let lists = lists_of c.self.inside.lanes in
    let nine : length lists ≤ c.lanes.place = omega (arith, c.self.invariant.book.nine, c.lanes-test.false) in
    let here : BookedWith lists lane pos c.args.key c.args.pn = subst (λ (b : Book). BookedWith b.lanes lane pos c.args.key c.args.pn) (sym c.self.view_is) there in
    elim (cases_lt (lane_index lane) c.lanes.place) [
      | inl lt ↦ c.lanes.invariant (lane_index lane) pos lt here
      | inr past ↦ none_past lists (lane_index lane) _ (omega arith) here
    ]
