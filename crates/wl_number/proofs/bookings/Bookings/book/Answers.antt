use Rattle.std.proofs.Common.{arith, ℕ, sym, subst}
use Rattle.wl_number.specs.OrderRule.{NoneBreaks}
use Rattle.wl_number.specs.Bookings.{Book, IsBook, HasRoom, lists_of}
use Rattle.wl_number.specs.NumberObject.{InRange}
use Rattle.wl_number.proofs.Rule.{book_after}
use Rattle.wl_number.proofs.bookings.Bookings.book.Goals as goal

is_book : (c : goal.After-self-1) → IsBook (lists_of c.enter_at.new.lanes)
is_book c =
    let lists = lists_of c.self.inside.lanes in
    let range : InRange c.args.n = record { position = omega arith; key = omega arith; some = c.requires.some; bound = c.requires.bound } in
    let none : NoneBreaks lists c.args.lane c.args.n = subst (λ (b : Book). NoneBreaks b.lanes c.args.lane c.args.n) (sym c.self.view_is) c.in_default.ensures.none in
    book_after lists (lists_of c.enter_at.new.lanes) c.args.lane c.place_of-place.result c.args.n c.place_of-place.ensures.place c.in_ok-enter_at.ensures.lists c.self.invariant.book range none

pub returns-clause-is_book : goal.returns-clause-is_book
returns-clause-is_book c = is_book c

pub invariant_of-self-2 : goal.invariant_of-self-2
invariant_of-self-2 c = record {
  book = is_book c;
  room = subst (λ (spare : ℕ). HasRoom c.enter_at.new.lanes spare) (sym c.saturating_sub-self-inside.ensures) (c.in_ok-enter_at.ensures.kept c.self.inside.spare c.self.invariant.room);
}
