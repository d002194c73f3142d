use Rattle.wl_history.proofs.laws.laws_below.Goals as goal

pub returns-clause-numbers : goal.returns-clause-numbers
returns-clause-numbers c = record {
  entering = λ lanes lane n lt rule none. (c.stands_exactly.ensures lanes lane n rule lt).0 none;
  highest = c.highest_breaks_none.ensures;
  draw_above = c.a_draw_is_next.ensures.above;
  not_back = c.pairs_in_order.ensures.one_way;
  not_itself = c.pairs_in_order.ensures.itself;
}

pub returns-clause-windows : goal.returns-clause-windows
returns-clause-windows c = record {
  booking = c.booked_after_booking.ensures.marks;
  booking_counts = c.booked_after_booking.ensures.counts;
  acking = c.booked_after_ack.ensures;
  giving_up = c.booked_after_giving_up.ensures;
}

pub returns-clause-messages : goal.returns-clause-messages
returns-clause-messages c = record { read = c.a_message_is_read.ensures; short = c.a_message_is_short.ensures }
