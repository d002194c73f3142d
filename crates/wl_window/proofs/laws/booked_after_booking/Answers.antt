use Rattle.wl_window.proofs.Booked.{booking_marks, booking_counts}
use Rattle.wl_window.proofs.laws.booked_after_booking.Goals as goal

pub returns-clause-marks : goal.returns-clause-marks
returns-clause-marks c = booking_marks

pub returns-clause-counts : goal.returns-clause-counts
returns-clause-counts c = booking_counts
