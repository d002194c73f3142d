use Rattle.std.proofs.Common.{◌≡◌, ◌-◌, ◌<◌, List, false, ltb, sym, ap, subst, ◌∙◌}
use Rattle.std.specs.Prelude.{slice_get}
use Rattle.std.proofs.lemmas.Bool.{or_parts, ltb-false}
use Rattle.wl_window.specs.declared.mark.Mark.{Mark}
use Rattle.wl_window.specs.Originating.{Ledger, Sending, IsSending, booked_count, booked_mark, is_booked, book_at}
use Rattle.wl_window.proofs.Settling.{booked_sound}
use Rattle.wl_window.proofs.origin.Origin.booked.Goals as goal

pub invariant_of-self-2 : goal.invariant_of-self-2
invariant_of-self-2 c =
    let s : Sending = record { granted = c.self.inside.granted; base = c.self.inside.base; marks = c.self.inside.marks.items } in
    let is : s ≡ c.args.self.now.sending = ap (λ (l : Ledger). l.sending) c.self.view_is in
    let free : is_booked s c.args.pos ≡ false = ap (λ (t : Sending). is_booked t c.args.pos) is ∙ c.requires.free in
    let parts = or_parts (ltb c.args.pos s.base) (booked_mark (slice_get s.marks (c.args.pos - s.base))) free in
    let more : booked_count s < s.granted = subst (λ (t : Sending). booked_count t < t.granted) (sym is) c.requires.granted in
    let marks : c.book.new.marks.items ≡ book_at (c.args.pos - s.base) s.marks = c.book.ensures.marks ∙ ap (book_at (c.args.pos - s.base)) c.in_ok-reserve_marks.ensures.marks in
    subst (λ (l : List Mark). IsSending (record { granted = s.granted; base = s.base; marks = l })) (sym marks) (booked_sound s c.args.pos c.self.invariant more (ltb-false c.args.pos s.base parts.0) parts.1 c.requires.limit)
