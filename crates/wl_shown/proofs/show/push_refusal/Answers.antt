use Rattle.std.proofs.Common.{append_assoc}
use Rattle.wl_shown.proofs.show.push_refusal.Goals as goal

pub returns : goal.returns
returns c =
    rw (c.in_ok-write.ensures.bytes, c.in_ok-push_index-3.ensures, c.in_ok-push_index-2.ensures, c.in_ok-push_index.ensures, c.in_ok-push_str.ensures.bytes, c.name.ensures)
    (simp append_assoc)
