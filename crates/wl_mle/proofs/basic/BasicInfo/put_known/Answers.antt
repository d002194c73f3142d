use Rattle.std.proofs.Common.{append_assoc}
use Rattle.std.proofs.lemmas.List.{append-nil}
use Rattle.wl_mle.proofs.basic.BasicInfo.put_known.Goals as goal

pub returns : goal.returns
returns c =
    rw (c.in_ok-put_u16-4.ensures, c.in_ok-put_u8-3.ensures, c.in_ok-put_u16-3.ensures, c.in_ok-put_u16-2.ensures, c.in_ok-put_u16.ensures, c.in_ok-put_u8-2.ensures, c.in_ok-put_u8.ensures, c.in_ok-put_mac.ensures)
    (simp (append_assoc, append-nil))
