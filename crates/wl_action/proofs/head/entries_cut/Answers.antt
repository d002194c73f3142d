use Rattle.std.proofs.Common.{◌<◌, ◌*◌, ℕ, Some, ap, sym, ◌∙◌, arith}
use Rattle.wl_action.proofs.Cuts.{entries_whole, entries_short}
use Rattle.wl_action.proofs.head.entries_cut.Goals as goal

pub returns-then-len-from : goal.returns-then-len-from
returns-then-len-from c = sym (entries_whole c.args.count c.args.len (omega arith))

pub returns : goal.returns
returns c =
    let short : c.args.len < 3 * c.args.count = omega arith in
    ap (λ (n : ℕ). Some n) c.saturating_sub.ensures ∙ sym (entries_short c.args.count c.args.len short)
