use Rattle.std.proofs.Common.{◌≡◌, ◌+◌, ◌-◌, ◌++◌, ℕ, length, replicate, subst, arith}
use Rattle.wl_end.proofs.entries.fill.Goals as goal

pub returns-clause-items : goal.returns-clause-items
returns-clause-items g c =
    let ok = c.gap.list.ok.0 in
    let count : length c.gap.list.items - length c.args.list.now.items ≡ c.args.place + 1 - length c.args.list.now.items = omega (arith, ok, c.len.ensures, c.gap-test.false) in
    subst (λ (k : ℕ). c.gap.list.items ≡ c.args.list.now.items ++ replicate k c.args.entry) count c.gap.invariant.items
