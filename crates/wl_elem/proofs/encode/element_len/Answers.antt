use Rattle.std.proofs.Common.{◌≡◌, ◌+◌, ◌*◌, ◌/◌, ℕ, subst, sym, arith, length}
use Rattle.wl_elem.specs.Element.{information}
use Rattle.wl_elem.specs.Encoding.{HasElementLength}
use Rattle.wl_elem.proofs.Writing.{short_length, long_length}
use Rattle.wl_elem.proofs.encode.element_len.Goals as goal

pub returns-then-len-le255-clause-exact : goal.returns-then-len-le255-clause-exact
returns-then-len-le255-clause-exact c =
    let len = c.information_len-len.result in
    let same : length (information c.args.e.now) ≡ len = sym c.information_len-len.ensures.exact in
    subst (λ (n : ℕ). HasElementLength c.args.e.now (n + 2)) same (short_length c.args.e.now (omega (arith, same, c.if-len-le255.true)))

pub returns-clause-exact : goal.returns-clause-exact
returns-clause-exact c =
    let len = c.information_len-len.result in
    let same : length (information c.args.e.now) ≡ len = sym c.information_len-len.ensures.exact in
    subst (λ (n : ℕ). HasElementLength c.args.e.now (n + 2 * ((n + 254) / 255))) same (long_length c.args.e.now (omega (arith, same, c.if-len-le255.false)))
