use Rattle.std.proofs.Common.{subst}
use Rattle.wl_mle.specs.declared.multi_link.MultiLink.{MultiLink}
use Rattle.wl_mle.specs.MultiLink.{MlOf}
use Rattle.wl_assoc.proofs.Subs.{basic_counted, basic_read}
use Rattle.wl_assoc.proofs.profiles.basic_of.Goals as goal

pub returns-clause-count : goal.returns-clause-count
returns-clause-count c =
    let of = subst (λ (v : MultiLink). MlOf v c.args.element.now.body) c.in-Basic.is c.in_ok-basic.ensures.read in
    basic_counted c.items_length.ensures c.in-Basic.basic c.args.element.now.body of c.facts.ensures.bound

pub returns-clause-subs : goal.returns-clause-subs
returns-clause-subs c =
    let of = subst (λ (v : MultiLink). MlOf v c.args.element.now.body) c.in-Basic.is c.in_ok-basic.ensures.read in
    basic_read c.items_length.ensures c.in-Basic.basic c.args.element.now.body of c.facts.ensures.bound
