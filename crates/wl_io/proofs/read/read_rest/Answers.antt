use Rattle.std.proofs.Common.{arith, ◌∙◌}
use Rattle.std.proofs.lemmas.Result.{err_from_is_err_and}
use Rattle.wl_io.proofs.Moves.{Hands-more, IsTooLong-by_hands}
use Rattle.wl_io.proofs.read.read_rest.Goals as goal

pub returns-in_err-extend-clause-fault : goal.returns-in_err-extend-clause-fault
returns-in_err-extend-clause-fault g c =
    let p = err_from_is_err_and c.from_residual-in_err-extend.result c.from_residual-in_err-extend.ensures.1 in
    rw (p.1, p.2) (c.in_ok-n.ensures.unharmed ∙ c.reads.invariant.unharmed)

pub returns-in_err-extend-clause-rest : goal.returns-in_err-extend-clause-rest
returns-in_err-extend-clause-rest g c = (_, Hands-more _ _ _ _ _ c.reads.invariant.handed c.in_ok-n.ensures.handed)

pub returns-clause-fault : goal.returns-clause-fault
returns-clause-fault g c =
    (omega arith, IsTooLong-by_hands _ _ _ (omega arith) c.reads.invariant.handed, c.reads.invariant.unharmed)
