-- For private contracts alone: an end that is lent.
use Rattle.std.specs.Borrow.{Lends, MutBor, Fml}
use Rattle.wl_elem.specs.declared.lane.EndId.{EndId}
use Rattle.wl_history.specs.AirState.{AirState, with_end}
use Rattle.wl_history.specs.EndState.{EndState}
use Rattle.wl_end.specs.contracts.end.End.{the_row as end_row}
use Rattle.wl_air.specs.contracts.air.Air.{the_row}

-- the air ends with the end as it is last behind the reference
abbrev pub LendsEnd : MutBor AirState → EndId → MutBor EndState → Fml
LendsEnd air end r = Lends the_row end_row air r (λ s. with_end end s air.now)
