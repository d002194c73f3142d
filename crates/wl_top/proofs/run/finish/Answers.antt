use Rattle.std.proofs.Common.{refl, inr}
use Rattle.wl_io.specs.Seen.{seen}
use Rattle.wl_top.specs.declared.ending.Ending.TheVariants.{Refused, WriteFault, Memory}
use Rattle.wl_top.proofs.Endings.{fault_at}
use Rattle.wl_top.proofs.run.finish.Goals as goal

pub returns-in-Refused : goal.returns-in-Refused
returns-in-Refused g c = (Refused c.in-Refused.place, rw c.in-Refused.is (refl, (refl, refl)), rw c.in-Refused.is c.outcome.ensures)

pub returns-in-Unmade : goal.returns-in-Unmade
returns-in-Unmade g c = (Memory, rw c.in-Unmade.is (refl, (refl, refl)), rw c.in-Unmade.is c.outcome-in-Unmade.ensures)

pub returns-in-Halted : goal.returns-in-Halted
returns-in-Halted g c = (Memory, rw c.in-Halted.is (refl, (refl, refl)), rw c.in-Halted.is c.outcome-in-Halted.ensures)

pub returns : goal.returns
returns g c =
    let sink = seen g.K.Sink.taken g.K.Sink.faults c.args.sink.now c.write_all.new.sink in
    (WriteFault c.in-Err.fault.taken, rw c.in-Ran.is (inr (c.in-Err.fault.taken, refl, fault_at sink c.in-Ran.out _ c.in-Err.fault.taken c.as_slice.ensures c.in-Err.ensures.fault)), rw c.in-Ran.is c.outcome-in-Err.ensures)
