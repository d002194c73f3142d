-- What scripts ask of a world, and why no more was done.
use Rattle.wl_frame.specs.Sealing.{Sealing}
use Rattle.wl_history.specs.declared.command.Command.{Command}
use Rattle.wl_history.specs.declared.script.Plain.{Plain}
use Rattle.wl_history.specs.declared.script.Stage.{Stage}
use Rattle.wl_history.specs.declared.start.Start.{Start}
use Rattle.wl_history.specs.AirState.{state_of}
use Rattle.wl_history.specs.Legal.{Fits, Forges}
use Rattle.wl_history.specs.Scripts.{command_at}
use Rattle.wl_air.specs.declared.fault.StepFault.{StepFault}
use Rattle.wl_air.specs.declared.fault.StepFault.TheVariants as faults
use Rattle.wl_air.specs.World.{WorldState, Stands}

-- the members of each command that this asks for, at whatever stage, are those of a scenario with this start
abbrev pub PlainFits : Start → Plain → Type 0
PlainFits start plain = (stage : Stage) → Fits start (command_at stage plain)

-- why a step wasn't made, in the words of the history
abbrev pub IsWorldFault : Sealing → WorldState → Command → StepFault → Type 0
IsWorldFault text w command (faults.Forged opened) = Stands text w → Forges text command (state_of text w.start w.steps) opened
IsWorldFault text w command faults.Memory = Unit {0}
