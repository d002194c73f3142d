-- The lines that tell how a run ended: the status with its place, and what they mean in words.
use Rattle.std.specs.Prelude.{ℕ, ◌==◌, if◌then◌else◌, List, [], ◌∷◌, ◌++◌, Option, Some, codes}
use Rattle.std.specs.Fmt.{decimal}
use Rattle.wl_top.specs.declared.run.Task.{Task}
use Rattle.wl_top.specs.declared.run.Task.TheVariants.{Simulate}

abbrev pub status_line : ℕ → ℕ → List ℕ
status_line status place = codes "mld: status " ++ decimal status ++ codes " place " ++ decimal place ++ 10 ∷ []

-- the commands, a line each
abbrev pub commands : List ℕ
commands =
    codes "  decode  shows each line of hex on standard input\n"
    ++ codes "  check   judges each line of hex on standard input\n"
    ++ codes "  run     does what the scenario on standard input asks for\n"

-- what status 2 means of a scenario
abbrev pub refused_scenario : ℕ → List ℕ
refused_scenario place =
    if place == 0 then codes "the input is no scenario: what is wrong stands outside its commands\n"
    else (codes "command " ++ decimal place ++ codes " of the scenario is not one that docs/FORMATS.md allows\n")

-- what status 2 means of a task: its input is no scenario, or has a line that is no hex line
abbrev pub refused : Option Task → ℕ → List ℕ
refused (Some Simulate) place = refused_scenario place
refused other place = codes "line " ++ decimal place ++ codes " is no hex line\n"

-- what a status and its place mean, for the task that the words asked for
abbrev pub reason : Option Task → ℕ → ℕ → List ℕ
reason task status place =
    (if status == 1 then codes "these words are no command; the commands are:\n" ++ commands
    else (if status == 2 then refused task place
    else (if status == 3 then codes "reading the input failed\n"
    else (if status == 4 then codes "writing failed after " ++ decimal place ++ codes " bytes\n"
    else (if status == 5 then codes "after " ++ decimal place ++ codes " steps a frame opened that its sender never booked\n"
    else (if status == 7 then codes "line " ++ decimal place ++ codes " is the first that is refused\n"
    else (if status == 8 then codes "the input has more than 16777216 bytes\n"
    else (if status == 9 then codes "there was not enough memory\n"
    else []))))))))
