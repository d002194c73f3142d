use Rattle.std.proofs.Common.{◌≡◌, drop}
use Rattle.wl_scene.proofs.Scripts.{resumed, reading}
use Rattle.wl_scene.proofs.items.plains.Given as goal

-- what is left, behind the commands so far, is read as all are
abbrev pub invariant-commands : goal.invariant-commands
invariant-commands l = reading l.links l.values ≡ resumed l.body l.i (reading l.links (drop l.i l.values))
