use Rattle.std.proofs.Common.{◌≡◌, drop}
use Rattle.wl_elem.specs.Fields.{first_cut}
use Rattle.wl_elem.proofs.fields.first_cut.Given as goal

abbrev pub invariant-widths : goal.invariant-widths
invariant-widths l = first_cut (drop l.width-index l.widths) l.left ≡ first_cut l.widths l.len
