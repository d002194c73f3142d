use Rattle.std.proofs.Common.{◌≡◌, false, drop, List, ap, sym, ◌∙◌}
use Rattle.std.specs.Prelude.{◌==◌, not}
use Rattle.std.specs.List.{list_all}
use Rattle.wl_assoc.specs.declared.links.LinkState.{LinkState}
use Rattle.wl_joining.proofs.Taken.{states_refused, answered_here}
use Rattle.wl_joining.proofs.read.reply_from.Goals as goal

pub returns-in-Err-Refused : goal.returns-in-Err-Refused
returns-in-Err-Refused c = states_refused c.args.on c.args.value.now c.in-Err-Refused.field-0-0 (rw c.in-Err-Refused.field-0-is at c.in-Err-Refused.ensures.only)

pub returns-then-not-are_elsewhere : goal.returns-then-not-are_elsewhere
returns-then-not-are_elsewhere c =
    let others : c.others_of.result.now ≡ drop 1 c.in-Ok.states = c.others_of.ensures ∙ ap (drop 1) c.as_slice.ensures in
    let not_all : list_all (λ s. not (s.link == c.args.on)) (drop 1 c.in-Ok.states) ≡ false = ap (λ (x : List LinkState). list_all (λ s. not (s.link == c.args.on)) x) (sym others) ∙ sym c.are_elsewhere.ensures ∙ c.if-not-are_elsewhere.true in
    answered_here c.args.on c.args.value.now c.in-Ok.states c.in-Ok.ensures.only not_all
