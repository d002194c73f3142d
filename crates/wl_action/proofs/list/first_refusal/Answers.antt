use Rattle.wl_action.proofs.Items.{first_some}
use Rattle.wl_action.proofs.list.first_refusal.Goals as goal

pub returns-in-Some : goal.returns-in-Some
returns-in-Some c = rw c.in_element.ensures (first_some c.args.code c.args.list.now c.as_slice-elements.result.now c.elements.i c.index-elements-i.result c.in_ok-refusal.field-0 c.in-Some.refusal c.as_slice-elements.ensures.value c.elements-test.true c.index-elements-i.is c.elements.invariant c.in_ok-refusal.ensures c.in-Some.is)
