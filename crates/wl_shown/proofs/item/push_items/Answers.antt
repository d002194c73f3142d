use Rattle.std.proofs.Common.{ℕ, List, ◌++◌, ap, subst, ◌∙◌}
use Rattle.std.specs.String.{string_bytes}
use Rattle.wl_elem.specs.Element.{ElementValue}
use Rattle.wl_shown.specs.Shown.{ItemsAs, IsFaultOf, AddsText}
use Rattle.wl_shown.proofs.Items.{one_more, refuses, ends}
use Rattle.wl_shown.proofs.item.push_items.Goals as goal

pub returns-in-Err-clause-refused : goal.returns-in-Err-clause-refused
returns-in-Err-clause-refused c =
    let whole = refuses c.args.shown c.as_slice-e-items.result.now c.loop-i.i c.e-item.result (string_bytes c.args.items.now) (string_bytes c.loop-i.items) c.in-Err.fault c.in_element.result c.loop-i-test.true c.e-item.is c.loop-i.invariant c.in-Err.ensures.refused c.in_element.ensures in
    subst (λ (x : List ElementValue). IsFaultOf (ItemsAs c.args.shown 0 x) c.in_element.result) c.as_slice-e-items.ensures.value whole

pub loop-i-preserved : goal.loop-i-preserved
loop-i-preserved c =
    let shown = c.in-Ok.ensures.shown in
    let text = shown.2 ∙ ap (λ (x : List ℕ). x ++ shown.0) c.in_ok-push_str.ensures.bytes in
    one_more c.args.shown c.as_slice-e-items.result.now c.loop-i.i c.e-item.result (string_bytes c.args.items.now) (string_bytes c.loop-i.items) shown.0 (string_bytes c.push_item.new.out) c.loop-i-test.true c.e-item.is c.loop-i.invariant shown.1 text

pub returns-clause-shown : goal.returns-clause-shown
returns-clause-shown c =
    subst (λ (x : List ElementValue). AddsText (ItemsAs c.args.shown 0 x) (string_bytes c.args.items.now) (string_bytes c.loop-i.items)) c.as_slice-e-items.ensures.value
    (ends c.args.shown c.as_slice-e-items.result.now c.loop-i.i (string_bytes c.args.items.now) (string_bytes c.loop-i.items) c.loop-i-test.false c.loop-i.invariant)
