use Rattle.std.proofs.Common.{eqb-true, nat_eq, true, ◌≡◌, List, Ok, Err, length, arith, length-append, ap, sym, subst}
use Rattle.std.proofs.lemmas.List.{nil_from_length}
use Rattle.wl_elem.specs.declared.kind.ListKind.TheVariants.{Elements}
use Rattle.wl_elem.specs.Element.{ElementValue}
use Rattle.wl_elem.proofs.Cutting.{length-taken}
use Rattle.wl_elem.proofs.Decoding.{ReadsElements, one_element_more, is_list, is_refused, only_reading}
use Rattle.wl_elem.proofs.decode.decode_elements.Goals as goal

pub returns-in-Err-clause-only : goal.returns-in-Err-clause-only
returns-in-Err-clause-only c reading read =
    only_reading (Err c.fault.result) c.args.input.now (is_refused c.elements.list c.args.input.now c.elements.rest.now c.in-Err.stop c.fault.result c.elements.invariant c.in-Err.ensures.stopped c.fault.ensures) reading read

pub element_of-requires-clause-room : goal.element_of-requires-clause-room
element_of-requires-clause-room c =
    omega (
      arith,
      c.requires,
      length-taken Elements c.in-Ok.block.id c.in-Ok.block.information.items c.in-Ok.block.rest.now c.elements.rest.now c.in-Ok.ensures.taken,
      ap length c.elements.invariant.reads.split,
      length-append c.elements.invariant.reads.front c.elements.rest.now,
    )

pub elements-preserved : goal.elements-preserved
elements-preserved c =
    let more = one_element_more c.elements.list c.args.input.now c.elements.rest.now c.in-Ok.block.id c.in-Ok.block.information.items c.in-Ok.block.rest.now c.element_of.result c.elements.invariant c.in-Ok.ensures.taken c.element_of.ensures.shape c.element_of.ensures.same_id c.element_of.ensures.same in
    subst (λ (x : List ElementValue). ReadsElements x c.args.input.now c.in-Ok.block.rest.now) (sym c.in_ok-push.ensures.ok) more

pub returns-clause-read : goal.returns-clause-read
returns-clause-read c = is_list c.elements.list c.args.input.now c.elements.rest.now c.elements.invariant (nil_from_length c.elements.rest.now (let none : nat_eq (length c.elements.rest.now) 0 ≡ true = cc in eqb-true _ _ none))

pub returns-clause-only : goal.returns-clause-only
returns-clause-only c reading read =
    only_reading (Ok c.elements.list) c.args.input.now (is_list c.elements.list c.args.input.now c.elements.rest.now c.elements.invariant (nil_from_length c.elements.rest.now (let none : nat_eq (length c.elements.rest.now) 0 ≡ true = cc in eqb-true _ _ none))) reading read
