use Rattle.std.proofs.Common.{List, get_or, sym, ap, ◌∙◌}
use Rattle.std.specs.Prelude.{position}
use Rattle.wl_elem.specs.Element.{ElementValue}
use Rattle.wl_assoc.specs.Profiles.{is_basic}
use Rattle.wl_joining.proofs.Only.{found_is, none_is}
use Rattle.wl_joining.proofs.read.only_basic.Goals as goal

pub returns-in_err-i-clause-none : goal.returns-in_err-i-clause-none
returns-in_err-i-clause-none c _ = none_is c.args.list.now (sym (c.in_err-i.ensures ∙ ap (position is_basic) c.as_slice-elements.ensures.value))

pub returns-clause-some : goal.returns-clause-some
returns-clause-some c =
    let e = c.index-elements-i.result in (
      c.in_ok-i.i,
      found_is c.args.list.now c.in_ok-i.i e c.requires
          (sym (c.in_ok-i.ensures ∙ ap (position is_basic) c.as_slice-elements.ensures.value)) (c.index-elements-i.is ∙ ap (λ (xs : List ElementValue). get_or xs c.in_ok-i.i e) c.as_slice-elements.ensures.value),
    )
