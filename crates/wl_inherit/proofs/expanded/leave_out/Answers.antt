use Rattle.std.proofs.Common.{List, ℕ, sym, subst, ◌∙◌}
use Rattle.wl_inherit.specs.declared.non_inheritance.NonInheritance.{NonInheritance}
use Rattle.wl_inherit.specs.NonInheritance.{NonOf}
use Rattle.wl_inherit.proofs.LeavingOut.{own_more, non_more}
use Rattle.wl_inherit.proofs.expanded.leave_out.Goals as goal

pub returns-then-not-is_non-clause-left_out : goal.returns-then-not-is_non-clause-left_out
returns-then-not-is_non-clause-left_out c profile so_far = own_more profile c.args.element.now c.args.marks.now c.mark.new.self c.mark.ensures.marks (sym c.is_non.ensures ∙ c.if-not-is_non.true) so_far

pub returns-clause-left_out : goal.returns-clause-left_out
returns-clause-left_out c profile so_far =
    let n : NonInheritance = record { ids = c.in_ok-lists_of.field-0.ids.now; exts = c.in_ok-lists_of.field-0.exts.now; tail = c.in_ok-lists_of.field-0.tail.now } in
    non_more profile c.args.element.now n c.args.marks.now c.mark.new.self c.mark_lists.new.self c.mark.ensures.marks c.mark_lists.ensures (sym c.is_non.ensures ∙ c.if-not-is_non.false) (subst (λ (body : List ℕ). NonOf n body) c.body.ensures.value c.in_ok-lists_of.ensures.read) so_far
