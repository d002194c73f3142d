use Rattle.std.proofs.Common.{◌≡◌, ◌≤◌, ◌++◌, ℕ, List, None, Some, length, ap, sym, subst, ◌∙◌, arith}
use Rattle.std.specs.Prelude.{filter}
use Rattle.wl_elem.specs.Element.{ElementValue}
use Rattle.wl_inherit.specs.declared.non_inheritance.NonInheritance.{NonInheritance}
use Rattle.wl_inherit.specs.Shrunk.{is_kept, is_dropped, dropped_ids, dropped_exts, dropped_count, exclusion, IsRegained}
use Rattle.wl_inherit.proofs.Octets.{few_octets}
use Rattle.wl_inherit.proofs.Tables.{takes_kept}
use Rattle.wl_inherit.proofs.Regaining.{is_regained}
use Rattle.wl_inherit.proofs.shrunk.shrink.Goals as goal

pub overflow_cast-result : goal.overflow_cast-result
overflow_cast-result c =
    let ids = ap length (c.as_slice.ensures ∙ ap (λ (n : NonInheritance). n.ids) c.in_ok-dropped.ensures.dropped) in
    let exts = ap length (c.as_slice-2.ensures ∙ ap (λ (n : NonInheritance). n.exts) c.in_ok-dropped.ensures.dropped) in
    omega (arith, ids, exts, few_octets (λ n. is_dropped c.args.outer.now c.args.full.now n None), few_octets (λ n. is_dropped c.args.outer.now c.args.full.now 255 (Some n)))

pub returns-clause-made : goal.returns-clause-made
returns-clause-made c =
    let outer = c.args.outer.now in
    let full = c.args.full.now in
    let kept = filter (is_kept outer full) full in
    let ids : c.in_ok-dropped.dropped.ids ≡ dropped_ids outer full = ap (λ (n : NonInheritance). n.ids) c.in_ok-dropped.ensures.dropped in
    let exts : c.in_ok-dropped.dropped.exts ≡ dropped_exts outer full = ap (λ (n : NonInheritance). n.exts) c.in_ok-dropped.ensures.dropped in
    let first = c.in_ok-put_others.ensures (is_kept outer full) (takes_kept outer full c.inherited_of.result c.inherited_of.ensures) ∙ ap (λ (x : List ElementValue). x ++ kept) c.new-list.ensures in
    let few : dropped_count outer full ≤ 252 = omega (arith, c.if-count-gt-MOST.false, ap length (c.as_slice.ensures ∙ ids), ap length (c.as_slice-2.ensures ∙ exts)) in (
      c.in_ok-put_exclusion.ensures ∙ ap (λ (x : List ElementValue). x ++ exclusion c.in_ok-dropped.dropped.ids c.in_ok-dropped.dropped.exts) first
          ∙ ap (λ (x : List ℕ). kept ++ exclusion x c.in_ok-dropped.dropped.exts) ids ∙ ap (λ (x : List ℕ). kept ++ exclusion (dropped_ids outer full) x) exts,
      few,
    )

pub returns-clause-regained : goal.returns-clause-regained
returns-clause-regained c =
    let made = returns-clause-made c in
    subst (IsRegained c.args.outer.now c.args.full.now) (sym made.0) (is_regained c.args.outer.now c.args.full.now c.in_ok-dropped.ensures.identities c.requires.none made.1)
