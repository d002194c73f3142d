use Rattle.std.proofs.Common.{◌≡◌, ◌<◌, true, false, length, arith, ◌∙◌, sym, subst, refl}
use Rattle.std.proofs.lemmas.List.{take_all}
use Rattle.std.proofs.lemmas.List.Elements.{All-more, All-get_or}
use Rattle.std.proofs.lemmas.List.Folds.{list_all_more}
use Rattle.wl_ttlm.specs.Mapping.{IsMapping, IsTidSet, is_tid_set}
use Rattle.std.proofs.lemmas.Bool.{and_from}
use Rattle.wl_ttlm.proofs.mapping.is_valid.Goals as goal

pub returns-then-not-is_tid_set-clause-valid : goal.returns-then-not-is_tid_set-clause-valid
returns-then-not-is_tid_set-clause-valid c =
    let inside : c.sets.set-index < length c.args.mapping.now.sets = omega arith in (
      λ h. let untrue : false ≡ true = h in absurd (cc),
      λ all. c.if-not-is_tid_set.ensures.exact.1 (All-get_or (IsTidSet c.args.links) c.args.mapping.now.sets c.sets.set-index c.set-item.result inside all),
    )

pub sets-preserved : goal.sets-preserved
sets-preserved c =
    let sets = c.args.mapping.now.sets in
    let i = c.sets.set-index in
    let d = c.set-item.result in
    let inside : i < length sets = omega arith in record {
      so_far = All-more (IsTidSet c.args.links) sets i d inside c.sets.invariant.so_far (c.if-not-is_tid_set.ensures.exact.0 refl);
      tested = list_all_more (is_tid_set c.args.links) sets i d inside ∙ and_from _ _ c.sets.invariant.tested (sym c.if-not-is_tid_set.ensures.test);
    }

pub returns-clause-valid : goal.returns-clause-valid
returns-clause-valid c = (λ _. subst (IsMapping c.args.links) (take_all c.sets.set-index c.args.mapping.now.sets (omega arith)) c.sets.invariant.so_far, λ _. refl)
