use Rattle.std.proofs.Common.{◌≡◌, ◌&&◌, not, ℕ, [], None, Some, subst}
use Rattle.std.specs.Prelude.{IfOk}
use Rattle.std.proofs.lemmas.List.Elements.{filter_agree}
use Rattle.wl_inherit.specs.declared.non_inheritance.NonInheritance.{NonInheritance}
use Rattle.wl_inherit.specs.Marks.{is_marked}
use Rattle.wl_inherit.specs.Shrunk.{is_dropped, octet_values}
use Rattle.wl_inherit.proofs.Tables.{tells_dropped}
use Rattle.wl_inherit.proofs.shrunk.dropped_of.Goals as goal

pub returns-clause-dropped : goal.returns-clause-dropped
returns-clause-dropped c =
    let outer = c.args.outer.now in
    let full = c.args.full.now in
    let there = c.mark_all.new.self in
    let staying = c.mark_all-2.new.self in
    let tells = tells_dropped outer full c.none-there.result there c.of_never_inherited-staying.result staying c.none-there.ensures c.mark_all.ensures.marks c.mark_all.ensures.identities c.of_never_inherited-staying.ensures c.mark_all-2.ensures.marks in
    let ids = filter_agree (λ (n : ℕ). is_marked there n None && not (is_marked staying n None)) (λ (n : ℕ). is_dropped outer full n None) (λ n. tells n None) octet_values in
    let exts = filter_agree (λ (n : ℕ). is_marked there 255 (Some n) && not (is_marked staying 255 (Some n))) (λ (n : ℕ). is_dropped outer full 255 (Some n)) (λ n. tells 255 (Some n)) octet_values in
    subst (λ (x : NonInheritance). IfOk c.without.result (λ n. n ≡ x)) (λ i. record { ids = ids i; exts = exts i; tail = [] }) c.without.ensures
