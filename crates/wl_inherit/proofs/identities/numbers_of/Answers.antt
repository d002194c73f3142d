use Rattle.std.proofs.Common.{Bool, false, ◌&&◌, ◌∷◌, ◌++◌, [], ℕ, List, get_or, not, ap, sym, ◌∙◌}
use Rattle.std.specs.Prelude.{filter}
use Rattle.std.proofs.lemmas.Bool.{and_left, and_right}
use Rattle.wl_inherit.proofs.Octets.{octet_yes, octet_no, octets_all}
use Rattle.wl_inherit.proofs.identities.numbers_of.Goals as goal
use Rattle.wl_inherit.proofs.identities.numbers_of.Goals.{then-table-n+then-not-other-n+in_ok-push, else-table-n, else-table-n-via-then-table-n+else-not-other-n, else-table-n-via-else-table-n}

pub numbers-preserved : goal.numbers-preserved
numbers-preserved c =
    let n = c.numbers.n in
    let marked = get_or c.args.table.now n false in
    let free = not (get_or c.args.other.now n false) in
    let test : ℕ → Bool = λ n. get_or c.args.table.now n false && not (get_or c.args.other.now n false) in
    elim c.if-table-n.branch [
      | then-table-n+then-not-other-n+in_ok-push w ↦
          w.numbers-is ∙ w.in_ok-push.ensures.ok ∙ ap (λ (x : List ℕ). x ++ n ∷ []) c.numbers.invariant
          ∙ sym (octet_yes test n c.numbers-test.true (ap (λ (x : Bool). x && free) w.if-table-n.true ∙ ap not w.if-not-other-n.true))
      | else-table-n w ↦
          w.numbers-is ∙ c.numbers.invariant
          ∙ sym (octet_no test n c.numbers-test.true
          (elim w.else-table-n.branch [
            | else-table-n-via-then-table-n+else-not-other-n v ↦ and_right marked free (ap not v.if-not-other-n.false)
            | else-table-n-via-else-table-n v ↦ and_left marked free v.if-table-n.false
          ]))
    ]

pub returns : goal.returns
returns c =
    let test : ℕ → Bool = λ n. get_or c.args.table.now n false && not (get_or c.args.other.now n false) in
    c.numbers.invariant ∙ ap (filter test) (octets_all c.numbers.n c.numbers-test.false)
