-- A table that is filled link by link.
use Rattle.std.proofs.Common.{◌≡◌, ℕ, ◌+◌, ◌<◌, List, Option, None, length, set, get_or, arith, ◌∙◌, length-set}
use Rattle.std.proofs.lemmas.List.Edits.{fill_by_more}
use Rattle.std.proofs.lemmas.List.FromFn.{fill_by_all}
use Rattle.wl_setup.specs.Table.{each_link}

-- the entries of the links below n are those wanted
pub record IsFilledTo {A : Type 0} (entry : ℕ → Option A) (table : List (Option A)) (n : ℕ) : Type 0 where
  pub whole : length table ≡ 15
  pub below : (k : ℕ) → k < n → get_or table k None ≡ entry k

pub filled_more : {A : Type 0} (entry : ℕ → Option A) (table : List (Option A)) (n : ℕ) (value : Option A) → n < 15 → value ≡ entry n → IsFilledTo entry table n → IsFilledTo entry (set table n value) (n + 1)
filled_more entry table n value low is so_far =
    let whole : length table ≡ 15 = so_far.whole in
    record {
      whole = length-set table n value ∙ so_far.whole;
      below = λ k under. rw is (fill_by_more entry table n None (omega (arith, whole)) so_far.below k under);
    }

pub filled_all : {A : Type 0} (entry : ℕ → Option A) (table : List (Option A)) → IsFilledTo entry table 15 → table ≡ each_link entry
unfolding each_link
filled_all entry table filled = fill_by_all entry table 15 None filled.whole filled.below
