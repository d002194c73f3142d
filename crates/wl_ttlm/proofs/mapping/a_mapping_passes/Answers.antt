use Rattle.std.proofs.Common.{get_or}
use Rattle.std.proofs.lemmas.List.Sums.{AllPass-from_list_all, list_all-from_AllPass}
use Rattle.wl_ttlm.specs.Mapping.{is_tid_set}
use Rattle.wl_ttlm.proofs.Mappings.{tid_test, tid_told}
use Rattle.wl_ttlm.proofs.mapping.a_mapping_passes.Goals as goal

pub returns-clause-passes : goal.returns-clause-passes
returns-clause-passes c links sets low is = list_all-from_AllPass (is_tid_set links) sets (λ k d inside. tid_test links (get_or sets k d) (low k d inside) (is k d inside))

pub returns-clause-only : goal.returns-clause-only
returns-clause-only c links sets low test k d inside = tid_told links (get_or sets k d) low (AllPass-from_list_all (is_tid_set links) sets test k d inside)
