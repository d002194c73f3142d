use Rattle.std.proofs.Common.{rules, subst}
use Rattle.std.specs.List.Sorted.{IsSearchInRange}
use Rattle.std.proofs.lemmas.List.Sorted.{answers_always}
use Rattle.wl_window.proofs.Placing.{searched}
use Rattle.wl_window.proofs.reorder.place_of.Goals as goal

-- the closure gives a slot's number
pub returns : goal.returns
returns g c =
    let facts = c.binary_search_by_key.ensures in
    let by_number = facts.position (λ slot. slot.number) (answers_always _ _ _ (λ f a r g called. search rules)) in
    searched c.args.slots.now.items 0 c.requires.0 c.requires.1 c.args.number c.binary_search_by_key.result (subst (IsSearchInRange c.binary_search_by_key.result) c.args.slots.now.ok.0 facts.bound) by_number
