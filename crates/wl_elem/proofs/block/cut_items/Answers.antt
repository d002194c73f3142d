use Rattle.std.proofs.Common.{◌≡◌, ℕ, List, [], ◌∷◌, ◌++◌, sym, ap, subst, ◌∙◌}
use Rattle.wl_elem.specs.declared.item.Item.{Item}
use Rattle.wl_elem.proofs.Cutting.{item, Reads, one_more}
use Rattle.wl_elem.proofs.block.cut_items.Goals as goal

pub items-preserved : goal.items-preserved
items-preserved c =
    let b = c.in_ok-block.block in
    let more = one_more c.args.kind c.items.list.items c.args.input.now c.items.rest.now b.id b.information.items b.rest.now c.items.invariant c.in_ok-block.ensures.taken in
    let same : c.items.list.items ++ item b.id b.information.items ∷ [] ≡ c.push.new.self.items = ap (λ (o : List ℕ). c.items.list.items ++ item b.id o ∷ []) (sym c.from_vec.ensures) ∙ sym c.in_ok-push.ensures.items in
    subst (λ (x : List Item). Reads c.args.kind x c.args.input.now b.rest.now) same more
