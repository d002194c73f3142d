use Rattle.std.proofs.Common.{◌≡◌, ◌+◌, ◌-◌, ℕ, List, Option, Some, length, arith, ap, sym, ◌∙◌}
use Rattle.wl_history.specs.Words.{last_of}
use Rattle.wl_end.proofs.Counting.{last_found}
use Rattle.wl_end.proofs.bodies.Bodies.last.Goals as goal

pub returns-in-Some : goal.returns-in-Some
returns-in-Some c =
    let items = c.deref.result.now in
    let some : length items - 1 + 1 ≡ length items = omega (arith, c.in-Some.ensures.item.3.0) in
    ap (λ (b : List ℕ). let o : Option (List ℕ) = Some b in o) c.as_slice.ensures
    ∙ sym (last_found items (length items - 1) c.in-Some.body.now some (sym c.in-Some.ensures.value))
    ∙ ap last_of c.deref.ensures.value ∙ ap last_of c.self.view_is
