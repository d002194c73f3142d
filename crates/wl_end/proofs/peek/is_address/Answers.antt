use Rattle.std.proofs.Common.{◌≡◌, ℕ, false, List, [], ◌∷◌, Option, length, refl, sym, ap, ◌∙◌, arith}
use Rattle.std.specs.Prelude.{bytes_eq}
use Rattle.wl_history.specs.declared.start.LinkStart.{LinkStart}
use Rattle.wl_history.specs.Ends.{address_if, link_at}
use Rattle.wl_end.proofs.peek.is_address.Goals as goal

-- some octets aren't none
none_unlike : (a : List ℕ) → length a ≡ 6 → bytes_eq a [] ≡ false
none_unlike [] is = absurd (omega arith)
none_unlike (a ∷ as') is = refl

pub returns-in-None : goal.returns-in-None
returns-in-None c =
    let six : length c.args.address.now ≡ 6 = ap (λ (l : List ℕ). length l) (sym c.octets-octets.ensures.value) ∙ c.octets-octets.ensures.six in
    let none = sym c.in-None.is ∙ c.link_at.ensures ∙ ap (λ (l : List LinkStart). link_at c.args.link l) c.as_slice.ensures in
    sym (none_unlike c.args.address.now six) ∙ ap (λ (o : Option LinkStart). bytes_eq c.args.address.now (address_if o c.args.end)) none
