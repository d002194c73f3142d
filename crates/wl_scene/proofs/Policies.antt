-- The sets of links that are accepted.
use Rattle.std.proofs.Common.{◌≡◌, ℕ, zero, suc, ◌<◌, ◌||◌, ◌==◌, Bool, true, false, if◌then◌else◌, is_some, List, [], ◌∷◌, length, get_or, Option, Some, None, eq-eqb, refl, sym, ap, ◌∙◌, arith}
use Rattle.std.proofs.lemmas.Bool.{eqb-true}
use Rattle.serde_json.specs.View.{items_view}
use Rattle.serde_json.specs.declared.value.Value.{Value}
use Rattle.wl_elem.specs.Links.{link_limit, has_link}
use Rattle.wl_history.specs.declared.start.LinkStart.{LinkStart}
use Rattle.wl_history.specs.Ends.{link_at}
use Rattle.wl_scene.specs.Head.{id_in, rise_from, with_ids}
use Rattle.wl_scene.specs.Members.{each_of}
use Rattle.wl_scene.specs.Sound.{AreLinksOf}

-- ---- links of a set are among those of a list

one_of : (a b : Bool) (P : Type 0) → (a || b) ≡ true → (a ≡ true → P) → (b ≡ true → P) → P
one_of true b P either here there = here refl
one_of false b P either here there = there either

-- one link more
pub one_among : (links : List LinkStart) (set new link : ℕ) → AreLinksOf links set → is_some (link_at link links) ≡ true → ((k : ℕ) → k < link_limit → has_link new k ≡ (has_link set k || k == link)) → AreLinksOf links new
one_among links set new link among is has id low there =
    one_of (has_link set id) (id == link) (is_some (link_at id links) ≡ true) (sym (has id low) ∙ there) (among id low)
    (λ same. ap (λ (n : ℕ). is_some (link_at n links)) (eqb-true id link same) ∙ is)

either_there : (b : Bool) (link : LinkStart) (others : Option LinkStart) → is_some others ≡ true → is_some (if b then Some link else others) ≡ true
either_there true link others is = refl
either_there false link others is = is

-- a link of the list is there by its ID
pub each_among : (links : List LinkStart) (i : ℕ) (d : LinkStart) → i < length links → is_some (link_at (get_or links i d).id links) ≡ true
each_among [] i d within = absurd (omega arith)
each_among (link ∷ links) zero d within = ap (λ (b : Bool). is_some (if b then Some link else link_at link.id links)) (eq-eqb link.id link.id refl)
each_among (link ∷ links) (suc i) d within =
    let left : i < length links = omega arith in
    either_there (link.id == (get_or links i d).id) link (link_at (get_or links i d).id links) (each_among links i d left)

-- ---- the loop over the IDs

-- the set with these IDs, which rise from this one on
abbrev pub risen : ℕ → ℕ → List ℕ → Option ℕ
risen low set ids = if rise_from low ids then Some (with_ids set ids) else None

abbrev pub reading_ids : List LinkStart → List Value → Option (List ℕ)
reading_ids links values = each_of (id_in links) (items_view values)
