-- Profiles written link by link.
use Rattle.std.proofs.Common.{◌≡◌, ℕ, suc, ◌+◌, ◌*◌, ◌-◌, ◌<◌, ◌≤◌, Bool, true, false, cond, List, [], ◌∷◌, ◌++◌, length, refl, sym, ap, ◌∙◌, arith, append_assoc}
use Rattle.std.proofs.lemmas.List.{append-nil}
use Rattle.wl_joining.specs.Joining.{passing_from, for_each}

-- what stands, and behind it the octets of the links from this one on, is the whole
pub record IsWrittenTo (passes : ℕ → Bool) (octets : ℕ → List ℕ) (old now : List ℕ) (link : ℕ) : Type 0 where
  pub whole : now ++ for_each octets (passing_from passes link (15 - link)) ≡ old ++ for_each octets (passing_from passes 0 15)
  pub bound : length now ≤ length old + 15 * link

split_by : (passes : ℕ → Bool) (octets : ℕ → List ℕ) (link : ℕ) (links : List ℕ) (b : Bool)
    → cond b (octets link) [] ++ for_each octets links ≡ for_each octets (cond b (link ∷ links) links)
split_by passes octets link links true = refl
split_by passes octets link links false = refl

split : (passes : ℕ → Bool) (octets : ℕ → List ℕ) (link count : ℕ)
    → cond (passes link) (octets link) [] ++ for_each octets (passing_from passes (suc link) count) ≡ for_each octets (passing_from passes link (suc count))
split passes octets link count = split_by passes octets link (passing_from passes (suc link) count) (passes link)

pub written_more : (passes : ℕ → Bool) (octets : ℕ → List ℕ) (old now new : List ℕ) (link : ℕ) → link < 15 → new ≡ now ++ cond (passes link) (octets link) [] → length new ≤ length now + 15
    → IsWrittenTo passes octets old now link → IsWrittenTo passes octets old new (link + 1)
written_more passes octets old now new link low added bound so_far =
    let count : 15 - link ≡ suc (15 - (link + 1)) = omega arith in
    let next : link + 1 ≡ suc link = omega arith in
    let rest = for_each octets (passing_from passes (suc link) (15 - (link + 1))) in
    record {
      whole =
          ap (λ (n : ℕ). new ++ for_each octets (passing_from passes n (15 - (link + 1)))) next
          ∙ ap (λ (x : List ℕ). x ++ rest) added
          ∙ append_assoc now (cond (passes link) (octets link) []) rest
          ∙ ap (λ (x : List ℕ). now ++ x) (split passes octets link (15 - (link + 1)))
          ∙ ap (λ (n : ℕ). now ++ for_each octets (passing_from passes link n)) (sym count)
          ∙ so_far.whole;
      bound = omega (arith, so_far.bound);
    }

pub written_all : (passes : ℕ → Bool) (octets : ℕ → List ℕ) (old now : List ℕ) → IsWrittenTo passes octets old now 15 → now ≡ old ++ for_each octets (passing_from passes 0 15)
written_all passes octets old now so_far = sym (append-nil now) ∙ so_far.whole
