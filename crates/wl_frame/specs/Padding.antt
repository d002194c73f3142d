-- An AAD in an array of 24 octets, those behind it being 0.
use Rattle.std.specs.Prelude.{◌≡◌, ℕ, ◌-◌, ◌⊎◌, List, ◌++◌, length, take, drop, replicate}
use Rattle.std.proofs.Common.{sym, ap, ◌∙◌, arith, inl, inr}
use Rattle.std.proofs.lemmas.List.{length-take-le, take-append-drop}

pub record IsPadded (octets : List ℕ) (len : ℕ) : Type 0 where
  pub lens : (len ≡ 22) ⊎ (len ≡ 24)
  pub full : length octets ≡ 24
  pub zeros : drop len octets ≡ replicate (24 - len) 0

abbrev pub padded : List ℕ → List ℕ
padded octets = octets ++ replicate (24 - length octets) 0

-- ---- it comes back from its octets; what an `impl` gives as a proof stands in `specs/`

pub length_back : (octets : List ℕ) (len : ℕ) → IsPadded octets len → length (take len octets) ≡ len
length_back octets len is = elim is.lens [ inl e ↦ length-take-le len octets (omega (arith, is.full)) | inr e ↦ length-take-le len octets (omega (arith, is.full)) ]

pub padded_back : (octets : List ℕ) (len : ℕ) → IsPadded octets len → padded (take len octets) ≡ octets
padded_back octets len is = ap (λ (n : ℕ). take len octets ++ replicate (24 - n) 0) (length_back octets len is) ∙ ap (λ (x : List ℕ). take len octets ++ x) (sym is.zeros) ∙ take-append-drop len octets
