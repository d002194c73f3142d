-- The Non-Inheritance element (IEEE Std 802.11, 9.4.2.240), as its body.
--
-- | field                         | octets   |
-- |-------------------------------|----------|
-- | length of the first list      | 1        |
-- | list of element IDs           | as many  |
-- | length of the second list     | 1        |
-- | list of element ID extensions | as many  |
-- | tail                          | the rest |
use Rattle.std.specs.Prelude.{◌≡◌, ℕ, suc, ◌≤◌, ◌⊎◌, nat_lt, Bool, true, false, IsTrue, List, [], ◌∷◌, ◌++◌, length, drop, slice_index, Result, Ok, Err}
use Rattle.wl_elem.specs.declared.fault.Refusal.{Refusal}
use Rattle.wl_elem.specs.declared.why.Why.TheVariants.{Truncated}
use Rattle.wl_elem.specs.Answers.{refusal_at}
use Rattle.wl_elem.specs.Element.{body_limit}
use Rattle.wl_inherit.specs.declared.non_inheritance.NonInheritance.{NonInheritance}

-- a list, behind its length
abbrev pub listed : List ℕ → List ℕ
listed octets = length octets ∷ octets

-- the body that the value is written in
abbrev pub spelling : NonInheritance → List ℕ
spelling n = listed n.ids ++ (listed n.exts ++ n.tail)

-- what has a body
pub record IsNonInheritance (n : NonInheritance) : Type 0 where
  pub ids : length n.ids ≤ 255
  pub exts : length n.exts ≤ 255

-- the body is this value's
pub record NonOf (n : NonInheritance) (body : List ℕ) : Type 0 where
  pub is_value : IsNonInheritance n
  pub text : body ≡ spelling n

-- some body, no longer than an element's may be, is this value's
abbrev pub IsWritable : NonInheritance → Type 0
IsWritable n = (body : List ℕ) × (length body ≤ body_limit) × NonOf n body

-- the length at the front, or the list behind it, isn't whole
abbrev pub is_cut : List ℕ → Bool
is_cut [] = true
is_cut (len ∷ rest) = nat_lt (length rest) len

-- what follows the list at the front
abbrev pub behind_list : List ℕ → List ℕ
behind_list [] = []
behind_list (len ∷ rest) = drop len rest

-- The body is refused at the length octet of the first list that isn't whole.
abbrev pub NonRefused : List ℕ → Refusal → Type 0
NonRefused body refusal =
    (IsTrue (is_cut body) × (refusal ≡ refusal_at 0 Truncated))
    ⊎ ((is_cut body ≡ false) × IsTrue (is_cut (behind_list body)) × (refusal ≡ refusal_at (suc (slice_index body 0)) Truncated))

-- the body read as a value, or as refused
abbrev pub ReadAs : List ℕ → Result NonInheritance Refusal → Type 0
ReadAs body (Ok n) = NonOf n body
ReadAs body (Err refusal) = NonRefused body refusal
