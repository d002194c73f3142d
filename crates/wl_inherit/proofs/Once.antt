-- A body is read in one way.
use Rattle.std.proofs.Common.{◌≡◌, ℕ, ◌≤◌, ◌<◌, Bool, true, false, List, [], ◌∷◌, ◌++◌, length, take, drop, Result, Ok, Err, refl, sym, ap, ◌∙◌, arith, inl, inr, length-append}
use Rattle.std.proofs.lemmas.Bool.{ltb-false, le-ltb}
use Rattle.std.proofs.lemmas.List.{take_at, drop_at, take-append-drop, length-take}
use Rattle.wl_elem.specs.declared.fault.Refusal.{Refusal}
use Rattle.wl_elem.specs.declared.why.Why.TheVariants.{Truncated}
use Rattle.wl_elem.specs.Answers.{refusal_at}
use Rattle.wl_elem.proofs.Octets.{IsOctets, IsOctets-drop}
use Rattle.wl_inherit.specs.declared.non_inheritance.NonInheritance.{NonInheritance}
use Rattle.wl_inherit.specs.NonInheritance.{listed, NonOf, is_cut, behind_list, NonRefused, ReadAs}

-- what follows a whole list
pub record IsListed (body octets rest : List ℕ) : Type 0 where
  pub parts : body ≡ listed octets ++ rest

not_cut : (octets rest : List ℕ) → is_cut (listed octets ++ rest) ≡ false
not_cut octets rest = le-ltb _ _ (omega (arith, length-append octets rest))

behind : (octets rest : List ℕ) → behind_list (listed octets ++ rest) ≡ rest
behind octets rest = drop_at octets rest (length octets) refl

one_list : (a b rest other : List ℕ) → listed a ++ rest ≡ listed b ++ other → (a ≡ b) × (rest ≡ other)
one_list a b rest other e =
    let len : length a ≡ length b = cc in
    let both : a ++ rest ≡ b ++ other = cc in
    let front : a ≡ b = sym (take_at a rest (length a) refl) ∙ ap (take (length a)) both ∙ take_at b other (length a) (sym len) in
    (front, sym (drop_at a rest (length a) refl) ∙ ap (drop (length a)) both ∙ drop_at b other (length a) (sym len))

one_value : (a b : NonInheritance) (body : List ℕ) → NonOf a body → NonOf b body → a ≡ b
one_value a b body of other =
    let one = one_list a.ids b.ids (listed a.exts ++ a.tail) (listed b.exts ++ b.tail) (sym of.text ∙ other.text) in
    let two = one_list a.exts b.exts a.tail b.tail one.1 in
    λ i. record { ids = one.0 i; exts = two.0 i; tail = two.1 i }

not_both : (n : NonInheritance) (body : List ℕ) (refusal : Refusal) → NonOf n body → NonRefused body refusal → ⊥
not_both n body refusal of (inl (cut, e)) = absurd (cc (cut, ap is_cut of.text, not_cut n.ids (listed n.exts ++ n.tail)))
not_both n body refusal of (inr (whole, cut, e)) =
    absurd (cc (cut, ap (λ (x : List ℕ). is_cut (behind_list x)) of.text, ap is_cut (behind n.ids (listed n.exts ++ n.tail)), not_cut n.exts n.tail))

one_refusal : (body : List ℕ) (a b : Refusal) → NonRefused body a → NonRefused body b → a ≡ b
one_refusal body a b (inl (cut, e)) (inl (again, f)) = e ∙ sym f
one_refusal body a b (inl (cut, e)) (inr (whole, again, f)) = absurd (cc (cut, whole))
one_refusal body a b (inr (whole, cut, e)) (inl (again, f)) = absurd (cc (again, whole))
one_refusal body a b (inr (whole, cut, e)) (inr (other, again, f)) = e ∙ sym f

pub one_reading : (body : List ℕ) (a b : Result NonInheritance Refusal) → ReadAs body a → ReadAs body b → a ≡ b
one_reading body (Ok a) (Ok b) of other = ap (λ (n : NonInheritance). Ok n) (one_value a b body of other)
one_reading body (Ok a) (Err b) of other = absurd (not_both a body b of other)
one_reading body (Err a) (Ok b) of other = absurd (not_both b body a other of)
one_reading body (Err a) (Err b) of other = ap (λ (r : Refusal). Err r) (one_refusal body a b of other)

pub one_spelling : (n : NonInheritance) (body other : List ℕ) → NonOf n body → NonOf n other → body ≡ other
one_spelling n body other of again = of.text ∙ sym again.text

pub is_read_back : (n : NonInheritance) (body : List ℕ) (reading : Result NonInheritance Refusal) → NonOf n body → ReadAs body reading → reading ≡ Ok n
is_read_back n body reading of read = one_reading body reading (Ok n) read of

-- ---- each body is read

-- the parts of a body whose first list is whole
record IsWhole (body octets : List ℕ) : Type 0 where
  pub parts : body ≡ listed octets ++ behind_list body
  pub short : length octets ≤ 255
  pub rest_is : IsOctets (behind_list body)

whole_of : (body : List ℕ) → IsOctets body → is_cut body ≡ false → (octets : List ℕ) × IsWhole body octets
whole_of [] is e = absurd (cc e)
whole_of (len ∷ rest) is e =
    let long : len ≤ length rest = ltb-false _ _ e in
    let small : len < 256 = is.0 in
    let counted : length (take len rest) ≡ len = omega (arith, length-take len rest) in (
      take len rest,
      record {
        parts = ap (λ (x : List ℕ). len ∷ x) (sym (take-append-drop len rest)) ∙ ap (λ (n : ℕ). n ∷ (take len rest ++ drop len rest)) (sym counted);
        short = omega arith;
        rest_is = IsOctets-drop len rest is.1;
      },
    )

value_is : (body ids exts : List ℕ) → IsWhole body ids → IsWhole (behind_list body) exts → NonOf (record { ids = ids; exts = exts; tail = behind_list (behind_list body) }) body
value_is body ids exts one two = record {
  is_value = record { ids = one.short; exts = two.short };
  text = one.parts ∙ ap (λ (x : List ℕ). listed ids ++ x) two.parts;
}

by_second : (body ids : List ℕ) (cut : Bool) → is_cut (behind_list body) ≡ cut → is_cut body ≡ false → IsWhole body ids → (reading : Result NonInheritance Refusal) × ReadAs body reading
by_second body ids true e whole one = (Err (refusal_at _ Truncated), inr (whole, e, refl))
by_second body ids false e whole one =
    let two = whole_of (behind_list body) one.rest_is e in
    (Ok (record { ids = ids; exts = two.0; tail = behind_list (behind_list body) }), value_is body ids two.0 one two.1)

by_first : (body : List ℕ) (cut : Bool) → is_cut body ≡ cut → IsOctets body → (reading : Result NonInheritance Refusal) × ReadAs body reading
by_first body true e is = (Err (refusal_at 0 Truncated), inl (e, refl))
by_first body false e is = let one = whole_of body is e in by_second body one.0 (is_cut (behind_list body)) refl e one.1

pub is_read_or_refused : (body : List ℕ) → IsOctets body → (reading : Result NonInheritance Refusal) × ReadAs body reading
is_read_or_refused body is = by_first body (is_cut body) refl is
