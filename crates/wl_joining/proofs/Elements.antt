-- Further elements and the Multi-Link element behind them.
use Rattle.std.proofs.Common.{◌≡◌, ℕ, suc, ◌+◌, ◌≤◌, ◌%◌, Bool, true, false, cond, List, [], ◌∷◌, ◌++◌, length, Option, Some, None, refl, sym, ap, ◌∙◌, arith, append_assoc}
use Rattle.std.specs.Prelude.{count_by, slice_get, nat_le, is_some, not, ◌&&◌, ◌==◌}
use Rattle.std.proofs.lemmas.List.{append-nil}
use Rattle.std.proofs.lemmas.List.Sums.{sum_by-cons}
use Rattle.wl_elem.specs.Element.{ElementValue}
use Rattle.wl_elem.specs.ElementList.{Elems, Spells}
use Rattle.wl_elem.specs.Identity.{is_multi_link}
use Rattle.wl_mle.specs.Fields.{word_of}
use Rattle.wl_assoc.specs.Profiles.{is_basic, IsOnlyBasic}
use Rattle.wl_joining.specs.Joining.{basic_element}
use Rattle.wl_joining.specs.Written.{HaveNoMultiLink, multi_link_element}

-- ---- octets

-- the octets of two lists one after the other
elements_behind : (list others : List ElementValue) (octets more : List ℕ) → Elems list octets → Elems others more → Elems (list ++ others) (octets ++ more)
elements_behind [] others octets more is also = let same : octets ++ more ≡ more = ap (λ (x : List ℕ). x ++ more) is in rw same also
elements_behind (e ∷ list) others octets more (front, rest, split, spelled, is) also =
    (front, rest ++ more, ap (λ (x : List ℕ). x ++ more) split ∙ append_assoc front rest more, spelled, elements_behind list others rest more is also)

one_element : (body : List ℕ) → length body ≤ 254 → Elems (multi_link_element body ∷ []) (basic_element body)
one_element body short =
    let information = 107 ∷ body in
    let spelled : Spells (multi_link_element body) (basic_element body) = record {
      shape = refl;
      written = record { parts = information ∷ []; cut = omega (arith, short); whole = append-nil information; written = sym (append-nil (basic_element body)) };
    } in
    (basic_element body, [], sym (append-nil (basic_element body)), spelled, refl)

pub elements_spelled : (list : List ElementValue) (octets body : List ℕ) → Elems list octets → length body ≤ 254 → Elems (list ++ multi_link_element body ∷ []) (octets ++ basic_element body)
elements_spelled list octets body is short = elements_behind list (multi_link_element body ∷ []) octets (basic_element body) is (one_element body short)

-- ---- the one Basic Multi-Link element

counted_first : (x : ElementValue) (xs : List ElementValue) (b : Bool) → is_basic x ≡ b → count_by is_basic (x ∷ xs) ≡ cond b 1 0 + count_by is_basic xs
counted_first x xs b e = sum_by-cons (λ y. cond (is_basic y) 1 0) x xs ∙ ap (λ (v : Bool). cond v 1 0 + count_by is_basic xs) e

not_basic : (e : ElementValue) → is_multi_link e ≡ false → is_basic e ≡ false
not_basic e is = ap (λ (b : Bool). b && nat_le 2 (length e.body) && (word_of e.body % 8 == 0)) is

counted_one : (list : List ElementValue) (e : ElementValue) → HaveNoMultiLink list → is_basic e ≡ true → count_by is_basic (list ++ e ∷ []) ≡ 1
counted_one [] e none is = omega (arith, counted_first e [] true is)
counted_one (x ∷ list) e (isnt, none) is = omega (arith, counted_first x (list ++ e ∷ []) false (not_basic x isnt), counted_one list e none is)

at_end : (list : List ElementValue) (e : ElementValue) → slice_get (list ++ e ∷ []) (length list) ≡ Some e
at_end [] e = refl
at_end (x ∷ list) e = at_end list e

pub only_basic : (list : List ElementValue) (e : ElementValue) → HaveNoMultiLink list → is_basic e ≡ true → IsOnlyBasic (list ++ e ∷ []) (length list) e
only_basic list e none is = record { counted = counted_one list e none is; there = at_end list e; basic = is }

-- ---- Common Info

-- the one field, its length, and what follows
pub info_same : (fields subs : List ℕ) → length fields ≡ 6 → suc (length (fields ++ []) + 0) ∷ (((fields ++ []) ++ []) ++ subs) ≡ 7 ∷ (fields ++ subs)
info_same fields subs six =
    let whole = append-nil fields in
    ap (λ (x : List ℕ). suc (length x + 0) ∷ ((x ++ []) ++ subs)) whole
    ∙ ap (λ (x : List ℕ). suc (length fields + 0) ∷ (x ++ subs)) whole
    ∙ ap (λ (n : ℕ). n ∷ (fields ++ subs)) (omega arith)

-- ---- a table's entry

-- the entry of another link, where there is one
pub where_there : {A : Type 0} (entry : Option A) (here : Bool) → here ≡ false → cond (is_some entry && not here) entry None ≡ entry
where_there (Some x) here isnt = rw isnt refl
where_there None here isnt = refl
