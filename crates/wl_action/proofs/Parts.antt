-- The numbers of elements, and what they say of each.
use Rattle.std.proofs.Common.{◌≡◌, ℕ, suc, ◌+◌, ◌%◌, ◌≤◌, Bool, true, false, cond, eqb, leb, List, [], ◌∷◌, ◌++◌, length, refl, sym, ap, ◌∙◌, arith, eq-eqb}
use Rattle.std.specs.Prelude.{count_by, ◌&&◌}
use Rattle.std.specs.List.{AllByRecursion}
use Rattle.std.proofs.lemmas.Bool.{and_parts, and_from, leb-true, le-leb, eqb-true}
use Rattle.std.proofs.lemmas.List.Sums.{sum_by-cons}
use Rattle.wl_elem.specs.Element.{ElementValue}
use Rattle.wl_elem.specs.Octets.{octets_of}
use Rattle.wl_mle.specs.declared.multi_link.MultiLink.{MultiLink}
use Rattle.wl_mle.specs.declared.multi_link.MultiLink.TheVariants.{Basic, Reconfiguration, Other}
use Rattle.wl_mle.specs.declared.reconf.Reconf.{Reconf}
use Rattle.wl_mle.specs.Fields.{word_of}
use Rattle.wl_mle.specs.Layout.{basic_control, reconf_control, basic_spare, reconf_spare}
use Rattle.wl_mle.specs.MultiLink.{MlOf}
use Rattle.wl_action.specs.declared.code.Code.TheVariants as kinds
use Rattle.wl_elem.specs.Identity.{is_mapping, is_multi_link}
use Rattle.wl_action.specs.Action.{HasMultiLink, HasReconf, is_reconf, is_reconf_link, right_numbers}

-- ---- mapping elements

pub one_or_two : (list : List ElementValue) → right_numbers kinds.MapAsk list ≡ true → (1 ≤ count_by is_mapping list) × (count_by is_mapping list ≤ 2)
one_or_two list e = let p = and_parts _ _ e in (leb-true _ _ p.0, leb-true _ _ p.1)

pub one_or_two_are_right : (list : List ElementValue) → 1 ≤ count_by is_mapping list → count_by is_mapping list ≤ 2 → right_numbers kinds.MapAsk list ≡ true
one_or_two_are_right list least most = and_from _ _ (le-leb _ _ least) (le-leb _ _ most)

-- ---- the type of a control word

word_type : (control : ℕ) (rest : List ℕ) → word_of (octets_of 2 control ++ rest) % 8 ≡ control % 8
word_type control rest = omega arith

long_enough : (control : ℕ) (rest : List ℕ) → leb 2 (length (octets_of 2 control ++ rest)) ≡ true
long_enough control rest = le-leb 2 (suc (suc (length rest))) (omega arith)

-- the type of a value's body
typed : (control n : ℕ) (rest body : List ℕ) → body ≡ octets_of 2 control ++ rest → control % 8 ≡ n → (leb 2 (length body) ≡ true) × (word_of body % 8 ≡ n)
typed control n rest body e type = (rw e (long_enough control rest), rw e (word_type control rest ∙ type))

pub type_of_reconf : (r : Reconf) (body : List ℕ) → MlOf (Reconfiguration r) body → is_reconf body ≡ true
type_of_reconf r body of =
    let spare : reconf_spare r.spare ≡ r.spare = of.is_value.spare in
    let type : reconf_control r % 8 ≡ 2 = omega (arith, spare) in
    let t = typed (reconf_control r) 2 _ body of.text type in
    and_from _ _ t.0 (eq-eqb (word_of body % 8) 2 t.1)

pub value_of_type : (value : MultiLink) (body : List ℕ) → is_reconf body ≡ true → MlOf value body → (r : Reconf) × MlOf (Reconfiguration r) body
value_of_type (Basic b) body is of =
    let two : word_of body % 8 ≡ 2 = eqb-true (word_of body % 8) 2 (and_parts (leb 2 (length body)) (eqb (word_of body % 8) 2) is).1 in
    let spare : basic_spare b.spare ≡ b.spare = of.is_value.spare in
    let type : basic_control b % 8 ≡ 0 = omega (arith, spare) in
    let t = typed (basic_control b) 0 _ body of.text type in
    absurd (omega (arith, two, t.1))
value_of_type (Reconfiguration r) body is of = (r, of)
value_of_type (Other control rest) body is of =
    let two : word_of body % 8 ≡ 2 = eqb-true (word_of body % 8) 2 (and_parts (leb 2 (length body)) (eqb (word_of body % 8) 2) is).1 in
    let t = typed control (control % 8) rest body of.text refl in
    absurd (of.is_value.not_reconf (sym t.1 ∙ two))

-- ---- Multi-Link elements

abbrev links : List ElementValue → ℕ
links list = count_by is_multi_link list

abbrev reconfs : List ElementValue → ℕ
reconfs list = count_by is_reconf_link list

abbrev one_if : Bool → ℕ
one_if b = cond b 1 0

links-cons : (e : ElementValue) (list : List ElementValue) → links (e ∷ list) ≡ one_if (is_multi_link e) + links list
links-cons e list = sum_by-cons (λ x. one_if (is_multi_link x)) e list

reconfs-cons : (e : ElementValue) (list : List ElementValue) → reconfs (e ∷ list) ≡ one_if (is_reconf_link e) + reconfs list
reconfs-cons e list = sum_by-cons (λ x. one_if (is_reconf_link x)) e list

fewer_one : (a b : Bool) → one_if (a && b) ≤ one_if a
fewer_one true true = omega arith
fewer_one true false = omega arith
fewer_one false b = omega arith

fewer : (list : List ElementValue) → reconfs list ≤ links list
fewer [] = omega arith
fewer (e ∷ list) = let more = fewer list in omega (arith, more, links-cons e list, reconfs-cons e list, fewer_one (is_multi_link e) (is_reconf e.body))

both : (a b : Bool) → one_if (a && b) ≡ one_if a → a ≡ true → b ≡ true
both true true e is = refl
both true false e is = absurd (omega (arith, e))
both false b e is = absurd (cc)

-- each Multi-Link element has the type, where there are as many of both
pub all_of_type : (list : List ElementValue) → reconfs list ≡ links list → AllByRecursion HasMultiLink list → AllByRecursion HasReconf list
all_of_type [] same all = tt
all_of_type (e ∷ list) same all =
    let more = fewer list in
    let one = fewer_one (is_multi_link e) (is_reconf e.body) in
    let a = links-cons e list in
    let b = reconfs-cons e list in
    let head : one_if (is_multi_link e && is_reconf e.body) ≡ one_if (is_multi_link e) = omega (arith, more, one, a, b, same) in
    let tail : reconfs list ≡ links list = omega (arith, more, one, a, b, same) in
    (λ is. let v = all.0 is in value_of_type v.0 e.body (both (is_multi_link e) (is_reconf e.body) head is) v.1, all_of_type list tail all.1)

one_more : (a b : Bool) → (a ≡ true → b ≡ true) → one_if (a && b) ≡ one_if a
one_more true b is = ap one_if (is refl)
one_more false b is = refl

pub as_many : (list : List ElementValue) → AllByRecursion HasReconf list → reconfs list ≡ links list
as_many [] all = refl
as_many (e ∷ list) all =
    let more = as_many list all.1 in
    let one = one_more (is_multi_link e) (is_reconf e.body) (λ is. let r = all.0 is in type_of_reconf r.0 e.body r.1) in
    reconfs-cons e list ∙ omega (arith, more, one) ∙ sym (links-cons e list)

pub have_values : (list : List ElementValue) → AllByRecursion HasReconf list → AllByRecursion HasMultiLink list
have_values [] all = tt
have_values (e ∷ list) all = (λ is. let r = all.0 is in (Reconfiguration r.0, r.1), have_values list all.1)

pub one_link : (list : List ElementValue) → right_numbers kinds.ReconfAsk list ≡ true → (links list ≡ 1) × (reconfs list ≡ links list)
one_link list e =
    let p = and_parts _ _ e in
    let a : links list ≡ 1 = eqb-true _ 1 p.0 in
    let b : reconfs list ≡ 1 = eqb-true _ 1 p.1 in
    (a, b ∙ sym a)

pub one_link_is_right : (list : List ElementValue) → links list ≡ 1 → AllByRecursion HasReconf list → right_numbers kinds.ReconfAsk list ≡ true
one_link_is_right list one all = and_from _ _ (eq-eqb _ 1 one) (eq-eqb _ 1 (as_many list all ∙ one))
