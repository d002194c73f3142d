-- A body is read in one way: it fails a test up to the elements, or is read by its kind.
use Rattle.std.proofs.Common.{◌≡◌, ℕ, Bool, true, false, cond, List, [], ◌∷◌, ◌++◌, Option, Some, None, Result, Ok, Err, refl, sym, ap, subst, ◌∙◌, inl, inr}
use Rattle.std.specs.Prelude.{◌⊎◌}
use Rattle.wl_elem.specs.declared.fault.Refusal.{Refusal}
use Rattle.wl_elem.specs.declared.fault.Fault.{Fault}
use Rattle.wl_elem.specs.declared.fault.Fault.TheVariants as faults
use Rattle.wl_elem.specs.declared.why.Why.TheVariants.{Truncated, UnknownCategory}
use Rattle.wl_elem.specs.Answers.{refusal_at, Answers, AnswersOnly}
use Rattle.wl_elem.specs.Element.{ElementValue}
use Rattle.wl_elem.specs.ElementList.{Elems}
use Rattle.wl_action.specs.declared.action.Action.{Action}
use Rattle.wl_action.specs.declared.code.Code.{Code}
use Rattle.wl_action.specs.Action.{front, elements_of, is_known, code_of, has_elements, code_fault, head_fault, RefusedCode, RefusedBehind, RefusedAs, ActionOf, ActionRefused, ReadAs}
use Rattle.wl_action.specs.Reading.{IsHead, BehindAs}
use Rattle.wl_action.specs.Writing.{kind_of}
use Rattle.wl_action.proofs.Once.{Once, Behind, one_behind}
use Rattle.wl_action.proofs.Table.{is_coded, free_whole}
use Rattle.wl_action.proofs.Made.{is_read}
use Rattle.wl_action.proofs.Spelled.{is_of}
use Rattle.wl_elem.proofs.Octets.{IsOctets}

-- ---- the head of a body

head_free : (body : List ℕ) (code : Code) (action : ℕ) (rest : List ℕ) → IsHead body code action rest → head_fault body ≡ None
head_free body code action rest is = ap head_fault is.text ∙ rw (is.known, is.coded) is.free

refused_behind : (body : List ℕ) (code : Code) (action : ℕ) (rest : List ℕ) (r : Refusal) → IsHead body code action rest → RefusedBehind body r ≡ RefusedCode (Some code) rest r
refused_behind body code action rest r is = ap (λ (x : List ℕ). RefusedBehind x r) is.text ∙ ap (λ (x : Option Code). RefusedCode x rest r) is.coded

same_head : (body : List ℕ) (code other : Code) (action more : ℕ) (rest left : List ℕ) → IsHead body code action rest → IsHead body other more left → (code ≡ other) × (action ≡ more) × (rest ≡ left)
same_head body code other action more rest left p q =
    let e : p.category ∷ action ∷ rest ≡ q.category ∷ more ∷ left = sym p.text ∙ q.text in
    let first : p.category ≡ q.category = cc in
    let second : action ≡ more = cc in
    let third : rest ≡ left = cc in
    let coded : Some code ≡ Some other = sym p.coded ∙ ap (λ (n : ℕ). code_of n action) first ∙ ap (code_of q.category) second ∙ q.coded in
    (cc, second, third)

-- a body whose head fails no test has one
pub record HasHead (body : List ℕ) : Type 0 where
  pub code : Code
  pub action : ℕ
  pub rest : List ℕ
  pub is : IsHead body code action rest

by_code : (category action : ℕ) (rest : List ℕ) (code : Option Code) → is_known category ≡ true → code_of category action ≡ code → code_fault code rest ≡ None → HasHead (category ∷ action ∷ rest)
by_code category action rest (Some code) known coded free = record { code = code; action = action; rest = rest; is = record { category = category; text = refl; known = known; coded = coded; free = free } }
by_code category action rest None known coded free = absurd (cc)

by_category : (category action : ℕ) (rest : List ℕ) (known : Bool) → is_known category ≡ known → cond known (code_fault (code_of category action) rest) (Some (refusal_at 0 UnknownCategory)) ≡ None → HasHead (category ∷ action ∷ rest)
by_category category action rest true e free = by_code category action rest (code_of category action) e refl free
by_category category action rest false e free = absurd (cc)

no_action : (known : Bool) → cond known (Some (refusal_at 1 Truncated)) (Some (refusal_at 0 UnknownCategory)) ≡ None → ⊥
no_action true e = cc
no_action false e = cc

pub has_head : (body : List ℕ) → head_fault body ≡ None → HasHead body
has_head [] free = absurd (cc)
has_head (category ∷ []) free = absurd (no_action (is_known category) free)
has_head (category ∷ action ∷ rest) free = by_category category action rest (is_known category) refl free

-- ---- a reading, by the head

abbrev read_fault : Refusal → Result Action Refusal
read_fault r = Err r

abbrev read_value : Action → Result Action Refusal
read_value value = Ok value

pub record IsFault (body : List ℕ) (reading : Result Action Refusal) : Type 0 where
  pub fault : Refusal
  pub first : head_fault body ≡ Some fault
  pub same : reading ≡ Err fault

pub record IsByKind (body : List ℕ) (reading : Result Action Refusal) : Type 0 where
  pub code : Code
  pub action : ℕ
  pub rest : List ℕ
  pub head : IsHead body code action rest
  pub behind : Behind (has_elements code) code action rest reading

abbrev Reading : List ℕ → Result Action Refusal → Type 0
Reading body reading = IsFault body reading ⊎ IsByKind body reading

one_reading_of : Once → (body : List ℕ) (a b : Result Action Refusal) → Reading body a → Reading body b → a ≡ b
one_reading_of once body a b (inl p) (inl q) =
    let e : Some p.fault ≡ Some q.fault = sym p.first ∙ q.first in
    let same : p.fault ≡ q.fault = cc in
    p.same ∙ ap read_fault same ∙ sym q.same
one_reading_of once body a b (inl p) (inr q) = let none = head_free body q.code q.action q.rest q.head in absurd (cc (none, p.first))
one_reading_of once body a b (inr p) (inl q) = let none = head_free body p.code p.action p.rest p.head in absurd (cc (none, q.first))
one_reading_of once body a b (inr p) (inr q) =
    let same = same_head body p.code q.code p.action q.action p.rest q.rest p.head q.head in
    one_behind once (has_elements q.code) q.code q.action q.rest a b
    (subst (λ (x : Code). Behind (has_elements x) x q.action q.rest a) same.0
    (subst (λ (n : ℕ). Behind (has_elements p.code) p.code n q.rest a) same.1
    (subst (λ (x : List ℕ). Behind (has_elements p.code) p.code p.action x a) same.2 p.behind))) q.behind

refused_by : (body : List ℕ) (r : Refusal) (fault : Option Refusal) → head_fault body ≡ fault → RefusedAs fault body r → Reading body (Err r)
refused_by body r (Some fault) e is = inl (record { fault = fault; first = e; same = ap read_fault is })
refused_by body r None e is =
    let h = has_head body e in
    let at : RefusedCode (Some h.code) h.rest r = subst (λ (T : Type 0). T) (refused_behind body h.code h.action h.rest r h.is) is in
    inr (record { code = h.code; action = h.action; rest = h.rest; head = h.is; behind = at })

reads_to : (body : List ℕ) (a : Result Action Refusal) → ReadAs body a → Reading body a
reads_to body (Ok value) of = let is = is_of value body of in inr (record { code = kind_of value; action = is.action; rest = is.rest; head = is.head; behind = is.made_of })
reads_to body (Err r) is = refused_by body r (head_fault body) refl is

-- ---- the laws

pub one_reading : Once → (body : List ℕ) (a b : Result Action Refusal) → ReadAs body a → ReadAs body b → a ≡ b
one_reading once body a b p q = one_reading_of once body a b (reads_to body a p) (reads_to body b q)

-- the lists of the crate below are spelled in one way
abbrev pub SpelledOnce : Type 0
SpelledOnce = (list : List ElementValue) (octets other : List ℕ) → Elems list octets → Elems list other → octets ≡ other

pub one_spelling : SpelledOnce → (value : Action) (body other : List ℕ) → ActionOf value body → ActionOf value other → body ≡ other
one_spelling once value body other p q = p.text ∙ ap (λ (x : List ℕ). front value ++ x) (once (elements_of value) p.elems q.elems p.list q.list) ∙ sym q.text

-- ---- what is read by its kind is read

pub fault_read : (body : List ℕ) (r : Refusal) → head_fault body ≡ Some r → ActionRefused body r
fault_read body r e = subst (λ (x : Option Refusal). RefusedAs x body r) (sym e) refl

pub behind_read : (body : List ℕ) (code : Code) (action : ℕ) (rest : List ℕ) (reading : Result Action Refusal) → IsOctets body → IsHead body code action rest → BehindAs code action rest reading → ReadAs body reading
behind_read body code action rest (Ok value) is head made =
    let octets : IsOctets (head.category ∷ action ∷ rest) = subst IsOctets head.text is in
    subst (λ (x : List ℕ). ActionOf value x) (sym head.text) (is_read code head.category action rest value octets.1.1 (is_coded head.category action code head.coded) (free_whole code rest head.free) made)
behind_read body code action rest (Err r) is head refused =
    let at : RefusedBehind body r = subst (λ (T : Type 0). T) (sym (refused_behind body code action rest r head)) refused in
    subst (λ (x : Option Refusal). RefusedAs x body r) (sym (head_free body code action rest head)) at

pub behind_answered : (body : List ℕ) (code : Code) (action : ℕ) (rest : List ℕ) (answer : Result Action Fault) → IsOctets body → IsHead body code action rest → Answers answer (BehindAs code action rest) → Answers answer (ReadAs body)
behind_answered body code action rest (Ok value) is head a = behind_read body code action rest (Ok value) is head a
behind_answered body code action rest (Err (faults.Refused r)) is head a = behind_read body code action rest (Err r) is head a
behind_answered body code action rest (Err faults.Memory) is head a = tt

-- nothing but one reading is answered
pub answered_only : ((body : List ℕ) (a b : Result Action Refusal) → ReadAs body a → ReadAs body b → a ≡ b) → (body : List ℕ) (answer : Result Action Fault) → Answers answer (ReadAs body) → (reading : Result Action Refusal) → ReadAs body reading → AnswersOnly answer reading
answered_only once body (Ok value) a reading p = once body reading (Ok value) p a
answered_only once body (Err (faults.Refused r)) a reading p = once body reading (Err r) p a
answered_only once body (Err faults.Memory) a reading p = tt
