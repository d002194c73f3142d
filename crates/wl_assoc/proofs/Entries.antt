-- The profiles one after the other, as a loop reads them.
use Rattle.std.proofs.Common.{◌≡◌, ℕ, zero, suc, ◌+◌, ◌<◌, ◌≤◌, Bool, true, false, eqb, ◌||◌, List, [], ◌∷◌, ◌++◌, length, take, drop, replicate, set, get_or, Ok, Err, refl, sym, ap, subst, ◌∙◌, append_assoc, arith, inl, inr}
use Rattle.std.proofs.Math.Bool.{or-false, or-true}
use Rattle.std.proofs.lemmas.Bool.{eqb-true, eqb-false}
use Rattle.std.proofs.lemmas.List.{append-nil, length-set, length-take, get_or-set_same, get_or-set_other, take_all, take_more, take-append-drop}
use Rattle.wl_elem.specs.declared.fault.Refusal.{Refusal}
use Rattle.wl_elem.specs.declared.fault.Fault.{Fault}
use Rattle.wl_elem.specs.declared.fault.Fault.TheVariants as faults
use Rattle.wl_elem.specs.Answers.{in_element, in_sub, IfRefused, with_refusal}
use Rattle.wl_elem.specs.Element.{ElementValue}
use Rattle.wl_mle.specs.declared.basic.BasicSub.{BasicSub}
use Rattle.wl_mle.specs.declared.basic.BasicSub.TheVariants as basics
use Rattle.wl_mle.specs.declared.basic.Basic.{Basic}
use Rattle.wl_mle.specs.declared.multi_link.MultiLink.TheVariants as elements
use Rattle.wl_mle.specs.declared.profile.Profile.{Profile}
use Rattle.wl_mle.specs.MultiLink.{MlOf, MlRefused}
use Rattle.wl_assoc.specs.declared.profiles.LinkEntry.{LinkEntry}
use Rattle.wl_assoc.specs.Profiles.{entry, ProfileAs, ProfileAt, profiles_from, links_in, is_among, AllPass, FailsBehind, ProfilesAs, repeated_at, IsOnlyBasic, EntriesAs}
use Rattle.wl_assoc.proofs.Tests.{links_more, pass_more}

-- ---- the profiles before an index

abbrev pub before : List BasicSub → ℕ → List ProfileAt
before subs i = profiles_from 0 (take i subs)

abbrev pub at : ℕ → Profile → ProfileAt
at i p = record { sub = i; profile = p }

profiles-append : (j : ℕ) (front back : List BasicSub) → profiles_from j (front ++ back) ≡ profiles_from j front ++ profiles_from (j + length front) back
profiles-append j [] back = let none : j ≡ j + 0 = omega arith in ap (λ (n : ℕ). profiles_from n back) none
profiles-append j (basics.Other id body ∷ front) back =
    let next : suc j + length front ≡ j + suc (length front) = omega arith in
    profiles-append (suc j) front back ∙ ap (λ (n : ℕ). profiles_from (suc j) front ++ profiles_from n back) next
profiles-append j (basics.Profile p ∷ front) back =
    let next : suc j + length front ≡ j + suc (length front) = omega arith in
    ap (λ (x : List ProfileAt). at j p ∷ x) (profiles-append (suc j) front back ∙ ap (λ (n : ℕ). profiles_from (suc j) front ++ profiles_from n back) next)

-- what is read at i
pub record IsAt (subs : List BasicSub) (i : ℕ) (sub : BasicSub) : Type 0 where
  pub next : take (i + 1) subs ≡ take i subs ++ sub ∷ []
  pub split : subs ≡ take i subs ++ sub ∷ drop (i + 1) subs
  pub counted : length (take i subs) ≡ i

pub is_at : (subs : List BasicSub) (i : ℕ) (sub what : BasicSub) → i < length subs → sub ≡ get_or subs i sub → sub ≡ what → IsAt subs i what
is_at subs i sub what lt same is =
    let next : take (i + 1) subs ≡ take i subs ++ what ∷ [] = take_more subs i sub lt ∙ ap (λ (x : BasicSub). take i subs ++ x ∷ []) (sym same ∙ is) in
    record {
      next = next;
      split = sym (take-append-drop (i + 1) subs) ∙ ap (λ (x : List BasicSub). x ++ drop (i + 1) subs) next ∙ append_assoc (take i subs) (what ∷ []) (drop (i + 1) subs);
      counted = omega (arith, length-take i subs);
    }

with_other : (subs : List BasicSub) (i id : ℕ) (body : List ℕ) → IsAt subs i (basics.Other id body) → before subs (i + 1) ≡ before subs i
with_other subs i id body is = ap (profiles_from 0) is.next ∙ profiles-append 0 (take i subs) (basics.Other id body ∷ []) ∙ append-nil (before subs i)

-- a profile at i, and what follows it
with_profile : (subs : List BasicSub) (i : ℕ) (p : Profile) (rest : List BasicSub) → IsAt subs i (basics.Profile p) → profiles_from 0 (take i subs ++ basics.Profile p ∷ rest) ≡ before subs i ++ at i p ∷ profiles_from (suc i) rest
with_profile subs i p rest is =
    let place : 0 + length (take i subs) ≡ i = omega (arith, is.counted) in
    profiles-append 0 (take i subs) (basics.Profile p ∷ rest) ∙ ap (λ (n : ℕ). before subs i ++ at n p ∷ profiles_from (suc n) rest) place

one_more : (subs : List BasicSub) (i : ℕ) (p : Profile) → IsAt subs i (basics.Profile p) → before subs (i + 1) ≡ before subs i ++ at i p ∷ []
one_more subs i p is = ap (profiles_from 0) is.next ∙ with_profile subs i p [] is

-- ---- the loop

-- The profiles before i pass their tests. The table marks their links.
pub record IsReadTo (response : Bool) (outer : List ElementValue) (subs : List BasicSub) (i : ℕ) (entries : List LinkEntry) (seen : List Bool) : Type 0 where
  pub passed : AllPass response outer (before subs i) entries
  pub counted : length seen ≡ 15
  pub marks : (link : ℕ) → link < 15 → get_or seen link false ≡ is_among link (links_in (before subs i))

pub none_read : (response : Bool) (outer : List ElementValue) (subs : List BasicSub) (seen : List Bool) → length seen ≡ 15 → ((link : ℕ) → get_or seen link false ≡ false) → IsReadTo response outer subs 0 [] seen
none_read response outer subs seen counted none = record { passed = record { each = tt; different = tt }; counted = counted; marks = λ link lt. none link }

-- no link is marked
pub unmarked : (n link : ℕ) → get_or (replicate n false) link false ≡ false
unmarked zero link = refl
unmarked (suc n) zero = refl
unmarked (suc n) (suc link) = unmarked n link

pub other_read : (response : Bool) (outer : List ElementValue) (subs : List BasicSub) (i : ℕ) (entries : List LinkEntry) (seen : List Bool) (id : ℕ) (body : List ℕ)
    → IsAt subs i (basics.Other id body) → IsReadTo response outer subs i entries seen → IsReadTo response outer subs (i + 1) entries seen
other_read response outer subs i entries seen id body is so_far =
    let same = sym (with_other subs i id body is) in
    record {
      passed = subst (λ (x : List ProfileAt). AllPass response outer x entries) same so_far.passed;
      counted = so_far.counted;
      marks = λ link lt. so_far.marks link lt ∙ ap (λ (x : List ProfileAt). is_among link (links_in x)) same;
    }

one_mark : (seen : List Bool) (link k : ℕ) (b : Bool) → eqb link k ≡ b → link < length seen → get_or (set seen link true) k false ≡ (get_or seen k false || b)
one_mark seen link k true e lt = ap (λ (n : ℕ). get_or (set seen link true) n false) (sym (eqb-true link k e)) ∙ get_or-set_same seen link true false lt ∙ sym (or-true (get_or seen k false))
one_mark seen link k false e lt = get_or-set_other seen link k true false (λ is. eqb-false link k e (sym is)) ∙ sym (or-false (get_or seen k false))

pub profile_read : (response : Bool) (outer : List ElementValue) (subs : List BasicSub) (i : ℕ) (entries : List LinkEntry) (seen : List Bool) (p : Profile) (e : LinkEntry)
    → IsAt subs i (basics.Profile p) → p.link < 15 → get_or seen p.link false ≡ false → ProfileAs response outer p (Ok e.elements) → e ≡ entry response p e.elements
    → IsReadTo response outer subs i entries seen → IsReadTo response outer subs (i + 1) (entries ++ e ∷ []) (set seen p.link true)
profile_read response outer subs i entries seen p e is small unseen says same so_far =
    let more = sym (one_more subs i p is) in
    record {
      passed = subst (λ (x : List ProfileAt). AllPass response outer x (entries ++ e ∷ [])) more (pass_more response outer (before subs i) entries (at i p) e so_far.passed (sym (so_far.marks p.link small) ∙ unseen) says same);
      counted = length-set seen p.link true ∙ so_far.counted;
      marks = λ k less. one_mark seen p.link k (eqb p.link k) refl (omega (arith, so_far.counted)) ∙ ap (λ (b : Bool). b || eqb p.link k) (so_far.marks k less)
          ∙ sym (links_more k (before subs i) (at i p)) ∙ ap (λ (x : List ProfileAt). is_among k (links_in x)) more;
    }

-- where reading stops

pub fails_at : (response : Bool) (outer : List ElementValue) (subs : List BasicSub) (i : ℕ) (entries : List LinkEntry) (p : Profile) (refusal : Refusal)
    → IsAt subs i (basics.Profile p) → AllPass response outer (before subs i) entries → FailsBehind response outer (before subs i) (at i p) refusal → ProfilesAs response outer subs (Err refusal)
fails_at response outer subs i entries p refusal is passed fails = record {
  earlier = before subs i;
  bad = at i p;
  later = profiles_from (suc i) (drop (i + 1) subs);
  split = ap (profiles_from 0) is.split ∙ with_profile subs i p (drop (i + 1) subs) is;
  entries = entries;
  passed = passed;
  fails = fails;
}

pub repeated_here : (response : Bool) (outer : List ElementValue) (subs : List BasicSub) (i : ℕ) (entries : List LinkEntry) (seen : List Bool) (p : Profile)
    → IsAt subs i (basics.Profile p) → p.link < 15 → get_or seen p.link false ≡ true
    → IsReadTo response outer subs i entries seen → ProfilesAs response outer subs (Err (repeated_at i))
repeated_here response outer subs i entries seen p is small marked so_far =
    fails_at response outer subs i entries p (repeated_at i) is so_far.passed (inl (sym (so_far.marks p.link small) ∙ marked, refl))

pub refused_as : (response : Bool) (outer : List ElementValue) (subs : List BasicSub) (i : ℕ) (entries : List LinkEntry) (seen : List Bool) (p : Profile) (fault : Fault)
    → IsAt subs i (basics.Profile p) → p.link < 15 → get_or seen p.link false ≡ false → IfRefused fault (λ refusal. ProfileAs response outer p (Err refusal))
    → IsReadTo response outer subs i entries seen → IfRefused (with_refusal (in_sub i) fault) (λ refusal. ProfilesAs response outer subs (Err refusal))
refused_as response outer subs i entries seen p (faults.Refused refusal) is small unseen bad so_far =
    fails_at response outer subs i entries p (in_sub i refusal) is so_far.passed (inr (sym (so_far.marks p.link small) ∙ unseen, refusal, bad, refl))
refused_as response outer subs i entries seen p faults.Memory is small unseen bad so_far = tt

pub all_read : (response : Bool) (outer : List ElementValue) (subs : List BasicSub) (i : ℕ) (entries : List LinkEntry) (seen : List Bool) → length subs ≤ i → IsReadTo response outer subs i entries seen → ProfilesAs response outer subs (Ok entries)
all_read response outer subs i entries seen le so_far =
    let whole : take i subs ≡ subs = take_all i subs le in
    subst (λ (x : List BasicSub). AllPass response outer (profiles_from 0 x) entries) whole so_far.passed

pub element_refused : (response : Bool) (list : List ElementValue) (i : ℕ) (e : ElementValue) (fault : Fault) → IsOnlyBasic list i e → IfRefused fault (λ refusal. MlRefused e.body refusal) → IfRefused (with_refusal (in_element i) fault) (λ refusal. EntriesAs response list (Err refusal))
element_refused response list i e (faults.Refused refusal) only bad = inr (i, e, only, refusal, inl bad, refl)
element_refused response list i e faults.Memory only bad = tt

pub profiles_refused : (response : Bool) (list : List ElementValue) (i : ℕ) (e : ElementValue) (b : Basic) (fault : Fault) → IsOnlyBasic list i e → MlOf (elements.Basic b) e.body
    → IfRefused fault (λ refusal. ProfilesAs response list b.subs (Err refusal)) → IfRefused (with_refusal (in_element i) fault) (λ refusal. EntriesAs response list (Err refusal))
profiles_refused response list i e b (faults.Refused refusal) only of are = inr (i, e, only, refusal, inr (b, of, are), refl)
profiles_refused response list i e b faults.Memory only of are = tt
