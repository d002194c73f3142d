-- What is said of the links is said in one way.
use Rattle.std.proofs.Common.{◌≡◌, ◌⊎◌, ℕ, ◌+◌, Bool, true, false, List, [], ◌∷◌, ◌++◌, drop, Result, Ok, Err, refl, sym, ap, subst, ◌∙◌, arith, inl, inr}
use Rattle.std.specs.Prelude.{map}
use Rattle.wl_elem.specs.declared.fault.Refusal.{Refusal}
use Rattle.wl_elem.specs.Answers.{in_element, in_sub, moved}
use Rattle.wl_elem.specs.Element.{ElementValue}
use Rattle.wl_mle.specs.declared.basic.Basic.{Basic}
use Rattle.wl_mle.specs.declared.basic.BasicSub.{BasicSub}
use Rattle.wl_mle.specs.declared.multi_link.MultiLink.{MultiLink}
use Rattle.wl_mle.specs.declared.multi_link.MultiLink.TheVariants as elements
use Rattle.wl_mle.specs.declared.profile.Profile.{Profile}
use Rattle.wl_mle.specs.Layout.{body_place}
use Rattle.wl_mle.specs.MultiLink as mle
use Rattle.wl_mle.specs.MultiLink.{MlOf, MlRefused}
use Rattle.wl_inherit.specs.Inheritance.{ExpandsAs}
use Rattle.wl_assoc.specs.declared.association.AssocAsk.{AssocAsk}
use Rattle.wl_assoc.specs.declared.association.AssocReply.{AssocReply}
use Rattle.wl_assoc.specs.declared.links.LinkAsk.{LinkAsk}
use Rattle.wl_assoc.specs.declared.links.LinkState.{LinkState}
use Rattle.wl_assoc.specs.declared.profiles.LinkEntry.{LinkEntry}
use Rattle.wl_assoc.specs.Profiles.{fixed_len, entry, ElementsAs, ProfileAs, ProfileAt, profiles_from, SaidBy, AllPass, FailsBehind, FirstFails, ProfilesAs, BasicRefused, EntriesAs, ask_of, state_of, AsksAs, StatesAs}
use Rattle.wl_assoc.proofs.Bodies.{ListsReadOnce, a_list, no_list, one_list, list_or_refused, one_list_refusal}
use Rattle.wl_assoc.proofs.Lists.{one_basic}
use Rattle.wl_assoc.proofs.Tests.{said_behind, pass_new}

-- a body is read in one way as a Multi-Link element, and a profile is expanded in one way

abbrev pub MlReadOnce : Type 0
MlReadOnce = (body : List ℕ) (a b : Result MultiLink Refusal) → mle.ReadAs body a → mle.ReadAs body b → a ≡ b

abbrev pub ExpandedOnce : Type 0
ExpandedOnce = (outer profile : List ElementValue) (a b : Result (List ElementValue) Refusal) → ExpandsAs outer profile a → ExpandsAs outer profile b → a ≡ b

abbrev a_value : MultiLink → Result MultiLink Refusal
a_value value = Ok value

abbrev no_value : Refusal → Result MultiLink Refusal
no_value refusal = Err refusal

one_value : MlReadOnce → (body : List ℕ) (a b : Basic) → MlOf (elements.Basic a) body → MlOf (elements.Basic b) body → a ≡ b
one_value once body a b p q = let e = once body (a_value (elements.Basic a)) (a_value (elements.Basic b)) p q in cc

value_or_refused : MlReadOnce → (body : List ℕ) (a : Basic) (refusal : Refusal) → MlOf (elements.Basic a) body → MlRefused body refusal → ⊥
value_or_refused once body a refusal p q = absurd (cc (once body (a_value (elements.Basic a)) (no_value refusal) p q))

one_refusal : MlReadOnce → (body : List ℕ) (a b : Refusal) → MlRefused body a → MlRefused body b → a ≡ b
one_refusal once body a b p q = let e = once body (no_value a) (no_value b) p q in cc

-- ---- one profile

one_elements : ExpandedOnce → (outer : List ElementValue) (complete : Bool) (own : List ElementValue) (a b : Result (List ElementValue) Refusal) → ElementsAs outer complete own a → ElementsAs outer complete own b → a ≡ b
one_elements once outer true own a b p q = once outer own a b p q
one_elements once outer false own a b p q = p ∙ sym q

one_profile : ListsReadOnce → ExpandedOnce → (response : Bool) (outer : List ElementValue) (p : Profile) (a b : Result (List ElementValue) Refusal) → ProfileAs response outer p a → ProfileAs response outer p b → a ≡ b
one_profile lists expands response outer p a b (inl (short, e)) (inl (again, f)) = e ∙ sym f
one_profile lists expands response outer p a b (inl (short, e)) (inr (long, rest)) = absurd (omega arith)
one_profile lists expands response outer p a b (inr (long, rest)) (inl (short, f)) = absurd (omega arith)
one_profile lists expands response outer p a b (inr (long, inl (inside, refused, e))) (inr (le, inl (other, again, f))) =
    e ∙ ap (λ (r : Refusal). no_list (moved (body_place p + fixed_len response) r)) (one_list_refusal lists (drop (fixed_len response) p.body) inside other refused again) ∙ sym f
one_profile lists expands response outer p a b (inr (long, inl (inside, refused, e))) (inr (le, inr (own, is, as_is))) = absurd (list_or_refused lists (drop (fixed_len response) p.body) own inside is refused)
one_profile lists expands response outer p a b (inr (long, inr (own, is, as_is))) (inr (le, inl (inside, refused, f))) = absurd (list_or_refused lists (drop (fixed_len response) p.body) own inside is refused)
one_profile lists expands response outer p a b (inr (long, inr (own, is, as_is))) (inr (le, inr (other, also, as_also))) =
    let same = one_list lists (drop (fixed_len response) p.body) own other is also in
    one_elements expands outer p.complete own a b as_is (subst (λ (x : List ElementValue). ElementsAs outer p.complete x b) (sym same) as_also)

same_list : (a b : List ElementValue) → a_list a ≡ a_list b → a ≡ b
same_list a b e = cc

pub same_refusal : (a b : Refusal) → no_list a ≡ no_list b → a ≡ b
same_refusal a b e = cc

-- ---- the profiles

abbrev pub Reading : Type 0
Reading = Result (List LinkEntry) Refusal

abbrev refused : Refusal → Reading
refused refusal = Err refusal

abbrev some_entries : List LinkEntry → Reading
some_entries entries = Ok entries

-- what profiles before or behind another one are
abbrev Compared : List ProfileAt → ProfileAt → List ProfileAt → ProfileAt → Type 0
Compared a x b y = ((a ≡ b) × (x ≡ y)) ⊎ (((more : List ProfileAt) × (b ≡ a ++ x ∷ more)) ⊎ ((more : List ProfileAt) × (a ≡ b ++ y ∷ more)))

longer : (z : ProfileAt) (a b : List ProfileAt) (x y : ProfileAt) → Compared a x b y → Compared (z ∷ a) x (z ∷ b) y
longer z a b x y (inl (same, is)) = inl (ap (λ (v : List ProfileAt). z ∷ v) same, is)
longer z a b x y (inr (inl (more, same))) = inr (inl (more, ap (λ (v : List ProfileAt). z ∷ v) same))
longer z a b x y (inr (inr (more, same))) = inr (inr (more, ap (λ (v : List ProfileAt). z ∷ v) same))

compared : (a : List ProfileAt) (x : ProfileAt) (c b : List ProfileAt) (y : ProfileAt) (d : List ProfileAt) → a ++ x ∷ c ≡ b ++ y ∷ d → Compared a x b y
compared [] x c [] y d e = inl (refl, cc)
compared [] x c (z ∷ b) y d e = let same : z ≡ x = cc in inr (inl (b, ap (λ (v : ProfileAt). v ∷ b) same))
compared (z ∷ a) x c [] y d e = let same : z ≡ y = cc in inr (inr (a, ap (λ (v : ProfileAt). v ∷ a) same))
compared (z ∷ a) x c (w ∷ b) y d e =
    let same : z ≡ w = cc in
    let rest : a ++ x ∷ c ≡ b ++ y ∷ d = cc in
    subst (λ (v : ProfileAt). Compared (z ∷ a) x (v ∷ b) y) same (longer z a b x y (compared a x c b y d rest))

module _ (lists : ListsReadOnce) (expands : ExpandedOnce) (response : Bool) (outer : List ElementValue) where
  one_said : (profiles : List ProfileAt) (a b : List LinkEntry) → SaidBy response outer profiles a → SaidBy response outer profiles b → a ≡ b
  one_said [] [] [] p q = refl
  one_said [] [] (f ∷ b) p q = absurd q
  one_said [] (e ∷ a) b p q = absurd p
  one_said (x ∷ profiles) [] b p q = absurd p
  one_said (x ∷ profiles) (e ∷ a) [] p q = absurd q
  one_said (x ∷ profiles) (e ∷ a) (f ∷ b) (says, is, p) (also, be, q) =
      let one = same_list e.elements f.elements (one_profile lists expands response outer x.profile (a_list e.elements) (a_list f.elements) says also) in
      ap (λ (v : LinkEntry). v ∷ a) (is ∙ ap (entry response x.profile) one ∙ sym be) ∙ ap (λ (v : List LinkEntry). f ∷ v) (one_said profiles a b p q)

  -- a profile that fails isn't among those that pass
  not_bad : (earlier : List ProfileAt) (x : ProfileAt) (later : List ProfileAt) (entries : List LinkEntry) (refusal : Refusal) → AllPass response outer (earlier ++ x ∷ later) entries → FailsBehind response outer earlier x refusal → ⊥
  not_bad earlier x later entries refusal passed (inl (is, e)) = absurd (cc (is, pass_new response outer earlier x later entries passed))
  not_bad earlier x later entries refusal passed (inr (isnt, inside, bad, e)) =
      let good = said_behind response outer earlier x later entries passed.each in
      absurd (cc (one_profile lists expands response outer x.profile (a_list good.0) (no_list inside) good.1 bad))

  good_or_bad : (profiles : List ProfileAt) (entries : List LinkEntry) (refusal : Refusal) → AllPass response outer profiles entries → FirstFails response outer profiles refusal → ⊥
  good_or_bad profiles entries refusal passed bad = not_bad bad.earlier bad.bad bad.later entries refusal (subst (λ (v : List ProfileAt). AllPass response outer v entries) bad.split passed) bad.fails

  one_failure : (earlier : List ProfileAt) (x : ProfileAt) (a b : Refusal) → FailsBehind response outer earlier x a → FailsBehind response outer earlier x b → a ≡ b
  one_failure earlier x a b (inl (is, e)) (inl (also, f)) = e ∙ sym f
  one_failure earlier x a b (inl (is, e)) (inr (isnt, s, bad, f)) = absurd (cc (is, isnt))
  one_failure earlier x a b (inr (isnt, r, bad, e)) (inl (is, f)) = absurd (cc (is, isnt))
  one_failure earlier x a b (inr (isnt, r, bad, e)) (inr (also, s, worse, f)) =
      e ∙ ap (in_sub x.sub) (same_refusal r s (one_profile lists expands response outer x.profile (no_list r) (no_list s) bad worse)) ∙ sym f

  by_place : (profiles : List ProfileAt) (a b : Refusal) (p : FirstFails response outer profiles a) (q : FirstFails response outer profiles b) → Compared p.earlier p.bad q.earlier q.bad → a ≡ b
  by_place profiles a b p q (inl (same, is)) =
      one_failure q.earlier q.bad a b (subst (λ (v : ProfileAt). FailsBehind response outer q.earlier v a) is (subst (λ (v : List ProfileAt). FailsBehind response outer v p.bad a) same p.fails)) q.fails
  by_place profiles a b p q (inr (inl (more, same))) = absurd (not_bad p.earlier p.bad more q.entries a (subst (λ (v : List ProfileAt). AllPass response outer v q.entries) same q.passed) p.fails)
  by_place profiles a b p q (inr (inr (more, same))) = absurd (not_bad q.earlier q.bad more p.entries b (subst (λ (v : List ProfileAt). AllPass response outer v p.entries) same p.passed) q.fails)

  one_profiles : (subs : List BasicSub) (a b : Reading) → ProfilesAs response outer subs a → ProfilesAs response outer subs b → a ≡ b
  one_profiles subs (Ok a) (Ok b) p q = ap some_entries (one_said (profiles_from 0 subs) a b p.each q.each)
  one_profiles subs (Ok a) (Err s) p q = absurd (good_or_bad (profiles_from 0 subs) a s p q)
  one_profiles subs (Err r) (Ok b) p q = absurd (good_or_bad (profiles_from 0 subs) b r q p)
  one_profiles subs (Err r) (Err s) p q = ap refused (by_place (profiles_from 0 subs) r s p q (compared p.earlier p.bad p.later q.earlier q.bad q.later (sym p.split ∙ q.split)))

-- ---- the frame

same_entries : (a b : List LinkEntry) → some_entries a ≡ some_entries b → a ≡ b
same_entries a b e = cc

same_fault : (a b : Refusal) → refused a ≡ refused b → a ≡ b
same_fault a b e = cc

module _ (lists : ListsReadOnce) (mls : MlReadOnce) (expands : ExpandedOnce) (response : Bool) (list : List ElementValue) where
  basic_or_refused : (e : ElementValue) (b : Basic) (entries : List LinkEntry) (refusal : Refusal) → MlOf (elements.Basic b) e.body → ProfilesAs response list b.subs (Ok entries) → BasicRefused response list e refusal → ⊥
  basic_or_refused e b entries refusal of are (inl bad) = value_or_refused mls e.body b refusal of bad
  basic_or_refused e b entries refusal of are (inr (c, also, bad)) =
      let same = one_value mls e.body c b also of in
      absurd (cc (one_profiles lists expands response list b.subs (some_entries entries) (refused refusal) are (subst (λ (x : Basic). ProfilesAs response list x.subs (refused refusal)) same bad)))

  one_basic_refusal : (e : ElementValue) (a b : Refusal) → BasicRefused response list e a → BasicRefused response list e b → a ≡ b
  one_basic_refusal e a b (inl bad) (inl worse) = one_refusal mls e.body a b bad worse
  one_basic_refusal e a b (inl bad) (inr (c, of, are)) = absurd (value_or_refused mls e.body c a of bad)
  one_basic_refusal e a b (inr (c, of, are)) (inl bad) = absurd (value_or_refused mls e.body c b of bad)
  one_basic_refusal e a b (inr (c, of, are)) (inr (d, also, be)) =
      let same = one_value mls e.body d c also of in
      same_fault a b (one_profiles lists expands response list c.subs (refused a) (refused b) are (subst (λ (x : Basic). ProfilesAs response list x.subs (refused b)) same be))

  entries_or_refused : (entries : List LinkEntry) (refusal : Refusal) → EntriesAs response list (Ok entries) → EntriesAs response list (Err refusal) → ⊥
  entries_or_refused entries refusal (i, e, only, c, of, are) (inl (none, q)) = absurd (none only.counted)
  entries_or_refused entries refusal (i, e, only, c, of, are) (inr (j, f, also, inside, bad, q)) =
      let same = one_basic list j i f e also only in
      basic_or_refused e c entries inside of are (subst (λ (x : ElementValue). BasicRefused response list x inside) same.1 bad)

  one_entries : (a b : Reading) → EntriesAs response list a → EntriesAs response list b → a ≡ b
  one_entries (Ok a) (Ok b) (i, e, only, c, of, are) (j, f, also, d, of_other, be) =
      let same = one_basic list j i f e also only in
      let one = one_value mls e.body d c (subst (λ (x : ElementValue). MlOf (elements.Basic d) x.body) same.1 of_other) of in
      one_profiles lists expands response list c.subs (some_entries a) (some_entries b) are (subst (λ (x : Basic). ProfilesAs response list x.subs (some_entries b)) one be)
  one_entries (Ok a) (Err s) p q = absurd (entries_or_refused a s p q)
  one_entries (Err r) (Ok b) p q = absurd (entries_or_refused b r q p)
  one_entries (Err r) (Err s) (inl (none, p)) (inl (also, q)) = ap refused (p ∙ sym q)
  one_entries (Err r) (Err s) (inl (none, p)) (inr (i, e, only, inside, bad, q)) = absurd (none only.counted)
  one_entries (Err r) (Err s) (inr (i, e, only, inside, bad, p)) (inl (none, q)) = absurd (none only.counted)
  one_entries (Err r) (Err s) (inr (i, e, only, inside, bad, p)) (inr (j, f, also, other, worse, q)) =
      let same = one_basic list j i f e also only in
      let one = one_basic_refusal e inside other bad (subst (λ (x : ElementValue). BasicRefused response list x other) same.1 worse) in
      ap refused (p ∙ ap (in_element i) one ∙ ap (λ (n : ℕ). in_element n other) (sym same.0) ∙ sym q)

pub one_asking : ListsReadOnce → MlReadOnce → ExpandedOnce → (ask : AssocAsk) (a b : Result (List LinkAsk) Refusal) → AsksAs ask a → AsksAs ask b → a ≡ b
one_asking lists mls expands ask (Ok a) (Ok b) (xs, p, e) (ys, q, f) =
    let same = same_entries xs ys (one_entries lists mls expands false ask.elements (some_entries xs) (some_entries ys) p q) in
    ap (λ (x : List LinkAsk). Ok x) (e ∙ ap (map ask_of) same ∙ sym f)
one_asking lists mls expands ask (Ok a) (Err s) (xs, p, e) q = absurd (cc (one_entries lists mls expands false ask.elements (some_entries xs) (refused s) p q))
one_asking lists mls expands ask (Err r) (Ok b) p (ys, q, f) = absurd (cc (one_entries lists mls expands false ask.elements (refused r) (some_entries ys) p q))
one_asking lists mls expands ask (Err r) (Err s) p q = ap (λ (x : Refusal). Err x) (same_fault r s (one_entries lists mls expands false ask.elements (refused r) (refused s) p q))

pub one_answer : ListsReadOnce → MlReadOnce → ExpandedOnce → (reply : AssocReply) (on : ℕ) (a b : Result (List LinkState) Refusal) → StatesAs reply on a → StatesAs reply on b → a ≡ b
one_answer lists mls expands reply on (Ok a) (Ok b) (xs, p, e) (ys, q, f) =
    let same = same_entries xs ys (one_entries lists mls expands true reply.elements (some_entries xs) (some_entries ys) p q) in
    let own : LinkState = record { link = on; capability = reply.capability; status = reply.status } in
    ap (λ (x : List LinkState). Ok x) (e ∙ ap (λ (x : List LinkEntry). own ∷ map state_of x) same ∙ sym f)
one_answer lists mls expands reply on (Ok a) (Err s) (xs, p, e) q = absurd (cc (one_entries lists mls expands true reply.elements (some_entries xs) (refused s) p q))
one_answer lists mls expands reply on (Err r) (Ok b) p (ys, q, f) = absurd (cc (one_entries lists mls expands true reply.elements (refused r) (some_entries ys) p q))
one_answer lists mls expands reply on (Err r) (Err s) p q = ap (λ (x : Refusal). Err x) (same_fault r s (one_entries lists mls expands true reply.elements (refused r) (refused s) p q))
