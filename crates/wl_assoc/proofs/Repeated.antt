-- The profile that repeats a link, by its index among the subelements.
use Rattle.std.proofs.Common.{◌≡◌, ◌≢◌, ℕ, zero, suc, ◌+◌, ◌<◌, Bool, true, false, cond, eqb, ◌||◌, List, [], ◌∷◌, ◌++◌, take, Some, None, Err, refl, sym, ap, subst, ◌∙◌, arith, inl, inr}
use Rattle.std.proofs.Math.Bool.{or-true}
use Rattle.std.proofs.lemmas.Bool.{eqb-true, eq-eqb, or_cases}
use Rattle.std.proofs.lemmas.Option.{slice_get_within, get_or_from_slice_get}
use Rattle.wl_elem.specs.declared.fault.Refusal.{Refusal}
use Rattle.wl_elem.specs.declared.kind.ListKind.TheVariants.{Elements}
use Rattle.wl_elem.specs.declared.why.Why.{Why}
use Rattle.wl_elem.specs.declared.why.Why.TheVariants.{Truncated, StrayFragment, EmptyFragment, NoExtension, RepeatedLink}
use Rattle.wl_elem.specs.Element.{ElementValue}
use Rattle.wl_elem.specs.ElementList.{ElemsRefused}
use Rattle.wl_elem.specs.Row.{fault_at, full_after}
use Rattle.wl_mle.specs.declared.basic.BasicSub.{BasicSub}
use Rattle.wl_mle.specs.declared.basic.BasicSub.TheVariants as basics
use Rattle.wl_mle.specs.declared.profile.Profile.{Profile}
use Rattle.wl_inherit.specs.NonInheritance.{NonRefused}
use Rattle.wl_inherit.specs.Inheritance.{BadNon}
use Rattle.wl_assoc.specs.Profiles.{ElementsAs, ProfileAs, ProfileAt, profiles_from, links_in, is_among, AllPass, FailsBehind, FirstFails, ProfilesAs, IsProfileAt, IsRepeated, repeated_at}
use Rattle.wl_assoc.proofs.Entries.{at, is_at, fails_at}
use Rattle.wl_assoc.proofs.Once.{same_refusal}

-- ---- no other refusal has this name

names : (a b c d : Bool) (why : Why) → cond a (Some StrayFragment) (cond b (Some EmptyFragment) (cond c (Some NoExtension) (cond d (Some Truncated) None))) ≡ Some why → why ≢ RepeatedLink
names true b c d why e is = absurd (cc (e, is))
names false true c d why e is = absurd (cc (e, is))
names false false true d why e is = absurd (cc (e, is))
names false false false true why e is = absurd (cc (e, is))
names false false false false why e is = absurd (cc e)

piece_name : (full : Bool) (octets : List ℕ) (why : Why) → fault_at Elements full octets ≡ Some why → why ≢ RepeatedLink
unfolding fault_at
piece_name full [] why e is = absurd (cc e)
piece_name full (id ∷ []) why e is = absurd (cc (e, is))
piece_name full (id ∷ len ∷ rest) why e is = names _ _ _ _ why e is

elements_name : (octets : List ℕ) (refusal : Refusal) → ElemsRefused octets refusal → refusal.why ≢ RepeatedLink
elements_name octets refusal refused is = piece_name (full_after false refused.cut_off.row) refused.cut_off.rest refusal.why refused.cut_off.fault is

body_name : (body : List ℕ) (refusal : Refusal) → NonRefused body refusal → refusal.why ≢ RepeatedLink
body_name body refusal (inl (cut, e)) is = absurd (cc (ap (λ (r : Refusal). r.why) e, is))
body_name body refusal (inr (whole, cut, e)) is = absurd (cc (ap (λ (r : Refusal). r.why) e, is))

inner_name : (i : ℕ) (profile : List ElementValue) (refusal : Refusal) → BadNon i profile refusal → refusal.why ≢ RepeatedLink
inner_name i [] refusal bad is = bad
inner_name i (e ∷ profile) refusal (inl (non, inside, bad, same)) is = body_name e.body inside bad (sym (ap (λ (r : Refusal). r.why) same) ∙ is)
inner_name i (e ∷ profile) refusal (inr (decoded, bad)) is = inner_name (suc i) profile refusal bad is

elements_of_name : (outer : List ElementValue) (complete : Bool) (own : List ElementValue) (refusal : Refusal) → ElementsAs outer complete own (Err refusal) → refusal.why ≢ RepeatedLink
elements_of_name outer true own refusal bad is = inner_name 0 own refusal bad is
elements_of_name outer false own refusal bad is = absurd (cc bad)

own_name : (response : Bool) (outer : List ElementValue) (p : Profile) (refusal : Refusal) → ProfileAs response outer p (Err refusal) → refusal.why ≢ RepeatedLink
own_name response outer p refusal (inl (short, e)) is = absurd (cc (ap (λ (r : Refusal). r.why) (same_refusal refusal _ e), is))
own_name response outer p refusal (inr (long, inl (inside, refused, e))) is = elements_name _ inside refused (sym (ap (λ (r : Refusal). r.why) (same_refusal refusal _ e)) ∙ is)
own_name response outer p refusal (inr (long, inr (own, spelled, says))) is = elements_of_name outer p.complete own refusal says is

-- ---- where a profile stands

record StandsAt (j : ℕ) (subs : List BasicSub) (earlier : List ProfileAt) (x : ProfileAt) : Type 0 where
  pub index : ℕ
  pub place : x.sub ≡ j + index
  pub there : IsProfileAt subs index x.profile
  pub those : earlier ≡ profiles_from j (take index subs)

stands : (j : ℕ) (subs : List BasicSub) (earlier : List ProfileAt) (x : ProfileAt) (later : List ProfileAt) → profiles_from j subs ≡ earlier ++ x ∷ later → StandsAt j subs earlier x
stands j [] [] x later e = absurd (cc e)
stands j [] (y ∷ earlier) x later e = absurd (cc e)
stands j (basics.Other id body ∷ subs) earlier x later e =
    let more = stands (suc j) subs earlier x later e in
    record { index = suc more.index; place = omega (arith, more.place); there = more.there; those = more.those }
stands j (basics.Profile p ∷ subs) [] x later e =
    let same : at j p ≡ x = cc in
    record { index = 0; place = omega (arith, ap (λ (v : ProfileAt). v.sub) same); there = ap (λ (v : ProfileAt). Some (basics.Profile v.profile)) same; those = refl }
stands j (basics.Profile p ∷ subs) (y ∷ earlier) x later e =
    let same : y ≡ at j p = cc in
    let rest : profiles_from (suc j) subs ≡ earlier ++ x ∷ later = cc in
    let more = stands (suc j) subs earlier x later rest in
    record { index = suc more.index; place = omega (arith, more.place); there = more.there; those = ap (λ (v : ProfileAt). v ∷ earlier) same ∙ ap (λ (v : List ProfileAt). at j p ∷ v) more.those }

-- a profile below an index with this link
record HasLink (link : ℕ) (subs : List BasicSub) (sub : ℕ) : Type 0 where
  pub index : ℕ
  pub profile : Profile
  pub below : index < sub
  pub there : IsProfileAt subs index profile
  pub same : profile.link ≡ link

further : (link : ℕ) (x : BasicSub) (subs : List BasicSub) (sub : ℕ) → HasLink link subs sub → HasLink link (x ∷ subs) (suc sub)
further link x subs sub has = record { index = suc has.index; profile = has.profile; below = omega (arith, has.below); there = has.there; same = has.same }

is_had : (link j : ℕ) (subs : List BasicSub) (n : ℕ) → is_among link (links_in (profiles_from j (take n subs))) ≡ true → HasLink link subs n
is_had link j subs zero h = absurd (cc h)
is_had link j [] (suc n) h = absurd (cc h)
is_had link j (basics.Other id body ∷ subs) (suc n) h = further link (basics.Other id body) subs n (is_had link (suc j) subs n h)
is_had link j (basics.Profile p ∷ subs) (suc n) h =
    elim (or_cases (eqb p.link link) (is_among link (links_in (profiles_from (suc j) (take n subs)))) h) [
      | inl is ↦ record { index = 0; profile = p; below = omega arith; there = refl; same = eqb-true p.link link is }
      | inr more ↦ further link (basics.Profile p) subs n (is_had link (suc j) subs n more)
    ]

among : (link j : ℕ) (subs : List BasicSub) (n i : ℕ) (p : Profile) → i < n → IsProfileAt subs i p → p.link ≡ link → is_among link (links_in (profiles_from j (take n subs))) ≡ true
among link j subs zero i p lt there same = absurd (omega arith)
among link j [] (suc n) i p lt there same = absurd (cc there)
among link j (basics.Other id body ∷ subs) (suc n) zero p lt there same = absurd (cc there)
among link j (basics.Other id body ∷ subs) (suc n) (suc i) p lt there same = among link (suc j) subs n i p (omega arith) there same
among link j (basics.Profile q ∷ subs) (suc n) zero p lt there same =
    let is : q ≡ p = cc in
    ap (λ (b : Bool). b || is_among link (links_in (profiles_from (suc j) (take n subs)))) (eq-eqb q.link link (ap (λ (v : Profile). v.link) is ∙ same))
among link j (basics.Profile q ∷ subs) (suc n) (suc i) p lt there same =
    ap (λ (b : Bool). eqb q.link link || b) (among link (suc j) subs n i p (omega arith) there same) ∙ or-true (eqb q.link link)

-- ---- the law

pub is_refused : (response : Bool) (outer : List ElementValue) (subs : List BasicSub) (sub : ℕ) → IsRepeated response outer subs sub → ProfilesAs response outer subs (Err (repeated_at sub))
is_refused response outer subs sub is =
    let what : BasicSub = basics.Profile is.profile in
    let here = is_at subs sub what what (slice_get_within subs sub what is.there) (sym (get_or_from_slice_get subs sub what what is.there)) refl in
    fails_at response outer subs sub is.entries is.profile (repeated_at sub) here is.passed (inl (among is.profile.link 0 subs sub is.first is.other is.before is.first_there is.same, refl))

abbrev pub Repeats : Bool → List ElementValue → List BasicSub → Refusal → Type 0
Repeats response outer subs refusal = (sub : ℕ) × IsRepeated response outer subs sub × (refusal ≡ repeated_at sub)

by_failure : (response : Bool) (outer : List ElementValue) (subs : List BasicSub) (refusal : Refusal) (first : FirstFails response outer (profiles_from 0 subs) refusal) → FailsBehind response outer first.earlier first.bad refusal → refusal.why ≡ RepeatedLink → Repeats response outer subs refusal
by_failure response outer subs refusal first (inr (isnt, inside, bad, e)) named = absurd (own_name response outer first.bad.profile inside bad (sym (ap (λ (r : Refusal). r.why) e) ∙ named))
by_failure response outer subs refusal first (inl (is, e)) named =
    let here = stands 0 subs first.earlier first.bad first.later first.split in
    let has = is_had first.bad.profile.link 0 subs here.index (ap (λ (v : List ProfileAt). is_among first.bad.profile.link (links_in v)) (sym here.those) ∙ is) in
    let place : first.bad.sub ≡ here.index = omega (arith, here.place) in (
      here.index,
      record {
        profile = first.bad.profile;
        there = here.there;
        first = has.index;
        other = has.profile;
        before = has.below;
        first_there = has.there;
        same = has.same;
        entries = first.entries;
        passed = subst (λ (v : List ProfileAt). AllPass response outer v first.entries) here.those first.passed;
      },
      e ∙ ap repeated_at place,
    )

pub only_repeated : (response : Bool) (outer : List ElementValue) (subs : List BasicSub) (refusal : Refusal) → ProfilesAs response outer subs (Err refusal) → refusal.why ≡ RepeatedLink → Repeats response outer subs refusal
only_repeated response outer subs refusal first named = by_failure response outer subs refusal first first.fails named
