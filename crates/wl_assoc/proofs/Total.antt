-- Something is said of the links, or a frame is refused.
use Rattle.std.proofs.Common.{◌≡◌, ℕ, suc, ◌+◌, ◌%◌, ◌≤◌, Bool, true, false, eqb, List, [], ◌∷◌, ◌++◌, length, drop, Result, Ok, Err, refl, sym, subst, ◌∙◌, append_assoc, inl, inr}
use Rattle.std.proofs.lemmas.List.{append-nil}
use Rattle.std.specs.Prelude.{count_by, map}
use Rattle.std.specs.List.{AllByRecursion}
use Rattle.std.proofs.lemmas.Bool.{cases_lt, eqb-true, eqb-false, and_parts}
use Rattle.wl_elem.specs.declared.fault.Refusal.{Refusal}
use Rattle.wl_elem.specs.declared.why.Why.TheVariants.{NoMultiLink, ProfileShort}
use Rattle.wl_elem.specs.Answers.{refusal_at, in_element, in_sub, moved}
use Rattle.wl_elem.specs.Element.{ElementValue}
use Rattle.wl_elem.specs.ElementList.{ReadAs}
use Rattle.wl_mle.specs.declared.basic.Basic.{Basic}
use Rattle.wl_mle.specs.declared.basic.BasicSub.{BasicSub}
use Rattle.wl_mle.specs.declared.basic.BasicSub.TheVariants as basics
use Rattle.wl_mle.specs.declared.multi_link.MultiLink.{MultiLink}
use Rattle.wl_mle.specs.declared.multi_link.MultiLink.TheVariants as elements
use Rattle.wl_mle.specs.declared.profile.Profile.{Profile}
use Rattle.wl_mle.specs.Layout.{body_place}
use Rattle.wl_mle.specs.Fields.{word_of}
use Rattle.wl_mle.specs.MultiLink as mle
use Rattle.wl_mle.specs.MultiLink.{MlOf}
use Rattle.wl_inherit.specs.Inheritance.{ExpandsAs}
use Rattle.wl_assoc.specs.declared.association.AssocAsk.{AssocAsk}
use Rattle.wl_assoc.specs.declared.association.AssocReply.{AssocReply}
use Rattle.wl_assoc.specs.declared.links.LinkAsk.{LinkAsk}
use Rattle.wl_assoc.specs.declared.links.LinkState.{LinkState}
use Rattle.wl_assoc.specs.Profiles.{is_basic, IsOnlyBasic, fixed_len, entry, ElementsAs, ProfileAs, ProfileAt, profiles_from, links_in, is_among, AllPass, FailsBehind, repeated_at, ProfilesAs, EntriesAs, ask_of, state_of, AsksAs, StatesAs}
use Rattle.wl_assoc.specs.declared.profiles.LinkEntry.{LinkEntry}
use Rattle.wl_elem.proofs.Octets.{IsOctets, IsOctets-drop}
use Rattle.wl_assoc.proofs.Bodies.{ListsAreRead}
use Rattle.wl_assoc.proofs.Once.{Reading}
use Rattle.wl_assoc.proofs.Lists.{some_basic, at_index}
use Rattle.wl_assoc.proofs.Subs.{AreOctets, BodiesAreOctets, ItemsAreOctets, HasOctets, subs_octets, type_basic}
use Rattle.wl_assoc.proofs.Tests.{pass_more}

-- all octets are read as a Multi-Link element, and each profile of octets is expanded or refused

abbrev pub MlsAreRead : Type 0
MlsAreRead = (body : List ℕ) → IsOctets body → (reading : Result MultiLink Refusal) × mle.ReadAs body reading

abbrev pub AreExpanded : Type 0
AreExpanded = (outer profile : List ElementValue) → AreOctets profile → (reading : Result (List ElementValue) Refusal) × ExpandsAs outer profile reading

-- ---- one profile

abbrev SomeElements : (Result (List ElementValue) Refusal → Type 0) → Type 0
SomeElements Says = (answer : Result (List ElementValue) Refusal) × Says answer

elements_by : AreExpanded → (outer : List ElementValue) (complete : Bool) (own : List ElementValue) → AreOctets own → SomeElements (ElementsAs outer complete own)
elements_by expands outer true own are = expands outer own are
elements_by expands outer false own are = (Ok own, refl)

long_profile : BodiesAreOctets → AreExpanded → (response : Bool) (outer : List ElementValue) (p : Profile) (reading : Result (List ElementValue) Refusal) → IsOctets (drop (fixed_len response) p.body) → fixed_len response ≤ length p.body
    → ReadAs (drop (fixed_len response) p.body) reading → SomeElements (ProfileAs response outer p)
long_profile bodies expands response outer p (Ok own) octets long is =
    let answer = elements_by expands outer p.complete own (bodies own (drop (fixed_len response) p.body) octets is) in
    (answer.0, inr (long, inr (own, is, answer.1)))
long_profile bodies expands response outer p (Err inside) octets long refused = (Err (moved (body_place p + fixed_len response) inside), inr (long, inl (inside, refused, refl)))

profile_is : ListsAreRead → BodiesAreOctets → AreExpanded → (response : Bool) (outer : List ElementValue) (p : Profile) → IsOctets p.body → SomeElements (ProfileAs response outer p)
profile_is lists bodies expands response outer p octets =
    elim (cases_lt (length p.body) (fixed_len response)) [
      | inl short ↦ (Err (refusal_at (body_place p) ProfileShort), inl (short, refl))
      | inr long ↦
          let rest = IsOctets-drop (fixed_len response) p.body octets in
          let reading = lists (drop (fixed_len response) p.body) rest in
          long_profile bodies expands response outer p reading.0 rest long reading.1
    ]

-- ---- the profiles

abbrev SomeEntries : (Reading → Type 0) → Type 0
SomeEntries Says = (answer : Reading) × Says answer

abbrev HasOctetsAt : ProfileAt → Type 0
HasOctetsAt x = IsOctets x.profile.body

profiles_octets : (j : ℕ) (subs : List BasicSub) → AllByRecursion HasOctets subs → AllByRecursion HasOctetsAt (profiles_from j subs)
profiles_octets j [] octets = tt
profiles_octets j (basics.Other id body ∷ subs) octets = profiles_octets (suc j) subs octets.1
profiles_octets j (basics.Profile p ∷ subs) octets = (octets.0, profiles_octets (suc j) subs octets.1)

module _ (lists : ListsAreRead) (bodies : BodiesAreOctets) (expands : AreExpanded) (response : Bool) (outer : List ElementValue) (subs : List BasicSub) where
  -- the earlier profiles pass, and the others are still to be read
  record IsReadTo (earlier others : List ProfileAt) : Type 0 where
    pub split : profiles_from 0 subs ≡ earlier ++ others
    pub entries : List LinkEntry
    pub passed : AllPass response outer earlier entries

  fails : (earlier : List ProfileAt) (x : ProfileAt) (later : List ProfileAt) (refusal : Refusal) → IsReadTo earlier (x ∷ later) → FailsBehind response outer earlier x refusal → SomeEntries (ProfilesAs response outer subs)
  fails earlier x later refusal so_far bad = (Err refusal, record { earlier = earlier; bad = x; later = later; split = so_far.split; entries = so_far.entries; passed = so_far.passed; fails = bad })

  -- a profile of another link
  new_profile : (earlier : List ProfileAt) (x : ProfileAt) (later : List ProfileAt) (said : Result (List ElementValue) Refusal) → IsReadTo earlier (x ∷ later) → is_among x.profile.link (links_in earlier) ≡ false → ProfileAs response outer x.profile said
      → (IsReadTo (earlier ++ x ∷ []) later → SomeEntries (ProfilesAs response outer subs)) → SomeEntries (ProfilesAs response outer subs)
  new_profile earlier x later (Ok list) so_far isnt good more = more (record {
    split = so_far.split ∙ sym (append_assoc earlier (x ∷ []) later);
    entries = so_far.entries ++ entry response x.profile list ∷ [];
    passed = pass_more response outer earlier so_far.entries x (entry response x.profile list) so_far.passed isnt good refl;
  })
  new_profile earlier x later (Err inside) so_far isnt bad more = fails earlier x later (in_sub x.sub inside) so_far (inr (isnt, inside, bad, refl))

  by_link : (earlier : List ProfileAt) (x : ProfileAt) (later : List ProfileAt) (b : Bool) → is_among x.profile.link (links_in earlier) ≡ b → IsReadTo earlier (x ∷ later) → IsOctets x.profile.body
      → (IsReadTo (earlier ++ x ∷ []) later → SomeEntries (ProfilesAs response outer subs)) → SomeEntries (ProfilesAs response outer subs)
  by_link earlier x later true is so_far octets more = fails earlier x later (repeated_at x.sub) so_far (inl (is, refl))
  by_link earlier x later false isnt so_far octets more =
      let said = profile_is lists bodies expands response outer x.profile octets in
      new_profile earlier x later said.0 so_far isnt said.1 more

  read_on : (earlier others : List ProfileAt) → AllByRecursion HasOctetsAt others → IsReadTo earlier others → SomeEntries (ProfilesAs response outer subs)
  read_on earlier [] octets so_far = (Ok so_far.entries, subst (λ (x : List ProfileAt). AllPass response outer x so_far.entries) (sym (so_far.split ∙ append-nil earlier)) so_far.passed)
  read_on earlier (x ∷ later) octets so_far = by_link earlier x later (is_among x.profile.link (links_in earlier)) refl so_far octets.0 (λ more. read_on (earlier ++ x ∷ []) later octets.1 more)

  profiles_are : AllByRecursion HasOctets subs → SomeEntries (ProfilesAs response outer subs)
  profiles_are octets = read_on [] (profiles_from 0 subs) (profiles_octets 0 subs octets) (record { split = refl; entries = []; passed = record { each = tt; different = tt } })

-- ---- the frame

type_of : (e : ElementValue) → is_basic e ≡ true → word_of e.body % 8 ≡ 0
type_of e is =
    let last = and_parts _ (eqb (word_of e.body % 8) 0) is in
    eqb-true _ _ last.1

with_profiles : (response : Bool) (list : List ElementValue) (i : ℕ) (e : ElementValue) (b : Basic) (answer : Reading) → IsOnlyBasic list i e → MlOf (elements.Basic b) e.body → ProfilesAs response list b.subs answer → SomeEntries (EntriesAs response list)
with_profiles response list i e b (Ok entries) only of are = (Ok entries, (i, e, only, b, of, are))
with_profiles response list i e b (Err inside) only of are = (Err (in_element i inside), inr (i, e, only, inside, inr (b, of, are), refl))

with_element : ListsAreRead → BodiesAreOctets → ItemsAreOctets → AreExpanded → (response : Bool) (list : List ElementValue) (i : ℕ) (e : ElementValue) (reading : Result MultiLink Refusal) → IsOnlyBasic list i e → IsOctets e.body → mle.ReadAs e.body reading → SomeEntries (EntriesAs response list)
with_element lists bodies items expands response list i e (Ok value) only octets of =
    let typed = type_basic value e.body of (type_of e only.basic) in
    let is = subst (λ (v : MultiLink). MlOf v e.body) typed.1 of in
    let inside = profiles_are lists bodies expands response list typed.0.subs (subs_octets items typed.0 e.body is octets) in
    with_profiles response list i e typed.0 inside.0 only is inside.1
with_element lists bodies items expands response list i e (Err refusal) only octets refused = (Err (in_element i refusal), inr (i, e, only, refusal, inl refused, refl))

by_count : ListsAreRead → BodiesAreOctets → ItemsAreOctets → MlsAreRead → AreExpanded → (response : Bool) (list : List ElementValue) (b : Bool) → eqb (count_by is_basic list) 1 ≡ b → AreOctets list → SomeEntries (EntriesAs response list)
by_count lists bodies items mls expands response list true one octets =
    let found = some_basic list (eqb-true _ _ one) in
    let own = at_index (λ e. IsOctets e.body) list found.0 found.1 octets found.2.there in
    let reading = mls found.1.body own in
    with_element lists bodies items expands response list found.0 found.1 reading.0 found.2 own reading.1
by_count lists bodies items mls expands response list false other octets = (Err (refusal_at 0 NoMultiLink), inl (eqb-false _ _ other, refl))

entries_are : ListsAreRead → BodiesAreOctets → ItemsAreOctets → MlsAreRead → AreExpanded → (response : Bool) (list : List ElementValue) → AreOctets list → SomeEntries (EntriesAs response list)
entries_are lists bodies items mls expands response list octets = by_count lists bodies items mls expands response list (eqb (count_by is_basic list) 1) refl octets

asking : (ask : AssocAsk) (answer : Reading) → EntriesAs false ask.elements answer → (reading : Result (List LinkAsk) Refusal) × AsksAs ask reading
asking ask (Ok entries) are = (Ok (map ask_of entries), (entries, are, refl))
asking ask (Err refusal) refused = (Err refusal, refused)

pub is_asking : ListsAreRead → BodiesAreOctets → ItemsAreOctets → MlsAreRead → AreExpanded → (ask : AssocAsk) → AreOctets ask.elements → (reading : Result (List LinkAsk) Refusal) × AsksAs ask reading
is_asking lists bodies items mls expands ask octets = let said = entries_are lists bodies items mls expands false ask.elements octets in asking ask said.0 said.1

answering : (reply : AssocReply) (on : ℕ) (answer : Reading) → EntriesAs true reply.elements answer → (reading : Result (List LinkState) Refusal) × StatesAs reply on reading
answering reply on (Ok entries) are = (Ok (record { link = on; capability = reply.capability; status = reply.status } ∷ map state_of entries), (entries, are, refl))
answering reply on (Err refusal) refused = (Err refusal, refused)

pub is_answering : ListsAreRead → BodiesAreOctets → ItemsAreOctets → MlsAreRead → AreExpanded → (reply : AssocReply) (on : ℕ) → AreOctets reply.elements → (reading : Result (List LinkState) Refusal) × StatesAs reply on reading
is_answering lists bodies items mls expands reply on octets = let said = entries_are lists bodies items mls expands true reply.elements octets in answering reply on said.0 said.1
