-- What is taken of a body, or that nothing is.
use Rattle.std.proofs.Common.{◌≡◌, ℕ, true, false, List, drop, Option, Some, None, Result, Ok, Err, sym, ap, subst, ◌∙◌}
use Rattle.std.specs.Prelude.{◌==◌, not, is_some, count_by}
use Rattle.std.specs.List.{list_all}
use Rattle.wl_elem.specs.declared.fault.Refusal.{Refusal}
use Rattle.wl_assoc.specs.declared.association.AssocAsk.{AssocAsk}
use Rattle.wl_assoc.specs.declared.association.AssocReply.{AssocReply}
use Rattle.wl_assoc.specs.declared.links.LinkAsk.{LinkAsk}
use Rattle.wl_assoc.specs.declared.links.LinkState.{LinkState}
use Rattle.wl_assoc.specs.Association.{AskOf, ReplyOf, ReadsAsk, ReadsReply}
use Rattle.wl_assoc.specs.Profiles.{is_basic, AsksAs, StatesAs}
use Rattle.wl_setup.specs.declared.message.SetupAsk.{SetupAsk}
use Rattle.wl_setup.specs.declared.message.SetupReply.{SetupReply}
use Rattle.wl_joining.specs.Joining.{HasMld, AskFrom, ReplyFrom, AskIn, ReplyIn, AskReadAs, ReplyReadAs}
use Rattle.wl_joining.specs.Reading.{AskFromAs, ReplyFromAs}

-- nothing but this is read

abbrev pub AsksOnly : AssocAsk → Result (List LinkAsk) Refusal → Type 0
AsksOnly value answer = (reading : Result (List LinkAsk) Refusal) → AsksAs value reading → reading ≡ answer

abbrev pub StatesOnly : AssocReply → ℕ → Result (List LinkState) Refusal → Type 0
StatesOnly value on answer = (reading : Result (List LinkState) Refusal) → StatesAs value on reading → reading ≡ answer

abbrev pub AskOnly : List ℕ → Result AssocAsk Refusal → Type 0
AskOnly body answer = (reading : Result AssocAsk Refusal) → ReadsAsk body reading → reading ≡ answer

abbrev pub ReplyOnly : List ℕ → Result AssocReply Refusal → Type 0
ReplyOnly body answer = (reading : Result AssocReply Refusal) → ReadsReply body reading → reading ≡ answer

-- ---- the value of a request

pub asks_refused : (on : ℕ) (mac : List ℕ) (value : AssocAsk) (refusal : Refusal) → AsksOnly value (Err refusal) → (ask : SetupAsk) → AskFrom on mac value ask → ⊥
asks_refused on mac value refusal only ask from = absurd (cc (only (Ok from.asks) from.said))

asks_are : (on : ℕ) (mac : List ℕ) (value : AssocAsk) (asks : List LinkAsk) (ask : SetupAsk) (from : AskFrom on mac value ask) → AsksOnly value (Ok asks) → from.asks ≡ asks
asks_are on mac value asks ask from only =
    let read : Ok from.asks ≡ Ok asks = only (Ok from.asks) from.said in cc

pub not_addressed : (on : ℕ) (mac : List ℕ) (value : AssocAsk) (asks : List LinkAsk) → AsksOnly value (Ok asks) → list_all (λ a. is_some a.mac) asks ≡ false → (ask : SetupAsk) → AskFrom on mac value ask → ⊥
not_addressed on mac value asks only not_all ask from =
    let same = asks_are on mac value asks ask from only in
    let all : list_all (λ a. is_some a.mac) asks ≡ true = sym (ap (λ (x : List LinkAsk). list_all (λ a. is_some a.mac) x) same) ∙ from.addressed in
    absurd (cc (all, not_all))

pub asked_here : (on : ℕ) (mac : List ℕ) (value : AssocAsk) (asks : List LinkAsk) → AsksOnly value (Ok asks) → list_all (λ a. not (a.link == on)) asks ≡ false → (ask : SetupAsk) → AskFrom on mac value ask → ⊥
asked_here on mac value asks only not_all ask from =
    let same = asks_are on mac value asks ask from only in
    let all : list_all (λ a. not (a.link == on)) asks ≡ true = sym (ap (λ (x : List LinkAsk). list_all (λ a. not (a.link == on)) x) same) ∙ from.elsewhere in
    absurd (cc (all, not_all))

pub no_mld : (on : ℕ) (mac : List ℕ) (value : AssocAsk) → ((mld : List ℕ) → HasMld value.elements mld → ⊥) → (ask : SetupAsk) → AskFrom on mac value ask → ⊥
no_mld on mac value none ask from = none ask.mld from.mld

-- there is one Basic Multi-Link element
pub counted : (value : AssocAsk) (asks : List LinkAsk) → AsksAs value (Ok asks) → count_by is_basic value.elements ≡ 1
counted value asks (entries, is, same) = is.2.counted

-- ---- the value of a response

pub states_refused : (on : ℕ) (value : AssocReply) (refusal : Refusal) → StatesOnly value on (Err refusal) → (reply : SetupReply) → ReplyFrom on value reply → ⊥
states_refused on value refusal only reply from = absurd (cc (only (Ok from.states) from.said))

pub answered_here : (on : ℕ) (value : AssocReply) (states : List LinkState) → StatesOnly value on (Ok states) → list_all (λ s. not (s.link == on)) (drop 1 states) ≡ false → (reply : SetupReply) → ReplyFrom on value reply → ⊥
answered_here on value states only not_all reply from =
    let read : Ok from.states ≡ Ok states = only (Ok from.states) from.said in
    let same : from.states ≡ states = cc in
    let all : list_all (λ s. not (s.link == on)) (drop 1 states) ≡ true = sym (ap (λ (x : List LinkState). list_all (λ s. not (s.link == on)) (drop 1 x)) same) ∙ from.elsewhere in
    absurd (cc (all, not_all))

-- ---- the body

pub ask_body_refused : (on : ℕ) (mac body : List ℕ) (refusal : Refusal) → AskOnly body (Err refusal) → (ask : SetupAsk) → AskIn on mac body ask → ⊥
ask_body_refused on mac body refusal only ask (value, of, from) = absurd (cc (only (Ok value) of))

pub ask_of_body : (on : ℕ) (mac body : List ℕ) (value : AssocAsk) → AskOf value body → AskOnly body (Ok value) → (answer : Option SetupAsk) → AskFromAs on mac value answer → AskReadAs on mac body answer
ask_of_body on mac body value of only (Some ask) from = (value, of, from)
ask_of_body on mac body value of only None none = λ ask (other, also, from).
    let read : Ok other ≡ Ok value = only (Ok other) also in
    let same : other ≡ value = cc in
    none ask (subst (λ (x : AssocAsk). AskFrom on mac x ask) same from)

pub reply_body_refused : (on : ℕ) (body : List ℕ) (refusal : Refusal) → ReplyOnly body (Err refusal) → (reply : SetupReply) → ReplyIn on body reply → ⊥
reply_body_refused on body refusal only reply (value, of, from) = absurd (cc (only (Ok value) of))

pub reply_of_body : (on : ℕ) (body : List ℕ) (value : AssocReply) → ReplyOf value body → ReplyOnly body (Ok value) → (answer : Option SetupReply) → ReplyFromAs on value answer → ReplyReadAs on body answer
reply_of_body on body value of only (Some reply) from = (value, of, from)
reply_of_body on body value of only None none = λ reply (other, also, from).
    let read : Ok other ≡ Ok value = only (Ok other) also in
    let same : other ≡ value = cc in
    none reply (subst (λ (x : AssocReply). ReplyFrom on x reply) same from)
