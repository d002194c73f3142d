-- Of a body one message is taken at most.
use Rattle.std.proofs.Common.{◌≡◌, ℕ, List, Option, Result, Ok, sym, ap, subst, ◌∙◌}
use Rattle.wl_elem.specs.declared.fault.Refusal.{Refusal}
use Rattle.wl_assoc.specs.declared.association.AssocAsk.{AssocAsk}
use Rattle.wl_assoc.specs.declared.association.AssocReply.{AssocReply}
use Rattle.wl_assoc.specs.declared.links.LinkAsk.{LinkAsk}
use Rattle.wl_assoc.specs.declared.links.LinkState.{LinkState}
use Rattle.wl_assoc.specs.Association.{ReadsAsk, ReadsReply}
use Rattle.wl_assoc.specs.Profiles.{AsksAs, StatesAs}
use Rattle.wl_setup.specs.declared.message.SetupAsk.{SetupAsk}
use Rattle.wl_setup.specs.declared.message.SetupReply.{SetupReply}
use Rattle.wl_setup.specs.Table.{each_link}
use Rattle.wl_joining.specs.Joining.{mac_on, status_in, AskFrom, ReplyFrom, AskIn, ReplyIn}
use Rattle.wl_joining.proofs.Only.{MlReadOnce, one_mld}

-- what the codecs' laws say

abbrev pub AskReadOnce : Type 0
AskReadOnce = (body : List ℕ) (a b : Result AssocAsk Refusal) → ReadsAsk body a → ReadsAsk body b → a ≡ b

abbrev pub ReplyReadOnce : Type 0
ReplyReadOnce = (body : List ℕ) (a b : Result AssocReply Refusal) → ReadsReply body a → ReadsReply body b → a ≡ b

abbrev pub AsksOnce : Type 0
AsksOnce = (ask : AssocAsk) (a b : Result (List LinkAsk) Refusal) → AsksAs ask a → AsksAs ask b → a ≡ b

abbrev pub StatesOnce : Type 0
StatesOnce = (reply : AssocReply) (on : ℕ) (a b : Result (List LinkState) Refusal) → StatesAs reply on a → StatesAs reply on b → a ≡ b

same_parts : (a b : SetupAsk) → a.on ≡ b.on → a.mld ≡ b.mld → a.macs ≡ b.macs → a ≡ b
same_parts a b on mld macs =
    ap (λ (n : ℕ). record a { on = n }) on
    ∙ ap (λ (x : List ℕ). record { on = b.on; mld = x; macs = a.macs }) mld
    ∙ ap (λ (x : List (Option (List ℕ))). record { on = b.on; mld = b.mld; macs = x }) macs

one_from : AsksOnce → MlReadOnce → (on : ℕ) (mac : List ℕ) (value : AssocAsk) (a b : SetupAsk) → AskFrom on mac value a → AskFrom on mac value b → a ≡ b
one_from once mls on mac value a b p q =
    let read : Ok p.asks ≡ Ok q.asks = once value (Ok p.asks) (Ok q.asks) p.said q.said in
    let same : p.asks ≡ q.asks = cc in
    same_parts a b (p.over ∙ sym q.over) (one_mld mls value.elements a.mld b.mld p.mld q.mld) (p.macs ∙ ap (λ (x : List LinkAsk). each_link (mac_on on mac x)) same ∙ sym q.macs)

pub one_ask : AskReadOnce → AsksOnce → MlReadOnce → (on : ℕ) (mac body : List ℕ) (a b : SetupAsk) → AskIn on mac body a → AskIn on mac body b → a ≡ b
one_ask bodies once mls on mac body a b (value, of, from) (other, also, with) =
    let read : Ok other ≡ Ok value = bodies body (Ok other) (Ok value) also of in
    let same : other ≡ value = cc in
    one_from once mls on mac value a b from (subst (λ (x : AssocAsk). AskFrom on mac x b) same with)

one_reply_from : StatesOnce → (on : ℕ) (value : AssocReply) (a b : SetupReply) → ReplyFrom on value a → ReplyFrom on value b → a ≡ b
one_reply_from once on value a b p q =
    let read : Ok p.states ≡ Ok q.states = once value on (Ok p.states) (Ok q.states) p.said q.said in
    let same : p.states ≡ q.states = cc in
    let status : a.status ≡ b.status = p.status ∙ ap (λ (x : List LinkState). each_link (status_in x)) same ∙ sym q.status in
    ap (λ (n : ℕ). record a { on = n }) (p.over ∙ sym q.over) ∙ ap (λ (x : List (Option ℕ)). record { on = b.on; status = x }) status

pub one_reply : ReplyReadOnce → StatesOnce → (on : ℕ) (body : List ℕ) (a b : SetupReply) → ReplyIn on body a → ReplyIn on body b → a ≡ b
one_reply bodies once on body a b (value, of, from) (other, also, with) =
    let read : Ok other ≡ Ok value = bodies body (Ok other) (Ok value) also of in
    let same : other ≡ value = cc in
    one_reply_from once on value a b from (subst (λ (x : AssocReply). ReplyFrom on x b) same with)
