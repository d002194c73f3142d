-- Action and association bodies as they are shown.
use Rattle.std.proofs.Common.{◌≡◌, ℕ, List, ◌++◌, Result, Ok, Err, OnOk, IfErr, refl, ap, inr}
use Rattle.std.specs.Prelude.{codes}
use Rattle.wl_elem.specs.declared.fault.Fault.{Fault}
use Rattle.wl_elem.specs.declared.fault.Fault.TheVariants as faults
use Rattle.wl_action.specs.declared.action.Action.{Action}
use Rattle.wl_action.specs.Action as actions
use Rattle.wl_action.specs.Action.{elements_of}
use Rattle.wl_assoc.specs.declared.association.AssocAsk.{AssocAsk}
use Rattle.wl_assoc.specs.declared.association.AssocReply.{AssocReply}
use Rattle.wl_assoc.specs.declared.links.LinkAsk.{LinkAsk}
use Rattle.wl_assoc.specs.declared.links.LinkState.{LinkState}
use Rattle.wl_assoc.specs.Association.{ReadsAsk, ReadsReply}
use Rattle.wl_assoc.specs.Profiles.{AsksAs, StatesAs}
use Rattle.wl_shown.specs.declared.item.ShownElements.TheVariants as which
use Rattle.wl_shown.specs.ActionText.{action_text, decoded_in}
use Rattle.wl_shown.specs.AssocText.{ask_text, asks_text, reply_text, states_text}
use Rattle.wl_shown.specs.Shown.{Answer, ItemsAs, ActionAs, AskAs, ReplyAs, AddsText, IsFaultOf}

abbrev ok_of : List ℕ → Answer
ok_of text = Ok text

-- what comes last holds of all: the items of a body that was read are those of the octets

pub action_shown : (octets : List ℕ) (action : Action) (r : Result Unit Fault) (new : List ℕ) → actions.ReadAs octets (Ok action)
    → OnOk r (AddsText (ItemsAs (decoded_in action) 0 (elements_of action)) (codes " " ++ action_text action) new) → OnOk r (ActionAs octets (Ok new))
action_shown octets action (Ok done) new reads (text, items, added) = inr (action, Ok text, reads, items, ap ok_of added)
action_shown octets action (Err fault) new reads shown = tt

pub action_refused : (octets : List ℕ) (action : Action) (r : Result Unit Fault) → actions.ReadAs octets (Ok action)
    → IfErr r (IsFaultOf (ItemsAs (decoded_in action) 0 (elements_of action))) → IfErr r (IsFaultOf (ActionAs octets))
action_refused octets action (Ok done) reads items = tt
action_refused octets action (Err (faults.Refused refusal)) reads items = inr (action, Err refusal, reads, items, refl)
action_refused octets action (Err faults.Memory) reads items = tt

pub ask_shown : (octets : List ℕ) (ask : AssocAsk) (asks : List LinkAsk) (r : Result Unit Fault) (new : List ℕ) → ReadsAsk octets (Ok ask) → AsksAs ask (Ok asks)
    → OnOk r ((text : List ℕ) × ItemsAs which.Basic 0 ask.elements (Ok text) × (new ≡ codes " " ++ ask_text ask ++ text ++ asks_text asks)) → OnOk r (AskAs octets (Ok new))
ask_shown octets ask asks (Ok done) new reads tells (text, items, is) = inr (inr (ask, asks, Ok text, reads, tells, items, ap ok_of is))
ask_shown octets ask asks (Err fault) new reads tells shown = tt

pub ask_refused : (octets : List ℕ) (ask : AssocAsk) (asks : List LinkAsk) (r : Result Unit Fault) → ReadsAsk octets (Ok ask) → AsksAs ask (Ok asks)
    → IfErr r (IsFaultOf (ItemsAs which.Basic 0 ask.elements)) → IfErr r (IsFaultOf (AskAs octets))
ask_refused octets ask asks (Ok done) reads tells items = tt
ask_refused octets ask asks (Err (faults.Refused refusal)) reads tells items = inr (inr (ask, asks, Err refusal, reads, tells, items, refl))
ask_refused octets ask asks (Err faults.Memory) reads tells items = tt

pub reply_shown : (octets : List ℕ) (reply : AssocReply) (states : List LinkState) (r : Result Unit Fault) (new : List ℕ) → ReadsReply octets (Ok reply) → StatesAs reply 0 (Ok states)
    → OnOk r ((text : List ℕ) × ItemsAs which.Basic 0 reply.elements (Ok text) × (new ≡ codes " " ++ reply_text reply ++ text ++ states_text states)) → OnOk r (ReplyAs octets (Ok new))
reply_shown octets reply states (Ok done) new reads tells (text, items, is) = inr (inr (reply, states, Ok text, reads, tells, items, ap ok_of is))
reply_shown octets reply states (Err fault) new reads tells shown = tt

pub reply_refused : (octets : List ℕ) (reply : AssocReply) (states : List LinkState) (r : Result Unit Fault) → ReadsReply octets (Ok reply) → StatesAs reply 0 (Ok states)
    → IfErr r (IsFaultOf (ItemsAs which.Basic 0 reply.elements)) → IfErr r (IsFaultOf (ReplyAs octets))
reply_refused octets reply states (Ok done) reads tells items = tt
reply_refused octets reply states (Err (faults.Refused refusal)) reads tells items = inr (inr (reply, states, Err refusal, reads, tells, items, refl))
reply_refused octets reply states (Err faults.Memory) reads tells items = tt
