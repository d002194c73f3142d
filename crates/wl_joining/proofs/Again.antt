-- What is taken of a written body, and what it has for the link that carries it.
use Rattle.std.proofs.Common.{◌≡◌, ℕ, ◌<◌, Bool, true, cond, List, map, Option, Some, None, refl, ap, ◌∙◌}
use Rattle.std.specs.Prelude.{is_some}
use Rattle.std.proofs.lemmas.Bool.{eq-eqb}
use Rattle.wl_assoc.specs.declared.association.AssocReply.{AssocReply}
use Rattle.wl_assoc.specs.declared.links.LinkState.{LinkState}
use Rattle.wl_assoc.specs.Profiles.{state_of}
use Rattle.wl_setup.specs.declared.message.SetupAsk.{SetupAsk}
use Rattle.wl_setup.specs.declared.message.SetupReply.{SetupReply}
use Rattle.wl_setup.specs.Table.{each_link, entry_for, is_named}
use Rattle.wl_joining.specs.Joining.{mac_in, mac_on, status_in, ReplyFrom, AskIn, ReplyIn, AskReadAs, ReplyReadAs}

-- ---- what is taken

pub ask_as_written : ((on : ℕ) (mac body : List ℕ) (a b : SetupAsk) → AskIn on mac body a → AskIn on mac body b → a ≡ b)
    → (on : ℕ) (mac body : List ℕ) (ask : SetupAsk) (taken : Option SetupAsk) → AskIn on mac body ask → AskReadAs on mac body taken → taken ≡ Some ask
ask_as_written once on mac body ask (Some other) is also = ap (λ (x : SetupAsk). Some x) (once on mac body other ask also is)
ask_as_written once on mac body ask None is none = absurd (none ask is)

pub reply_as_written : ((on : ℕ) (body : List ℕ) (a b : SetupReply) → ReplyIn on body a → ReplyIn on body b → a ≡ b)
    → (on : ℕ) (body : List ℕ) (reply : SetupReply) (taken : Option SetupReply) → ReplyIn on body reply → ReplyReadAs on body taken → taken ≡ Some reply
reply_as_written once on body reply (Some other) is also = ap (λ (x : SetupReply). Some x) (once on body other reply also is)
reply_as_written once on body reply None is none = absurd (none reply is)

-- ---- the carrying link

-- a table by a definition has its entries
abbrev pub HasEntries : Type 0 → Type 0
HasEntries A = (entry : ℕ → Option A) (link : ℕ) → link < 15 → entry_for (each_link entry) link ≡ entry link

pub carrying_address : HasEntries (List ℕ) → (on : ℕ) (mac body : List ℕ) (ask : SetupAsk) → on < 15 → AskIn on mac body ask → entry_for ask.macs ask.on ≡ Some mac
carrying_address has on mac body ask low (value, of, from) =
    ap (entry_for ask.macs) from.over
    ∙ ap (λ (table : List (Option (List ℕ))). entry_for table on) from.macs
    ∙ has (mac_on on mac from.asks) on low
    ∙ ap (λ (b : Bool). cond b (Some mac) (mac_in from.asks on)) (eq-eqb on on refl)

pub carrying_asked : HasEntries (List ℕ) → (on : ℕ) (mac body : List ℕ) (ask : SetupAsk) → on < 15 → AskIn on mac body ask → is_named ask.macs ask.on ≡ true
carrying_asked has on mac body ask low is = ap is_some (carrying_address has on mac body ask low is)

carrying_status : HasEntries ℕ → (on : ℕ) (value : AssocReply) (reply : SetupReply) → on < 15 → ReplyFrom on value reply → entry_for reply.status reply.on ≡ Some value.status
carrying_status has on value reply low from =
    let rest = map state_of from.said.0 in
    ap (entry_for reply.status) from.over
    ∙ ap (λ (table : List (Option ℕ)). entry_for table on) from.status
    ∙ has (status_in from.states) on low
    ∙ ap (λ (states : List LinkState). status_in states on) from.said.2
    ∙ ap (λ (b : Bool). cond b (Some value.status) (status_in rest on)) (eq-eqb on on refl)

pub carrying_answered : HasEntries ℕ → (on : ℕ) (body : List ℕ) (reply : SetupReply) → on < 15 → ReplyIn on body reply → is_named reply.status reply.on ≡ true
carrying_answered has on body reply low (value, of, from) = ap is_some (carrying_status has on value reply low from)
