-- For private contracts alone: what was read of the value of a body.
use Rattle.std.specs.Prelude.{ℕ, List, Option, Some, None}
use Rattle.wl_elem.specs.Element.{ElementValue}
use Rattle.wl_mle.specs.declared.multi_link.MultiLink.{MultiLink}
use Rattle.wl_mle.specs.declared.multi_link.MultiLink.TheVariants as elements
use Rattle.wl_assoc.specs.declared.association.AssocAsk.{AssocAsk}
use Rattle.wl_assoc.specs.declared.association.AssocReply.{AssocReply}
use Rattle.wl_setup.specs.declared.message.SetupAsk.{SetupAsk}
use Rattle.wl_setup.specs.declared.message.SetupReply.{SetupReply}
use Rattle.wl_joining.specs.Joining.{HasMld, AskFrom, ReplyFrom}

-- the MLD address in a Basic Multi-Link element
abbrev pub mld_in : MultiLink → Option (List ℕ)
mld_in (elements.Basic b) = Some b.common.mld
mld_in (elements.Reconfiguration r) = None
mld_in (elements.Other control body) = None

abbrev pub MldAs : List ElementValue → Option (List ℕ) → Type 0
MldAs list (Some mld) = HasMld list mld
MldAs list None = (mld : List ℕ) → HasMld list mld → ⊥

abbrev pub AskFromAs : ℕ → List ℕ → AssocAsk → Option SetupAsk → Type 0
AskFromAs on mac value (Some ask) = AskFrom on mac value ask
AskFromAs on mac value None = (ask : SetupAsk) → AskFrom on mac value ask → ⊥

abbrev pub ReplyFromAs : ℕ → AssocReply → Option SetupReply → Type 0
ReplyFromAs on value (Some reply) = ReplyFrom on value reply
ReplyFromAs on value None = (reply : SetupReply) → ReplyFrom on value reply → ⊥
