-- The elements that are decoded where they stand in a list: TID-To-Link Mapping and Multi-Link.
use Rattle.std.specs.Prelude.{List, ℕ, Result, Ok, Err}
use Rattle.wl_elem.specs.declared.fault.Refusal.{Refusal}
use Rattle.wl_elem.specs.declared.known.Known.{Known}
use Rattle.wl_elem.specs.declared.known.Known.TheVariants as kinds
use Rattle.wl_ttlm.specs.Ttlm.{TtlmOf, TtlmRefused}
use Rattle.wl_mle.specs.MultiLink.{MlOf, MlRefused}
use Rattle.wl_action.specs.declared.known.KnownValue.{KnownValue}
use Rattle.wl_action.specs.declared.known.KnownValue.TheVariants.{Mapping, MultiLink}

-- the body is this value's
abbrev pub KnownOf : Known → KnownValue → List ℕ → Type 0
KnownOf kinds.TidToLinkMapping (Mapping t) body = TtlmOf t body
KnownOf kinds.TidToLinkMapping (MultiLink m) body = ⊥
KnownOf kinds.MultiLink (Mapping t) body = ⊥
KnownOf kinds.MultiLink (MultiLink m) body = MlOf m body

-- the body of such an element is refused
abbrev pub KnownRefused : Known → List ℕ → Refusal → Type 0
KnownRefused kinds.TidToLinkMapping body refusal = TtlmRefused body refusal
KnownRefused kinds.MultiLink body refusal = MlRefused body refusal

-- the body read as a value, or as refused
abbrev pub ReadAs : Known → List ℕ → Result KnownValue Refusal → Type 0
ReadAs known body (Ok value) = KnownOf known value body
ReadAs known body (Err refusal) = KnownRefused known body refusal
