-- When two requests are the same.
use Rattle.std.proofs.Common.{◌≡◌, ℕ, List, Option, Some, None, refl, ap, ◌∙◌}
use Rattle.std.specs.Prelude.{◌==◌, ◌&&◌, bytes_eq}
use Rattle.std.specs.Bool.{Decides}
use Rattle.std.specs.Cmp.Lexicographic.{pointwise}
use Rattle.std.proofs.lemmas.Bool.Decides.{Decides-eqb, Decides-and, Decides-like}
use Rattle.std.proofs.lemmas.Slice.Eq.{bytes_eq-Decides, slice_eq-Decides}
use Rattle.wl_setup.specs.declared.message.SetupAsk.{SetupAsk}
use Rattle.wl_setup.specs.Messages.{same_address, same_ask}

pub same_address-Decides : (a b : Option (List ℕ)) → Decides (same_address a b) (a ≡ b)
same_address-Decides None None = (λ h. refl, λ h. refl)
same_address-Decides None (Some other) = (λ h. cc, λ h. cc)
same_address-Decides (Some address) None = (λ h. cc, λ h. cc)
same_address-Decides (Some address) (Some other) = (λ h. ap Some ((bytes_eq-Decides address other).0 h), λ h. (bytes_eq-Decides address other).1 (cc))

abbrev made : ℕ → List ℕ → List (Option (List ℕ)) → SetupAsk
made link address table = record { on = link; mld = address; macs = table }

ask_from : (a b : SetupAsk) → ((a.on ≡ b.on) × (a.mld ≡ b.mld)) × (a.macs ≡ b.macs) → a ≡ b
ask_from a b parts =
    ap (λ (link : ℕ). made link a.mld a.macs) parts.0.0 ∙ ap (λ (address : List ℕ). made b.on address a.macs) parts.0.1 ∙ ap (made b.on b.mld) parts.1

pub same_ask-Decides : (a b : SetupAsk) → Decides (same_ask a b) (a ≡ b)
same_ask-Decides a b =
    Decides-like {P = ((a.on ≡ b.on) × (a.mld ≡ b.mld)) × (a.macs ≡ b.macs)} {Q = a ≡ b} (same_ask a b)
    (ask_from a b)
    (λ is. ((ap (λ (v : SetupAsk). v.on) is, ap (λ (v : SetupAsk). v.mld) is), ap (λ (v : SetupAsk). v.macs) is))
    (Decides-and ((a.on == b.on) && bytes_eq a.mld b.mld) (pointwise same_address a.macs b.macs)
    (Decides-and (a.on == b.on) (bytes_eq a.mld b.mld) (Decides-eqb a.on b.on) (bytes_eq-Decides a.mld b.mld))
    (slice_eq-Decides same_address-Decides a.macs b.macs (pointwise same_address a.macs b.macs) refl))
