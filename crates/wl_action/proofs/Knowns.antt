-- What is answered of an element that is decoded where it stands, by what its own decoder answers.
use Rattle.std.proofs.Common.{◌≡◌, ℕ, List, Result, Ok, Err, refl, sym, ap, ◌∙◌}
use Rattle.wl_elem.specs.declared.fault.Refusal.{Refusal}
use Rattle.wl_elem.specs.declared.fault.Fault.{Fault}
use Rattle.wl_elem.specs.declared.fault.Fault.TheVariants.{Refused, Memory}
use Rattle.wl_elem.specs.declared.known.Known.{Known}
use Rattle.wl_elem.specs.declared.known.Known.TheVariants as kinds
use Rattle.wl_elem.specs.Answers.{AnswersOnly}
use Rattle.wl_elem.proofs.Octets.{IsOctets}
use Rattle.wl_ttlm.specs.declared.ttlm.Ttlm.{Ttlm}
use Rattle.wl_ttlm.specs.Ttlm as maps
use Rattle.wl_mle.specs.declared.multi_link.MultiLink.{MultiLink}
use Rattle.wl_mle.specs.MultiLink as links
use Rattle.wl_action.specs.declared.known.KnownValue.{KnownValue}
use Rattle.wl_action.specs.declared.known.KnownValue.TheVariants as values
use Rattle.wl_action.specs.Known.{ReadAs}

-- an answer with its value seen so
abbrev pub seen : {V F : Type 0} → (V → KnownValue) → Result V F → Result KnownValue F
seen to (Ok value) = Ok (to value)
seen to (Err fault) = Err fault

same_seen : {V : Type 0} (to : V → KnownValue) (answer : Result V Fault) (reading : Result V Refusal) → AnswersOnly answer reading → AnswersOnly (seen to answer) (seen to reading)
same_seen {V} to (Ok value) reading same = ap (λ (r : Result V Refusal). seen to r) same
same_seen {V} to (Err (Refused refusal)) reading same = ap (λ (r : Result V Refusal). seen to r) same
same_seen to (Err Memory) reading same = tt

pub mapping_only : (answer : Result Ttlm Fault) (body : List ℕ) → ((reading : Result Ttlm Refusal) → maps.ReadAs body reading → AnswersOnly answer reading)
    → (reading : Result KnownValue Refusal) → ReadAs kinds.TidToLinkMapping body reading → AnswersOnly (seen values.Mapping answer) reading
mapping_only answer body only (Ok (values.Mapping t)) read = same_seen values.Mapping answer (Ok t) (only (Ok t) read)
mapping_only answer body only (Ok (values.MultiLink m)) read = absurd read
mapping_only answer body only (Err refusal) read = same_seen values.Mapping answer (Err refusal) (only (Err refusal) read)

pub multi_link_only : (answer : Result MultiLink Fault) (body : List ℕ) → ((reading : Result MultiLink Refusal) → links.ReadAs body reading → AnswersOnly answer reading)
    → (reading : Result KnownValue Refusal) → ReadAs kinds.MultiLink body reading → AnswersOnly (seen values.MultiLink answer) reading
multi_link_only answer body only (Ok (values.Mapping t)) read = absurd read
multi_link_only answer body only (Ok (values.MultiLink m)) read = same_seen values.MultiLink answer (Ok m) (only (Ok m) read)
multi_link_only answer body only (Err refusal) read = same_seen values.MultiLink answer (Err refusal) (only (Err refusal) read)

-- ---- one reading, and some reading

-- what is read is seen of a mapping, or of a Multi-Link element

of_mapping : (body : List ℕ) (reading : Result KnownValue Refusal) → ReadAs kinds.TidToLinkMapping body reading → (r : Result Ttlm Refusal) × maps.ReadAs body r × (reading ≡ seen values.Mapping r)
of_mapping body (Ok (values.Mapping t)) read = (Ok t, read, refl)
of_mapping body (Ok (values.MultiLink m)) read = absurd read
of_mapping body (Err refusal) read = (Err refusal, read, refl)

of_multi_link : (body : List ℕ) (reading : Result KnownValue Refusal) → ReadAs kinds.MultiLink body reading → (r : Result MultiLink Refusal) × links.ReadAs body r × (reading ≡ seen values.MultiLink r)
of_multi_link body (Ok (values.Mapping t)) read = absurd read
of_multi_link body (Ok (values.MultiLink m)) read = (Ok m, read, refl)
of_multi_link body (Err refusal) read = (Err refusal, read, refl)

pub known_once : ((body : List ℕ) (a b : Result Ttlm Refusal) → maps.ReadAs body a → maps.ReadAs body b → a ≡ b) → ((body : List ℕ) (a b : Result MultiLink Refusal) → links.ReadAs body a → links.ReadAs body b → a ≡ b)
    → (known : Known) (body : List ℕ) (a b : Result KnownValue Refusal) → ReadAs known body a → ReadAs known body b → a ≡ b
known_once map_once link_once kinds.TidToLinkMapping body a b p q =
    let x = of_mapping body a p in
    let y = of_mapping body b q in
    x.2 ∙ ap (seen values.Mapping) (map_once body x.0 y.0 x.1 y.1) ∙ sym y.2
known_once map_once link_once kinds.MultiLink body a b p q =
    let x = of_multi_link body a p in
    let y = of_multi_link body b q in
    x.2 ∙ ap (seen values.MultiLink) (link_once body x.0 y.0 x.1 y.1) ∙ sym y.2

mapping_seen : (body : List ℕ) (reading : Result Ttlm Refusal) → maps.ReadAs body reading → (r : Result KnownValue Refusal) × ReadAs kinds.TidToLinkMapping body r
mapping_seen body (Ok t) read = (Ok (values.Mapping t), read)
mapping_seen body (Err refusal) read = (Err refusal, read)

multi_link_seen : (body : List ℕ) (reading : Result MultiLink Refusal) → links.ReadAs body reading → (r : Result KnownValue Refusal) × ReadAs kinds.MultiLink body r
multi_link_seen body (Ok m) read = (Ok (values.MultiLink m), read)
multi_link_seen body (Err refusal) read = (Err refusal, read)

pub known_read : ((body : List ℕ) → IsOctets body → (r : Result Ttlm Refusal) × maps.ReadAs body r) → ((body : List ℕ) → IsOctets body → (r : Result MultiLink Refusal) × links.ReadAs body r)
    → (known : Known) (body : List ℕ) → IsOctets body → (r : Result KnownValue Refusal) × ReadAs known body r
known_read map_read link_read kinds.TidToLinkMapping body is = let x = map_read body is in mapping_seen body x.0 x.1
known_read map_read link_read kinds.MultiLink body is = let x = link_read body is in multi_link_seen body x.0 x.1
