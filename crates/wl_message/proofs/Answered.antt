-- What is read back from the values of the codecs, and what is answered of a body.
use Rattle.std.proofs.Common.{◌≡◌, ℕ, ◌<◌, Bool, true, false, List, [], ◌∷◌, length, Option, Some, None, Result, Ok, Err, refl, sym, ap, subst, ◌∙◌, arith}
use Rattle.std.specs.List.{AllByRecursion}
use Rattle.wl_elem.specs.declared.fault.Refusal.{Refusal}
use Rattle.wl_elem.specs.Element.{ElementValue}
use Rattle.wl_elem.specs.Fields.{Fits}
use Rattle.wl_ttlm.specs.declared.ttlm.Ttlm.{Ttlm}
use Rattle.wl_ttlm.specs.Ttlm.{TtlmOf, ReadAs as TtlmReadAs, map_width}
use Rattle.wl_map.specs.declared.change.Change.{Change}
use Rattle.wl_map.specs.declared.change.Change.TheVariants.{Default, Sets}
use Rattle.wl_action.specs.declared.action.Action.{Action}
use Rattle.wl_action.specs.Action.{ActionOf, ReadAs as ActionReadAs}
use Rattle.wl_message.specs.declared.changes.MapEntry.{MapEntry}
use Rattle.wl_message.specs.declared.message.Message.{Message}
use Rattle.wl_message.specs.Message.{message_octets, IsChange, IsMessage, IsMade, ReadAs}
use Rattle.wl_message.specs.Codec.{ttlm_of, element_of, action_of, ways_of, change_of, entry_in, IsEntry, IsCandidate, IsChecked}
use Rattle.wl_message.proofs.Spelled.{change_is_ttlm, message_is_action}

-- ---- the entry of an element

-- the body is read as this alone

abbrev pub TtlmOnly : List ℕ → Result Ttlm Refusal → Type 0
TtlmOnly body answer = (reading : Result Ttlm Refusal) → TtlmReadAs body reading → reading ≡ answer

abbrev pub ActionOnly : List ℕ → Result Action Refusal → Type 0
ActionOnly body answer = (reading : Result Action Refusal) → ActionReadAs body reading → reading ≡ answer

-- a bitmap with room in one octet has it in two
two_octets : (narrow : Bool) (maps : List (Option ℕ)) → AllByRecursion (Fits (map_width narrow)) maps → AllByRecursion (Fits 2) maps
two_octets false maps fit = fit
two_octets true [] fit = tt
two_octets true (None ∷ maps) fit = (tt, two_octets true maps fit.1)
two_octets true (Some n ∷ maps) fit = (omega (arith, fit.0), two_octets true maps fit.1)

change_valid : (default narrow : Bool) (maps : List (Option ℕ)) → length maps ≡ 8 → AllByRecursion (Fits (map_width narrow)) maps → IsChange (change_of default maps)
change_valid true narrow maps eight fit = tt
change_valid false narrow maps eight fit = (eight, two_octets narrow maps fit)

entry_again : (direction : ℕ) (change : Change) → entry_in (ttlm_of direction change) ≡ (record { ways = ways_of direction; change = change })
entry_again direction Default = refl
entry_again direction (Sets maps) = refl

-- the element of a message is read as the value that stands for it
element_read : (direction : ℕ) (change : Change) (e : ElementValue) (answer : Result Ttlm Refusal) → direction < 3 → IsChange change → e ≡ element_of direction change → TtlmOnly e.body answer → Ok (ttlm_of direction change) ≡ answer
element_read direction change e answer lt is same only =
    only (Ok (ttlm_of direction change)) (subst (λ (x : ElementValue). TtlmOf (ttlm_of direction change) x.body) (sym same) (change_is_ttlm direction change lt is))

pub entry_read : (e : ElementValue) (value : Ttlm) (entry : MapEntry) → entry ≡ entry_in value → TtlmOf value e.body → TtlmOnly e.body (Ok value) → IsEntry e (Some entry)
entry_read e value entry found of only =
    let is = of.is_value in record {
      valid = subst (λ (x : MapEntry). IsChange x.change) (sym found) (change_valid value.default value.narrow value.maps is.eight is.fit);
      only = λ direction change lt valid same.
          let read : Ok (ttlm_of direction change) ≡ Ok value = element_read direction change e (Ok value) lt valid same only in
          let one : value ≡ ttlm_of direction change = cc in
          ap (λ (x : MapEntry). Some x) (found ∙ ap entry_in one ∙ entry_again direction change);
    }

pub entry_refused : (e : ElementValue) (refusal : Refusal) → TtlmOnly e.body (Err refusal) → IsEntry e None
entry_refused e refusal only = record {
  valid = tt;
  only = λ direction change lt valid same.
      let read : Ok (ttlm_of direction change) ≡ Err refusal = element_read direction change e (Err refusal) lt valid same only in absurd (cc);
}

-- ---- a body

-- a body that an end makes is read as the value of a message
made_read : (body : List ℕ) (answer : Result Action Refusal) (made : IsMade body) → ActionOnly body answer → Ok (action_of made.0) ≡ answer
made_read body answer made only = only (Ok (action_of made.0)) (subst (ActionOf (action_of made.0)) (sym made.2) (message_is_action made.0 made.1))

pub none_refused : (body : List ℕ) (refusal : Refusal) → ActionOnly body (Err refusal) → IsMade body → ⊥
none_refused body refusal only made = let read : Ok (action_of made.0) ≡ Err refusal = made_read body (Err refusal) made only in absurd (cc)

-- the candidate is the message of the body
candidate_of : (body : List ℕ) (action : Action) (candidate : Option Message) (made : IsMade body) → ActionOnly body (Ok action) → IsCandidate action candidate → candidate ≡ Some made.0
candidate_of body action candidate made only is =
    let read : Ok (action_of made.0) ≡ Ok action = made_read body (Ok action) made only in
    let same : action ≡ action_of made.0 = cc in
    is.only made.0 made.1 same

pub none_found : (body : List ℕ) (action : Action) → ActionOnly body (Ok action) → IsCandidate action None → IsMade body → ⊥
none_found body action only is made = let one : None ≡ Some made.0 = candidate_of body action None made only is in absurd (cc)

pub answered : (body : List ℕ) (action : Action) (message : Message) → ActionOnly body (Ok action) → IsCandidate action (Some message) → (answer : Option Message) → IsChecked message body answer → ReadAs body answer
answered body action message only is (Some n) checked =
    (subst IsMessage (sym checked.0) is.valid, checked.1 ∙ ap message_octets (sym checked.0))
answered body action message only is None other = λ made.
    let one : Some message ≡ Some made.0 = candidate_of body action (Some message) made only is in
    let same : message ≡ made.0 = cc in
    other (made.2 ∙ ap message_octets (sym same))
