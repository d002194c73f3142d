-- Each input is shown, or has a first line that is no hex line; and so it is judged.
use Rattle.std.proofs.Common.{ℕ, suc, ◌<◌, List, [], ◌∷◌, ◌++◌, length, Option, Some, None, Result, Ok, Err, refl, subst, inl, inr}
use Rattle.std.specs.Prelude.{◌⊎◌, codes}
use Rattle.std.specs.List.{AllByRecursion}
use Rattle.hex.specs.Hex.{IsBytes}
use Rattle.hex.proofs.HexLemmas.{decode_of-ok}
use Rattle.wl_elem.specs.declared.fault.Refusal.{Refusal}
use Rattle.wl_elem.specs.declared.known.Known.{Known}
use Rattle.wl_elem.specs.Answers.{in_element}
use Rattle.wl_action.specs.declared.known.KnownValue.{KnownValue}
use Rattle.wl_action.specs.Known as knowns
use Rattle.wl_elem.specs.Element.{ElementValue}
use Rattle.wl_elem.specs.ElementList.{ReadAs}
use Rattle.wl_elem.proofs.Octets.{IsOctets, IsOctets-back}
use Rattle.wl_elem.proofs.Items.{bodies_octets}
use Rattle.wl_frame.specs.Frame.{FrameValue}
use Rattle.wl_frame.specs.Refusals as frames
use Rattle.wl_action.specs.declared.action.Action.{Action}
use Rattle.wl_action.specs.Action as actions
use Rattle.wl_action.specs.Action.{front, elements_of}
use Rattle.wl_assoc.specs.declared.association.AssocAsk.{AssocAsk}
use Rattle.wl_assoc.specs.declared.association.AssocReply.{AssocReply}
use Rattle.wl_assoc.specs.declared.links.LinkAsk.{LinkAsk}
use Rattle.wl_assoc.specs.declared.links.LinkState.{LinkState}
use Rattle.wl_assoc.specs.Association.{ReadsAsk, ReadsReply}
use Rattle.wl_assoc.specs.Profiles.{AsksAs}
use Rattle.wl_elem.specs.Octets.{octets_of}
use Rattle.wl_shown.specs.declared.item.ShownElements.{ShownElements}
use Rattle.wl_shown.specs.declared.item.ShownElements.TheVariants.{All, Basic}
use Rattle.wl_shown.specs.declared.line.Kind.{Kind}
use Rattle.wl_shown.specs.declared.line.Kind.TheVariants as kinds
use Rattle.wl_shown.specs.ActionText.{action_text, decoded_in}
use Rattle.wl_shown.specs.AssocText.{ask_text, asks_text, reply_text, states_text}
use Rattle.wl_shown.specs.FrameText.{frame_text}
use Rattle.wl_shown.specs.Text.{element_text}
use Rattle.wl_shown.specs.Line.{IsHexLine}
use Rattle.wl_shown.specs.Shown.{Answer, known_text, KnownAs, shown_as, ItemBy, ItemAs, ItemsAs, ListAs, FrameAs, ActionAs, AnswerAs, between, behind, answer_text}
use Rattle.wl_shown.specs.Decoded.{ShownLines, IsFirstBad}
use Rattle.wl_shown.specs.Checked.{is_accepted, verdict_text, first_refused, VerdictLines}
use Rattle.wl_shown.proofs.Lines.{IsRead, is_read}
use Rattle.wl_shown.proofs.Once.{BodyAs, StatesOn}

-- ---- octets

octets_from_bytes : (octets : List ℕ) → IsBytes octets → IsOctets octets
octets_from_bytes [] are = tt
octets_from_bytes (o ∷ octets) are = (are 0, octets_from_bytes octets (λ i. are (suc i)))

-- digits are those of octets
hex_octets : (line : List ℕ) (kind : Kind) (octets : List ℕ) → IsHexLine line kind octets → IsOctets octets
hex_octets line kind octets (digits, is_line, decoded) = octets_from_bytes octets (decode_of-ok digits octets decoded).3

abbrev AreOctets : List ElementValue → Type 0
AreOctets list = AllByRecursion (λ e. AllByRecursion (λ octet. octet < 256) e.body) list

in_action : (action : Action) (octets : List ℕ) → actions.ReadAs octets (Ok action) → IsOctets octets → AreOctets (elements_of action)
in_action action octets of are = bodies_octets (elements_of action) of.elems (IsOctets-back (front action) of.elems (subst IsOctets of.text are)) of.list

in_ask : (ask : AssocAsk) (octets : List ℕ) → ReadsAsk octets (Ok ask) → IsOctets octets → AreOctets ask.elements
in_ask ask octets of are =
    let behind_capability = IsOctets-back (octets_of 2 ask.capability) (octets_of 2 ask.listen ++ of.elems) (subst IsOctets of.text are) in
    bodies_octets ask.elements of.elems (IsOctets-back (octets_of 2 ask.listen) of.elems behind_capability) of.list

in_reply : (reply : AssocReply) (octets : List ℕ) → ReadsReply octets (Ok reply) → IsOctets octets → AreOctets reply.elements
in_reply reply octets of are =
    let behind_capability = IsOctets-back (octets_of 2 reply.capability) (octets_of 2 reply.status ++ (octets_of 2 reply.aid ++ of.elems)) (subst IsOctets of.text are) in
    let behind_status = IsOctets-back (octets_of 2 reply.status) (octets_of 2 reply.aid ++ of.elems) behind_capability in
    bodies_octets reply.elements of.elems (IsOctets-back (octets_of 2 reply.aid) of.elems behind_status) of.list

-- ---- the laws of the crates below

-- a reading by a relation
abbrev pub HasReading : (V : Type 0) → (Result V Refusal → Type 0) → Type 0
HasReading V Reads = (reading : Result V Refusal) × Reads reading

-- all octets have one
abbrev pub AreRead : (V : Type 0) → (List ℕ → Result V Refusal → Type 0) → Type 0
AreRead V Reads = (octets : List ℕ) → IsOctets octets → HasReading V (Reads octets)

-- so has each value whose elements are of octets
abbrev pub AreTold : (B P : Type 0) → (B → List ElementValue) → (B → Result (List P) Refusal → Type 0) → Type 0
AreTold B P elements Tells = (v : B) → AreOctets (elements v) → HasReading (List P) (Tells v)

-- what lines are read as is read, or refused
pub record AllAreRead : Type 0 where
  pub lists : AreRead (List ElementValue) ReadAs
  pub knowns : (known : Known) → AreRead KnownValue (knowns.ReadAs known)
  pub frames : AreRead FrameValue frames.ReadAs
  pub actions : AreRead Action actions.ReadAs
  pub asks : AreRead AssocAsk ReadsAsk
  pub replies : AreRead AssocReply ReadsReply
  pub ask_profiles : AreTold AssocAsk LinkAsk (λ ask. ask.elements) AsksAs
  pub states : AreTold AssocReply LinkState (λ reply. reply.elements) StatesOn

-- ---- elements

abbrev HasAnswer : (Answer → Type 0) → Type 0
HasAnswer IsAnswer = (answer : Answer) × IsAnswer answer

known_of : (known : Known) (body : List ℕ) → HasReading KnownValue (knowns.ReadAs known body) → HasAnswer (KnownAs known body)
known_of known body (Ok value, of) = (Ok (known_text value), (value, of, refl))
known_of known body (Err refusal, refused) = (Err refusal, refused)

item_by : AllAreRead → (found : Option Known) (e : ElementValue) → IsOctets e.body → HasAnswer (ItemBy found e)
item_by all (Some known) e are = known_of known e.body (all.knowns known e.body are)
item_by all None e are = (Ok (element_text e), refl)

before : (decoded : ShownElements) (i : ℕ) (e : ElementValue) (list : List ElementValue) → HasAnswer (ItemAs decoded e) → HasAnswer (ItemsAs decoded (suc i) list) → HasAnswer (ItemsAs decoded i (e ∷ list))
before decoded i e list (Err refusal, item) others = (Err (in_element i refusal), inl (refusal, item, refl))
before decoded i e list (Ok text, item) (others, rest) = (behind (32 ∷ text) others, inr (text, others, item, rest, refl))

items_of : AllAreRead → (decoded : ShownElements) (i : ℕ) (list : List ElementValue) → AreOctets list → HasAnswer (ItemsAs decoded i list)
items_of all decoded i [] are = (Ok [], refl)
items_of all decoded i (e ∷ list) are =
    before decoded i e list (item_by all (shown_as decoded e) e are.0) (items_of all decoded (suc i) list are.1)

-- ---- each kind of line

list_of : AllAreRead → (octets : List ℕ) → IsOctets octets → HasReading (List ElementValue) (ReadAs octets) → HasAnswer (ListAs octets)
list_of all octets are (Ok list, of) =
    let items = items_of all All 0 list (bodies_octets list octets are of) in
    (items.0, inl (list, of, items.1))
list_of all octets are (Err refusal, refused) = (Err refusal, inr (refusal, refused, refl))

frame_of : (octets : List ℕ) → HasReading FrameValue (frames.ReadAs octets) → HasAnswer (FrameAs octets)
frame_of octets (Ok f, of) = (Ok (codes " " ++ frame_text f), (f, of, refl))
frame_of octets (Err refusal, refused) = (Err refusal, refused)

action_of : AllAreRead → (octets : List ℕ) → IsOctets octets → HasReading Action (actions.ReadAs octets) → HasAnswer (ActionAs octets)
action_of all octets are (Ok action, of) =
    let items = items_of all (decoded_in action) 0 (elements_of action) (in_action action octets of are) in
    (behind (codes " " ++ action_text action) items.0, inr (action, items.0, of, items.1, refl))
action_of all octets are (Err refusal, refused) = (Err refusal, inl (refusal, refused, refl))

-- an association body, by what it is read as and what it then says of the links
module _ (B P : Type 0) (Reads : List ℕ → Result B Refusal → Type 0) (Tells : B → Result (List P) Refusal → Type 0) (elements : B → List ElementValue) (text : B → List ℕ) (rest : List P → List ℕ) where
  abbrev IsBody : List ℕ → Answer → Type 0
  IsBody octets answer = BodyAs B P Reads Tells elements text rest octets answer

  told_of : AllAreRead → (octets : List ℕ) (v : B) → Reads octets (Ok v) → AreOctets (elements v) → HasReading (List P) (Tells v) → HasAnswer (IsBody octets)
  told_of all octets v of are (Ok list, told) =
      let items = items_of all Basic 0 (elements v) are in
      (between (text v) items.0 (rest list), inr (inr (v, list, items.0, of, told, items.1, refl)))
  told_of all octets v of are (Err refusal, told) = (Err refusal, inr (inl (v, refusal, of, told, refl)))

  body_of : AllAreRead → AreTold B P elements Tells → (octets : List ℕ) → ((v : B) → Reads octets (Ok v) → AreOctets (elements v)) → HasReading B (Reads octets) → HasAnswer (IsBody octets)
  body_of all tells octets are (Ok v, of) = told_of all octets v of (are v of) (tells v (are v of))
  body_of all tells octets are (Err refusal, refused) = (Err refusal, inl (refusal, refused, refl))

pub answer_of : AllAreRead → (kind : Kind) (octets : List ℕ) → IsOctets octets → HasAnswer (AnswerAs kind octets)
answer_of all kinds.Elements octets are = list_of all octets are (all.lists octets are)
answer_of all kinds.Action octets are = action_of all octets are (all.actions octets are)
answer_of all kinds.AssocAsk octets are =
    body_of AssocAsk LinkAsk ReadsAsk AsksAs (λ ask. ask.elements) (λ ask. codes " " ++ ask_text ask) asks_text all all.ask_profiles octets (λ ask of. in_ask ask octets of are) (all.asks octets are)
answer_of all kinds.AssocReply octets are =
    body_of AssocReply LinkState ReadsReply StatesOn (λ reply. reply.elements) (λ reply. codes " " ++ reply_text reply) states_text all all.states octets (λ reply of. in_reply reply octets of are) (all.replies octets are)
answer_of all kinds.Frame octets are = frame_of octets (all.frames octets are)

-- ---- lines

-- octets of a kind have an answer
abbrev pub AnswersMade : Type 0
AnswersMade = (kind : Kind) (octets : List ℕ) → IsOctets octets → HasAnswer (AnswerAs kind octets)

-- the octets of a hex line have an answer
line_of : AnswersMade → (line : List ℕ) (kind : Kind) (octets : List ℕ) → IsHexLine line kind octets → HasAnswer (AnswerAs kind octets)
line_of made line kind octets hex = made kind octets (hex_octets line kind octets hex)

abbrev ShownOrBad : List (List ℕ) → Type 0
ShownOrBad input = ((text : List ℕ) × ShownLines input text) ⊎ ((line : ℕ) × IsFirstBad input line)

line_shown : AnswersMade → (line : List ℕ) (input : List (List ℕ)) → IsRead line → ShownOrBad input → ShownOrBad (line ∷ input)
line_shown made line input (inr none) others = inr (1, inl (none, refl))
line_shown made line input (inl (kind, octets, hex)) (inr (number, bad)) = inr (suc number, inr (kind, octets, number, hex, bad, refl))
line_shown made line input (inl (kind, octets, hex)) (inl (rest, shown)) =
    let one = line_of made line kind octets hex in
    inl (answer_text one.0 ++ 10 ∷ rest, (answer_text one.0, rest, (kind, octets, hex, (one.0, one.1, refl)), shown, refl))

pub shown_or_bad : AnswersMade → (input : List (List ℕ)) → ShownOrBad input
shown_or_bad made [] = inl ([], refl)
shown_or_bad made (line ∷ input) = line_shown made line input (is_read line) (shown_or_bad made input)

abbrev JudgedOrBad : List (List ℕ) → Type 0
JudgedOrBad input = ((text : List ℕ) × (refused : Option ℕ) × VerdictLines input text refused) ⊎ ((line : ℕ) × IsFirstBad input line)

line_judged : AnswersMade → (line : List ℕ) (input : List (List ℕ)) → IsRead line → JudgedOrBad input → JudgedOrBad (line ∷ input)
line_judged made line input (inr none) others = inr (1, inl (none, refl))
line_judged made line input (inl (kind, octets, hex)) (inr (number, bad)) = inr (suc number, inr (kind, octets, number, hex, bad, refl))
line_judged made line input (inl (kind, octets, hex)) (inl (rest, later, judged)) =
    let one = line_of made line kind octets hex in
    let verdict = verdict_text (length octets) one.0 in
    inl (
      verdict ++ 10 ∷ rest,
      first_refused (is_accepted one.0) later,
      (is_accepted one.0, verdict, rest, later, (kind, octets, hex, (one.0, one.1, refl, refl)), judged, refl, refl),
    )

pub judged_or_bad : AnswersMade → (input : List (List ℕ)) → JudgedOrBad input
judged_or_bad made [] = inl ([], None, (refl, refl))
judged_or_bad made (line ∷ input) = line_judged made line input (is_read line) (judged_or_bad made input)
