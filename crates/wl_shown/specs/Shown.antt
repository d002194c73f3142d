-- The shown line of some octets.
use Rattle.std.specs.Prelude.{◌≡◌, ℕ, suc, ◌⊎◌, List, [], ◌∷◌, ◌++◌, Some, Result, Ok, Err, codes, if◌then◌else◌, Option, None}
use Rattle.wl_elem.specs.declared.fault.Refusal.{Refusal}
use Rattle.wl_elem.specs.declared.fault.Fault.{Fault}
use Rattle.wl_elem.specs.declared.fault.Fault.TheVariants as faults
use Rattle.wl_elem.specs.Element.{ElementValue}
use Rattle.wl_elem.specs.declared.known.Known.{Known}
use Rattle.wl_elem.specs.declared.known.Known.TheVariants as knowns
use Rattle.wl_elem.specs.Answers.{in_element}
use Rattle.wl_elem.specs.Identity.{known_as}
use Rattle.wl_elem.specs.ElementList.{Elems, ElemsRefused}
use Rattle.wl_action.specs.declared.known.KnownValue.{KnownValue}
use Rattle.wl_action.specs.declared.known.KnownValue.TheVariants as values
use Rattle.wl_action.specs.Known.{KnownOf, KnownRefused}
use Rattle.wl_action.specs.declared.action.Action.{Action}
use Rattle.wl_action.specs.Action as actions
use Rattle.wl_action.specs.Action.{elements_of}
use Rattle.wl_assoc.specs.declared.association.AssocAsk.{AssocAsk}
use Rattle.wl_assoc.specs.declared.association.AssocReply.{AssocReply}
use Rattle.wl_assoc.specs.declared.links.LinkAsk.{LinkAsk}
use Rattle.wl_assoc.specs.declared.links.LinkState.{LinkState}
use Rattle.wl_assoc.specs.Association.{ReadsAsk, ReadsReply}
use Rattle.wl_assoc.specs.Profiles.{is_basic, AsksAs, StatesAs}
use Rattle.wl_frame.specs.Frame.{FrameValue}
use Rattle.wl_frame.specs.Refusals as frames
use Rattle.wl_shown.specs.declared.item.ShownElements.{ShownElements}
use Rattle.wl_shown.specs.declared.item.ShownElements.TheVariants.{All, Only, Basic, Nothing}
use Rattle.wl_shown.specs.declared.line.Kind.{Kind}
use Rattle.wl_shown.specs.declared.line.Kind.TheVariants as kinds
use Rattle.wl_shown.specs.ActionText.{action_text, decoded_in}
use Rattle.wl_shown.specs.AssocText.{ask_text, asks_text, reply_text, states_text}
use Rattle.wl_shown.specs.FrameText.{frame_text}
use Rattle.wl_shown.specs.MlText.{ml_text}
use Rattle.wl_shown.specs.Text.{refused_text, element_text}
use Rattle.wl_shown.specs.TtlmText.{ttlm_text}

-- what is shown, or the refusal
abbrev pub Answer : Type 0
Answer = Result (List ℕ) Refusal

-- what is shown for the value of an element that is shown
abbrev pub known_text : KnownValue → List ℕ
known_text (values.Mapping t) = ttlm_text t
known_text (values.MultiLink m) = ml_text m

-- the body of such an element, as its value, or the refusal
abbrev pub KnownAs : Known → List ℕ → Answer → Type 0
KnownAs known body (Ok text) = (value : KnownValue) × KnownOf known value body × (text ≡ known_text value)
KnownAs known body (Err refusal) = KnownRefused known body refusal

-- found, where it is this one
abbrev pub only : Known → Option Known → Option Known
only knowns.TidToLinkMapping (Some knowns.TidToLinkMapping) = Some knowns.TidToLinkMapping
only knowns.MultiLink (Some knowns.MultiLink) = Some knowns.MultiLink
only _ _ = None

-- which elements of a list are shown as their values, and as which
abbrev pub shown_as : ShownElements → ElementValue → Option Known
shown_as All e = known_as e
shown_as (Only known) e = only known (known_as e)
shown_as Basic e = if is_basic e then Some knowns.MultiLink else None
shown_as Nothing e = None

abbrev pub ItemBy : Option Known → ElementValue → Answer → Type 0
ItemBy (Some known) e answer = KnownAs known e.body answer
ItemBy None e answer = answer ≡ Ok (element_text e)

-- an element alone: as its value, or as octets
abbrev pub ItemAs : ShownElements → ElementValue → Answer → Type 0
ItemAs shown e answer = ItemBy (shown_as shown e) e answer

-- a text before what is shown
abbrev pub behind : List ℕ → Answer → Answer
behind text (Ok more) = Ok (text ++ more)
behind text (Err refusal) = Err refusal

-- The elements in order, the first of this index: each behind a space, or the refusal of the first
-- that has one.
abbrev pub ItemsAs : ShownElements → ℕ → List ElementValue → Answer → Type 0
ItemsAs shown i [] answer = answer ≡ Ok []
ItemsAs shown i (e ∷ list) answer =
    ((refusal : Refusal) × ItemAs shown e (Err refusal) × (answer ≡ Err (in_element i refusal)))
    ⊎ ((text : List ℕ) × (others : Answer) × ItemAs shown e (Ok text) × ItemsAs shown (suc i) list others × (answer ≡ behind (32 ∷ text) others))

-- the octets as a list of elements, or the refusal of the list or of an element of it
abbrev pub ListAs : List ℕ → Answer → Type 0
ListAs octets answer =
    ((list : List ElementValue) × Elems list octets × ItemsAs All 0 list answer)
    ⊎ ((refusal : Refusal) × ElemsRefused octets refusal × (answer ≡ Err refusal))

-- texts before and behind what is shown
abbrev pub between : List ℕ → Answer → List ℕ → Answer
between front (Ok items) back = Ok (front ++ items ++ back)
between front (Err refusal) back = Err refusal

-- The octets as an action body: its fields and its elements, or the refusal.
abbrev pub ActionAs : List ℕ → Answer → Type 0
ActionAs octets answer =
    ((refusal : Refusal) × actions.ReadAs octets (Err refusal) × (answer ≡ Err refusal))
    ⊎ ((action : Action) × (items : Answer) × actions.ReadAs octets (Ok action) × ItemsAs (decoded_in action) 0 (elements_of action) items
    × (answer ≡ behind (codes " " ++ action_text action) items))

-- The octets as the body of an association request: its fields, its elements with the Basic Multi-Link
-- element as its value, and what it asks for on each link; or the refusal of the body, or of a profile.
abbrev pub AskAs : List ℕ → Answer → Type 0
AskAs octets answer =
    ((refusal : Refusal) × ReadsAsk octets (Err refusal) × (answer ≡ Err refusal))
    ⊎ (((ask : AssocAsk) × (refusal : Refusal) × ReadsAsk octets (Ok ask) × AsksAs ask (Err refusal) × (answer ≡ Err refusal))
    ⊎ ((ask : AssocAsk) × (asks : List LinkAsk) × (items : Answer) × ReadsAsk octets (Ok ask) × AsksAs ask (Ok asks) × ItemsAs Basic 0 ask.elements items
    × (answer ≡ between (codes " " ++ ask_text ask) items (asks_text asks))))

-- the octets as the body of an association response, in the same way; which link carries it isn't shown
abbrev pub ReplyAs : List ℕ → Answer → Type 0
ReplyAs octets answer =
    ((refusal : Refusal) × ReadsReply octets (Err refusal) × (answer ≡ Err refusal))
    ⊎ (((reply : AssocReply) × (refusal : Refusal) × ReadsReply octets (Ok reply) × StatesAs reply 0 (Err refusal) × (answer ≡ Err refusal))
    ⊎ ((reply : AssocReply) × (states : List LinkState) × (items : Answer) × ReadsReply octets (Ok reply) × StatesAs reply 0 (Ok states) × ItemsAs Basic 0 reply.elements items
    × (answer ≡ between (codes " " ++ reply_text reply) items (states_text states))))

-- the octets as a frame
abbrev pub FrameAs : List ℕ → Answer → Type 0
FrameAs octets (Ok text) = (f : FrameValue) × frames.ReadAs octets (Ok f) × (text ≡ codes " " ++ frame_text f)
FrameAs octets (Err refusal) = frames.ReadAs octets (Err refusal)

-- what the octets of this kind are read as
abbrev pub AnswerAs : Kind → List ℕ → Answer → Type 0
AnswerAs kinds.Elements octets answer = ListAs octets answer
AnswerAs kinds.Action octets answer = ActionAs octets answer
AnswerAs kinds.AssocAsk octets answer = AskAs octets answer
AnswerAs kinds.AssocReply octets answer = ReplyAs octets answer
AnswerAs kinds.Frame octets answer = FrameAs octets answer

abbrev pub answer_text : Answer → List ℕ
answer_text (Ok items) = codes "ok" ++ items
answer_text (Err refusal) = refused_text refusal

-- the line shown for octets of this kind
abbrev pub Shown : Kind → List ℕ → List ℕ → Type 0
Shown kind octets line = (answer : Answer) × AnswerAs kind octets answer × (line ≡ answer_text answer)

-- new is old and a text behind it that is such an answer
abbrev pub AddsText : (Answer → Type 0) → List ℕ → List ℕ → Type 0
AddsText IsAnswer old new = (text : List ℕ) × IsAnswer (Ok text) × (new ≡ old ++ text)

-- a fault whose refusal is such an answer
abbrev pub IsFaultOf : (Answer → Type 0) → Fault → Type 0
IsFaultOf IsAnswer (faults.Refused refusal) = IsAnswer (Err refusal)
IsFaultOf IsAnswer faults.Memory = Unit {0}

-- new is old and a shown line behind it
abbrev pub AddsShown : Kind → List ℕ → List ℕ → List ℕ → Type 0
AddsShown kind octets old new = (line : List ℕ) × Shown kind octets line × (new ≡ old ++ line)
