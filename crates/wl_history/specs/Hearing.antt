-- Frames on the air: the octets that a booking is aired in, and what an end makes of octets that it
-- hears (IEEE Std 802.11, 10.25.6 and 12.5.2; IEEE Std 802.11be, 35.3).
use Rattle.std.specs.Prelude.{ℕ, ◌+◌, ◌*◌, ◌/◌, ◌%◌, slice_set, slice_index_or, ◌==◌, ◌&&◌, ◌||◌, if◌then◌else◌, not, Bool, true, false, List, [], ◌∷◌, Option, Some, None, Result, Ok, Err, ◌<◌, ◌^◌, bytes_eq}
use Rattle.wl_elem.specs.declared.fault.Refusal.{Refusal}
use Rattle.wl_elem.specs.declared.why.Why.TheVariants.{WrongAddress}
use Rattle.wl_elem.specs.declared.lane.EndId.{EndId}
use Rattle.wl_elem.specs.declared.lane.EndId.TheVariants.{Ap, Sta}
use Rattle.wl_elem.specs.declared.lane.Lane.{Lane}
use Rattle.wl_elem.specs.declared.lane.Lane.TheVariants as lanes
use Rattle.wl_elem.specs.Lanes.{peer_of, IsLane}
use Rattle.wl_frame.specs.declared.header.Kind.{Kind}
use Rattle.wl_frame.specs.declared.header.Kind.TheVariants.{Qos, Action, AssocAsk, AssocReply}
use Rattle.wl_frame.specs.declared.header.Header.{Header}
use Rattle.wl_frame.specs.declared.header.Protection.{Protection}
use Rattle.wl_frame.specs.Frame.{FrameValue, spelling, is_protected}
use Rattle.wl_frame.specs.Aad.{aad}
use Rattle.wl_frame.specs.Nonce.{nonce}
use Rattle.wl_frame.specs.Sealing.{Sealing}
use Rattle.wl_number.specs.declared.numbers.Numbers.{Numbers}
use Rattle.wl_replay.specs.Keys.{held}
use Rattle.wl_history.specs.declared.outcome.Outcome.{Outcome}
use Rattle.wl_history.specs.declared.outcome.Outcome.TheVariants as outcomes
use Rattle.wl_history.specs.declared.opened.Opened.{Opened}
use Rattle.wl_history.specs.declared.setup.Setup.{Setup}
use Rattle.wl_history.specs.declared.start.EndStart.{EndStart}
use Rattle.wl_history.specs.Ends.{mld_of, link_address, is_set_up, is_powered}
use Rattle.wl_history.specs.Words.{Airing, body_at}

abbrev pub is_sta : EndId → Bool
is_sta Ap = false
is_sta Sta = true

-- the kind of frame that carries a lane's bodies
abbrev pub kind_of : EndId → Lane → Kind
kind_of sender (lanes.Tid tid) = Qos (is_sta sender) tid 0
kind_of sender lanes.Management = Action

-- what a body of this sender is sealed under; the addresses are those of the MLDs, so that a retry
-- over another link is the same
abbrev pub sealed_under : EndStart → EndId → Lane → Numbers → List ℕ → Opened
sealed_under start sender lane n body = record {
  key = record { base = start.key; number = n.key };
  nonce = nonce (kind_of sender lane) (mld_of start sender) n.pn;
  aad = aad (kind_of sender lane) (mld_of start (peer_of sender)) (mld_of start sender) start.ap;
  body = body;
}

-- the text that a body is sealed to
abbrev pub text_of : Sealing → Opened → List ℕ
text_of text o = text o.key o.nonce o.aad o.body

-- the third address: the AP MLD's for data, the AP's on the link for management
abbrev pub third_address : EndStart → Lane → ℕ → List ℕ
third_address start (lanes.Tid tid) link = start.ap
third_address start lanes.Management link = link_address start link Ap

abbrev pub header_of : EndStart → EndId → Airing → Header
header_of start sender a = record {
  kind = kind_of sender a.lane;
  retry = a.retry;
  power = false;
  more = false;
  duration = 0;
  a1 = link_address start a.link (peer_of sender);
  a2 = link_address start a.link sender;
  a3 = third_address start a.lane a.link;
  number = a.numbers.pos % 4096;
}

abbrev pub frame_of : Sealing → EndStart → EndId → Airing → FrameValue
frame_of text start sender a = record {
  header = header_of start sender a;
  protection = Some (record { key_id = a.numbers.key % 2; pn = a.numbers.pn; spare = 0; bits = 0 });
  payload = text_of text (sealed_under start sender a.lane a.numbers a.body);
}

-- the octets on the air
abbrev pub octets_of : Sealing → EndStart → EndId → Airing → List ℕ
octets_of text start sender a = spelling (frame_of text start sender a)

-- A frame with another sequence number. It stands in the upper 12 of the 16 bits at octet 22 (IEEE Std 802.11,
-- 9.2.4.4); the lower ones are the fragment number.
abbrev pub with_number : ℕ → List ℕ → List ℕ
with_number number octets = slice_set (slice_set octets 22 (slice_index_or octets 22 0 % 16 + number % 16 * 16)) 23 (number / 16)

-- a frame of this sender, sealed as if it had these numbers: a position below 4,096 is its sequence number
abbrev pub forged : Sealing → EndStart → ℕ → Lane → Numbers → List ℕ → List ℕ
forged text sender link lane n body = octets_of text sender sender.end (record { link = link; lane = lane; numbers = n; retry = false; body = body })

-- a payload that a receiver tries to open
pub record Closed : Type 0 where
  pub lane : Lane
  pub number : ℕ
  pub key : ℕ
  pub pn : ℕ
  pub payload : List ℕ

-- its numbers are in their ranges
pub record IsClosed (c : Closed) : Type 0 where
  pub of_lane : IsLane c.lane
  pub number_fits : c.number < 4096
  pub pn_fits : c.pn < 2 ^ 48

-- what the tests before the opening leave
pub data Judged : Type 0 where
  Answered : (outcome : Outcome) → Judged
  ToOpen : (closed : Closed) → Judged

-- data that goes the way that the receiver itself sends
abbrev pub is_own_way : EndId → Kind → Bool
is_own_way Ap (Qos to_ap tid rest) = not to_ap
is_own_way Sta (Qos to_ap tid rest) = to_ap
is_own_way receiver other = false

abbrev pub with_key : Lane → FrameValue → Protection → Option ℕ → Judged
with_key lane f p None = Answered outcomes.NoKey
with_key lane f p (Some key) = ToOpen (record { lane = lane; number = f.header.number; key = key; pn = p.pn; payload = f.payload })

abbrev pub judged_protected : ℕ → Lane → FrameValue → Option Protection → Judged
judged_protected newest lane f None = Answered outcomes.Ignored
judged_protected newest lane f (Some p) = with_key lane f p (held newest p.key_id)

-- an association frame goes to the setup machine, which has no use for it in an association that stands
abbrev pub judged_kind : ℕ → FrameValue → Kind → Judged
judged_kind newest f (Qos to_ap tid rest) = judged_protected newest (lanes.Tid tid) f f.protection
judged_kind newest f Action = judged_protected newest lanes.Management f f.protection
judged_kind newest f AssocAsk = Answered outcomes.Ignored
judged_kind newest f AssocReply = Answered outcomes.Ignored

-- the radio is off on the link, or the frame is protected and the link isn't set up
abbrev pub is_down : Setup → ℕ → Kind → Bool
is_down setup link kind = not (is_powered setup link) || (is_protected kind && not (is_set_up setup link))

-- the tests of a frame at its receiver, in order
abbrev pub judged_frame : EndStart → Setup → EndId → ℕ → FrameValue → Judged
judged_frame start setup receiver link f =
    if is_down setup link f.header.kind then Answered outcomes.LinkDown
    else if not (bytes_eq f.header.a1 (link_address start link receiver)) then Answered (outcomes.BadFrame WrongAddress 4)
    else if not (bytes_eq f.header.a2 (link_address start link (peer_of receiver))) then Answered (outcomes.BadFrame WrongAddress 10)
    else if is_own_way receiver f.header.kind then Answered (outcomes.BadFrame WrongAddress 1)
    else judged_kind setup.keys f f.header.kind

-- octets that were read as a frame, or as none
abbrev pub judged : EndStart → Setup → EndId → ℕ → Result FrameValue Refusal → Judged
judged start setup receiver link (Ok f) = judged_frame start setup receiver link f
judged start setup receiver link (Err refusal) = Answered (outcomes.BadFrame refusal.why refusal.place)

-- what the receiver opens the payload under, where it opens to this body
abbrev pub opened_under : EndStart → EndId → Closed → List ℕ → Opened
opened_under start receiver c body = sealed_under start (peer_of receiver) c.lane (record { pos = 0; key = c.key; pn = c.pn }) body

-- The booking of the sender that a payload is of, found by its text.
abbrev pub is_of : Sealing → EndStart → EndId → Closed → List (List ℕ) → Numbers → Bool
is_of text start receiver c bodies n =
    n.key == c.key && (n.pn == c.pn && bytes_eq (text_of text (opened_under start receiver c (body_at bodies n.pos))) c.payload)

abbrev pub booking_of : Sealing → EndStart → EndId → Closed → List (List ℕ) → List Numbers → Option Numbers
booking_of text start receiver c bodies [] = None
booking_of text start receiver c bodies (n ∷ ns) = if is_of text start receiver c bodies n then Some n else booking_of text start receiver c bodies ns
