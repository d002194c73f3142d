-- MAC frames (IEEE Std 802.11, 9.2 and 9.3; IEEE Std 802.11be, 9.2).
--
-- | field            | there           | octets                                              |
-- |------------------|-----------------|-----------------------------------------------------|
-- | first octet      | always          | 1: version B0 B1, type B2 B3, subtype B4 to B7       |
-- | flags            | always          | 1: ToDS 0x01, FromDS 0x02, more fragments 0x04, retry 0x08, power management 0x10, more data 0x20, protected 0x40, order 0x80 |
-- | duration         | always          | 2                                                   |
-- | A1, A2, A3       | always          | 6 each                                              |
-- | sequence control | always          | 2: fragment number B0 to B3, sequence number B4 to B15 |
-- | QoS control      | data            | 2: TID B0 to B3, A-MSDU B7, the other bits kept     |
-- | CCMP header      | data and Action | 8: PN0, PN1, reserved, key octet, PN2 to PN5 (12.5.2.2) |
-- | payload          | always          | the rest                                            |
--
-- First octets: 0x88 QoS Data, 0xd0 Action, 0x00 Association Request, 0x10 Association Response.
-- Key octet: reserved B0 to B4, extended IV B5, key ID B6 and B7. Numbers have their lowest octet
-- first.
use Rattle.std.specs.Prelude.{◌≡◌, ℕ, ◌+◌, ◌*◌, ◌/◌, ◌%◌, ◌<◌, ◌≤◌, ◌^◌, Bool, true, false, is_some, List, [], ◌∷◌, ◌++◌, length, Option, Some, None, IfSome}
use Rattle.wl_elem.specs.Bits.{bit}
use Rattle.wl_elem.specs.Element.{body_limit}
use Rattle.wl_elem.specs.Octets.{octets_of}
use Rattle.wl_frame.specs.declared.header.Kind.{Kind}
use Rattle.wl_frame.specs.declared.header.Kind.TheVariants.{Qos, Action, AssocAsk, AssocReply}
use Rattle.wl_frame.specs.declared.header.Header.{Header}
use Rattle.wl_frame.specs.declared.header.Protection.{Protection}

pub record FrameValue : Type 0 where
  pub header : Header
  pub protection : Option Protection
  pub payload : List ℕ

abbrev pub frame_value : Header → Option Protection → List ℕ → FrameValue
frame_value header protection payload = record { header = header; protection = protection; payload = payload }

-- data and Action frames are protected, association frames aren't
abbrev pub is_protected : Kind → Bool
is_protected (Qos to_ap tid rest) = true
is_protected Action = true
is_protected AssocAsk = false
is_protected AssocReply = false

abbrev pub first_octet : Kind → ℕ
first_octet (Qos to_ap tid rest) = 0x88
first_octet Action = 0xd0
first_octet AssocAsk = 0x00
first_octet AssocReply = 0x10

-- ToDS and FromDS: data has one of them, management none
abbrev pub direction_bits : Kind → ℕ
direction_bits (Qos true tid rest) = 0x01
direction_bits (Qos false tid rest) = 0x02
direction_bits Action = 0
direction_bits AssocAsk = 0
direction_bits AssocReply = 0

abbrev pub flags : Header → ℕ
flags h = direction_bits h.kind + 0x08 * bit h.retry + 0x10 * bit h.power + 0x20 * bit h.more + 0x40 * bit (is_protected h.kind)

abbrev pub qos_control : Kind → List ℕ
qos_control (Qos to_ap tid rest) = octets_of 2 (tid + rest)
qos_control Action = []
qos_control AssocAsk = []
qos_control AssocReply = []

-- PN0 and PN1, the reserved octet, the key octet, PN2 to PN5
abbrev pub ccmp_header : Option Protection → List ℕ
ccmp_header None = []
ccmp_header (Some p) = octets_of 2 p.pn ++ (p.spare ∷ (p.bits + 0x20 + 0x40 * p.key_id) ∷ octets_of 4 (p.pn / 2 ^ 16))

-- the fields up to the sequence control
abbrev pub header_text : Header → List ℕ
header_text h = first_octet h.kind ∷ flags h ∷ (octets_of 2 h.duration ++ (h.a1 ++ (h.a2 ++ (h.a3 ++ octets_of 2 (16 * h.number)))))

-- the octets that the frame is written in
abbrev pub spelling : FrameValue → List ℕ
spelling f = header_text f.header ++ (qos_control f.header.kind ++ (ccmp_header f.protection ++ f.payload))

-- the fields of the QoS control: its TID is one of data, and the kept bits are others than those of
-- the TID and the A-MSDU bit
pub record IsQos (tid rest : ℕ) : Type 0 where
  pub tid_fits : tid < 8
  pub rest_fits : rest < 65536
  pub no_tid : rest % 16 ≡ 0
  pub no_amsdu : rest / 128 % 2 ≡ 0

abbrev pub IsKind : Kind → Type 0
IsKind (Qos to_ap tid rest) = IsQos tid rest
IsKind Action = Unit {0}
IsKind AssocAsk = Unit {0}
IsKind AssocReply = Unit {0}

pub record IsProtection (p : Protection) : Type 0 where
  pub key_id : p.key_id < 4
  pub pn : p.pn < 2 ^ 48
  pub spare : p.spare < 256
  pub bits : p.bits < 32

pub record IsHeader (h : Header) : Type 0 where
  pub kind : IsKind h.kind
  pub duration : h.duration < 65536
  pub a1 : length h.a1 ≡ 6
  pub a2 : length h.a2 ≡ 6
  pub a3 : length h.a3 ≡ 6
  pub number : h.number < 4096

-- what has a spelling
pub record IsFrame (f : FrameValue) : Type 0 where
  pub header : IsHeader f.header
  pub protected : is_some f.protection ≡ is_protected f.header.kind
  pub protection : IfSome f.protection IsProtection

-- the octets are this frame's
pub record FrameOf (f : FrameValue) (octets : List ℕ) : Type 0 where
  pub is_frame : IsFrame f
  pub text : octets ≡ spelling f

-- some octets, at most 16,777,216, are this frame's
abbrev pub IsWritable : FrameValue → Type 0
IsWritable f = (octets : List ℕ) × (length octets ≤ body_limit) × FrameOf f octets
