-- For private contracts alone, but for `value`: the tests in groups, the fields at their places, and
-- what a protection and the fields take.
use Rattle.std.specs.Prelude.{◌≡◌, ◌<◌, ◌≤◌, ℕ, ◌+◌, ◌*◌, ◌/◌, ◌%◌, ◌==◌, nat_lt, nat_le, not, ◌&&◌, ◌||◌, if◌then◌else◌, Bool, true, false, is_some, List, [], ◌∷◌, ◌++◌, length, drop, slice_index, Option, Some, None, Result, Ok, Err, IfSome}
use Rattle.wl_elem.specs.declared.fault.Refusal.{Refusal}
use Rattle.wl_elem.specs.declared.why.Why.TheVariants.{Short, Version, TypeLeftOut, FourAddress, NoDs, DsInManagement, Fragmented, NotProtected, ProtectedSetup, Order, TidLeftOut, Amsdu, NoExtIv}
use Rattle.wl_elem.specs.Bits.{has_bit}
use Rattle.wl_elem.specs.Fields.{word_at, address_at}
use Rattle.wl_frame.specs.declared.header.Kind.{Kind}
use Rattle.wl_frame.specs.declared.header.Kind.TheVariants.{Qos, Action, AssocAsk, AssocReply}
use Rattle.wl_frame.specs.declared.header.Header.{Header}
use Rattle.wl_frame.specs.declared.header.Protection.{Protection}
use Rattle.wl_frame.specs.declared.header.Frame.{Frame}
use Rattle.wl_frame.specs.Frame.{FrameValue, is_protected, IsProtection}
use Rattle.wl_frame.specs.Refusals.{Test, test, is_data, is_association, has_ccmp, header_end, refusal_of}

-- the frame with its payload at its value
abbrev pub value : Frame → FrameValue
value f = record { header = f.header; protection = f.protection; payload = f.payload.now }

abbrev pub answer : Result Frame Refusal → Result FrameValue Refusal
answer (Ok f) = Ok (value f)
answer (Err refusal) = Err refusal

-- the refusal of what didn't pass a group of tests
abbrev pub refusal_in : {X : Type 0} → Result X Refusal → Option Refusal
refusal_in (Ok x) = None
refusal_in (Err refusal) = Some refusal

-- ---- the tests in groups

abbrev pub type_tests : ℕ → List Test
type_tests first =
    test (not (first % 4 == 0)) 0 Version
    ∷ test (not (has_ccmp first || is_association first)) 0 TypeLeftOut
    ∷ []

abbrev pub direction_tests : Bool → Bool → Bool → List Test
direction_tests qos to_ds from_ds =
    test (qos && (to_ds && from_ds)) 1 FourAddress
    ∷ test (qos && not (to_ds || from_ds)) 1 NoDs
    ∷ test (not qos && (to_ds || from_ds)) 1 DsInManagement
    ∷ []

abbrev pub flag_tests : Bool → Bool → ℕ → List Test
flag_tests ccmp association flags =
    test (has_bit flags 0x04) 1 Fragmented
    ∷ test (ccmp && not (has_bit flags 0x40)) 1 NotProtected
    ∷ test (association && has_bit flags 0x40) 1 ProtectedSetup
    ∷ test (has_bit flags 0x80) 1 Order
    ∷ []

abbrev pub qos_tests : Bool → List ℕ → List Test
qos_tests qos octets =
    test (qos && nat_lt (length octets) 26) 24 Short
    ∷ test (qos && nat_le 8 (slice_index octets 24 % 16)) 24 TidLeftOut
    ∷ test (qos && has_bit (slice_index octets 24) 0x80) 24 Amsdu
    ∷ []

abbrev pub ccmp_tests : Bool → List ℕ → ℕ → List Test
ccmp_tests ccmp octets end =
    test (ccmp && nat_lt (length octets) (end + 8)) end Short
    ∷ test (ccmp && not (has_bit (slice_index octets (end + 3)) 0x20)) (end + 3) NoExtIv
    ∷ []

abbrev pub control_tests : ℕ → ℕ → List Test
control_tests first flags = type_tests first ++ (direction_tests (is_data first) (has_bit flags 0x01) (has_bit flags 0x02) ++ flag_tests (has_ccmp first) (is_association first) flags)

-- ---- the fields

abbrev pub kind_at : List ℕ → Kind
kind_at octets =
    if is_data (slice_index octets 0) then Qos (has_bit (slice_index octets 1) 0x01) (slice_index octets 24 % 16) (word_at octets 24 / 16 * 16)
    else if slice_index octets 0 == 0xd0 then Action
    else if slice_index octets 0 == 0x00 then AssocAsk
    else AssocReply

abbrev pub header_at : List ℕ → Header
header_at octets = record {
  kind = kind_at octets;
  retry = has_bit (slice_index octets 1) 0x08;
  power = has_bit (slice_index octets 1) 0x10;
  more = has_bit (slice_index octets 1) 0x20;
  duration = word_at octets 2;
  a1 = address_at octets 4;
  a2 = address_at octets 10;
  a3 = address_at octets 16;
  number = word_at octets 22 / 16;
}

-- the CCMP header at this place
abbrev pub ccmp_at : List ℕ → ℕ → Protection
ccmp_at octets place = record {
  key_id = slice_index octets (place + 3) / 64;
  pn = word_at octets place + 65536 * (word_at octets (place + 4) + 65536 * word_at octets (place + 6));
  spare = slice_index octets (place + 2);
  bits = slice_index octets (place + 3) % 32;
}

abbrev pub protection_at : Bool → List ℕ → ℕ → Option Protection
protection_at true octets place = Some (ccmp_at octets place)
protection_at false octets place = None

abbrev pub payload_start : ℕ → ℕ
payload_start first = if has_ccmp first then header_end first + 8 else header_end first

abbrev pub frame_at : List ℕ → FrameValue
frame_at octets = record {
  header = header_at octets;
  protection = protection_at (has_ccmp (slice_index octets 0)) octets (header_end (slice_index octets 0));
  payload = drop (payload_start (slice_index octets 0)) octets;
}

abbrev pub read : Option Refusal → List ℕ → Result FrameValue Refusal
read (Some refusal) octets = Err refusal
read None octets = Ok (frame_at octets)

-- what is read of octets
unfoldable pub reading : List ℕ → Result FrameValue Refusal
reading octets = read (refusal_of octets) octets

-- each field that the first octet tells of is whole, and the TID is one of data
pub record IsWhole (octets : List ℕ) : Type 0 where
  pub long : 24 ≤ length octets
  pub qos : is_data (slice_index octets 0) ≡ true → 26 ≤ length octets
  pub tid : is_data (slice_index octets 0) ≡ true → slice_index octets 24 % 16 < 8
  pub ccmp : has_ccmp (slice_index octets 0) ≡ true → header_end (slice_index octets 0) + 8 ≤ length octets

-- ---- the tests of a frame

-- the header, and the CCMP header where there is one
abbrev pub fields_len : Kind → ℕ
fields_len (Qos to_ap tid rest) = 34
fields_len Action = 32
fields_len AssocAsk = 24
fields_len AssocReply = 24

-- the protection of a frame of this kind
pub record Protects (kind : Kind) (protection : Option Protection) : Type 0 where
  pub there : is_some protection ≡ is_protected kind
  pub fits : IfSome protection IsProtection
