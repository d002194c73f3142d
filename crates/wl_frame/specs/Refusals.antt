-- Why octets aren't a frame that is taken: the first test of the table that holds.
use Rattle.std.specs.Prelude.{◌≡◌, ℕ, ◌+◌, ◌%◌, ◌==◌, nat_lt, nat_le, not, ◌&&◌, ◌||◌, if◌then◌else◌, Bool, List, [], ◌∷◌, length, slice_index, Option, Some, None, Result, Ok, Err}
use Rattle.wl_elem.specs.declared.fault.Refusal.{Refusal}
use Rattle.wl_elem.specs.declared.why.Why.{Why}
use Rattle.wl_elem.specs.declared.why.Why.TheVariants.{Short, Version, TypeLeftOut, FourAddress, NoDs, DsInManagement, Fragmented, NotProtected, ProtectedSetup, Order, TidLeftOut, Amsdu, NoExtIv}
use Rattle.wl_elem.specs.Answers.{refusal_at}
use Rattle.wl_elem.specs.Bits.{has_bit}
use Rattle.wl_frame.specs.Frame.{FrameValue, FrameOf}

-- a test, with the refusal of octets that it holds for
pub record Test : Type 0 where
  pub holds : Bool
  pub place : ℕ
  pub why : Why

abbrev pub test : Bool → ℕ → Why → Test
test holds place why = record { holds = holds; place = place; why = why }

-- what the first octet says, where the version is 0
abbrev pub is_data : ℕ → Bool
is_data first = first == 0x88

abbrev pub is_action : ℕ → Bool
is_action first = first == 0xd0

abbrev pub is_association : ℕ → Bool
is_association first = (first == 0x00) || (first == 0x10)

abbrev pub has_ccmp : ℕ → Bool
has_ccmp first = is_data first || is_action first

-- where the header ends: behind the sequence control, for data behind the QoS control
abbrev pub header_end : ℕ → ℕ
header_end first = if is_data first then 26 else 24

-- the tests in order, for octets whose first, flags, lowest of the sequence control and lowest of
-- the QoS control are these
abbrev pub tests_of : List ℕ → ℕ → ℕ → ℕ → ℕ → List Test
tests_of octets first flags sequence qos =
    test (nat_lt (length octets) 24) 0 Short
    ∷ test (not (first % 4 == 0)) 0 Version
    ∷ test (not (has_ccmp first || is_association first)) 0 TypeLeftOut
    ∷ test (is_data first && (has_bit flags 0x01 && has_bit flags 0x02)) 1 FourAddress
    ∷ test (is_data first && not (has_bit flags 0x01 || has_bit flags 0x02)) 1 NoDs
    ∷ test (not (is_data first) && (has_bit flags 0x01 || has_bit flags 0x02)) 1 DsInManagement
    ∷ test (has_bit flags 0x04) 1 Fragmented
    ∷ test (has_ccmp first && not (has_bit flags 0x40)) 1 NotProtected
    ∷ test (is_association first && has_bit flags 0x40) 1 ProtectedSetup
    ∷ test (has_bit flags 0x80) 1 Order
    ∷ test (not (sequence % 16 == 0)) 22 Fragmented
    ∷ test (is_data first && nat_lt (length octets) 26) 24 Short
    ∷ test (is_data first && nat_le 8 (qos % 16)) 24 TidLeftOut
    ∷ test (is_data first && has_bit qos 0x80) 24 Amsdu
    ∷ test (has_ccmp first && nat_lt (length octets) (header_end first + 8)) (header_end first) Short
    ∷ test (has_ccmp first && not (has_bit (slice_index octets (header_end first + 3)) 0x20)) (header_end first + 3) NoExtIv
    ∷ []

abbrev pub tests : List ℕ → List Test
tests octets = tests_of octets (slice_index octets 0) (slice_index octets 1) (slice_index octets 22) (slice_index octets 24)

-- the refusal of the first test that holds
abbrev pub first_holding : List Test → Option Refusal
first_holding [] = None
first_holding (t ∷ ts) = if t.holds then Some (refusal_at t.place t.why) else first_holding ts

unfoldable pub refusal_of : List ℕ → Option Refusal
refusal_of octets = first_holding (tests octets)

abbrev pub FrameRefused : List ℕ → Refusal → Type 0
FrameRefused octets refusal = refusal_of octets ≡ Some refusal

-- the octets read as a frame, or as refused
abbrev pub ReadAs : List ℕ → Result FrameValue Refusal → Type 0
ReadAs octets (Ok f) = FrameOf f octets
ReadAs octets (Err refusal) = FrameRefused octets refusal
