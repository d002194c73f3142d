-- What octets have that pass all tests.
use Rattle.std.proofs.Common.{◌≡◌, ℕ, ◌+◌, ◌%◌, Bool, true, false, eqb, List, length, get_or, None, refl, inl, inr}
use Rattle.std.specs.Prelude.{◌&&◌, ◌||◌, ◌⊎◌, ◌==◌, nat_lt, nat_le, not}
use Rattle.std.proofs.lemmas.Bool.{eqb-true, ltb-false, leb-false}
use Rattle.wl_elem.specs.Bits.{has_bit}
use Rattle.wl_frame.specs.Refusals.{is_data, is_association, has_ccmp, header_end, tests_of, first_holding, refusal_of}
use Rattle.wl_frame.specs.Reading.{IsWhole}
use Rattle.wl_frame.proofs.Table.{all_false}

-- No test holds. At a first octet that is known each says what it says of that kind.
pub record Passed (octets : List ℕ) (first flags sequence control : ℕ) : Type 0 where
  pub long : nat_lt (length octets) 24 ≡ false
  pub version : not (first % 4 == 0) ≡ false
  pub known : not (has_ccmp first || is_association first) ≡ false
  pub four : is_data first && (has_bit flags 0x01 && has_bit flags 0x02) ≡ false
  pub none : is_data first && not (has_bit flags 0x01 || has_bit flags 0x02) ≡ false
  pub directed : not (is_data first) && (has_bit flags 0x01 || has_bit flags 0x02) ≡ false
  pub fragments : has_bit flags 0x04 ≡ false
  pub protected : has_ccmp first && not (has_bit flags 0x40) ≡ false
  pub setup : is_association first && has_bit flags 0x40 ≡ false
  pub order : has_bit flags 0x80 ≡ false
  pub fragment : not (sequence % 16 == 0) ≡ false
  pub qos : is_data first && nat_lt (length octets) 26 ≡ false
  pub tid : is_data first && nat_le 8 (control % 16) ≡ false
  pub amsdu : is_data first && has_bit control 0x80 ≡ false
  pub sealed : has_ccmp first && nat_lt (length octets) (header_end first + 8) ≡ false
  pub extended : has_ccmp first && not (has_bit (get_or octets (header_end first + 3) 0) 0x20) ≡ false

pub is_passed : (octets : List ℕ) (first flags sequence control : ℕ) → first_holding (tests_of octets first flags sequence control) ≡ None → Passed octets first flags sequence control
is_passed octets first flags sequence control e =
    let all = all_false (tests_of octets first flags sequence control) e in
    let four = all.1.1.1 in
    let flagged = four.1.1.1 in
    let behind = flagged.1.1.1.1 in
    let sealed = behind.1.1.1.1 in
    record {
      long = all.0;
      version = all.1.0;
      known = all.1.1.0;
      four = four.0;
      none = four.1.0;
      directed = four.1.1.0;
      fragments = flagged.0;
      protected = flagged.1.0;
      setup = flagged.1.1.0;
      order = flagged.1.1.1.0;
      fragment = behind.0;
      qos = behind.1.0;
      tid = behind.1.1.0;
      amsdu = behind.1.1.1.0;
      sealed = sealed.0;
      extended = sealed.1.0;
    }

pub passed_none : (octets : List ℕ) (first flags sequence control : ℕ) → Passed octets first flags sequence control → first_holding (tests_of octets first flags sequence control) ≡ None
passed_none octets first flags sequence control p =
    rw (p.long, p.version, p.known, p.four, p.none, p.directed, p.fragments, p.protected, p.setup, p.order, p.fragment, p.qos, p.tid, p.amsdu, p.sealed, p.extended) refl

pub is_not : (b : Bool) → not b ≡ false → b ≡ true
is_not true e = refl
is_not false e = absurd (cc)

-- ---- the kinds

abbrev pub IsKnown : ℕ → Type 0
IsKnown first = (first ≡ 0x88) ⊎ ((first ≡ 0xd0) ⊎ ((first ≡ 0x00) ⊎ (first ≡ 0x10)))

known_of : (first : ℕ) (a b c d : Bool) → eqb first 0x88 ≡ a → eqb first 0xd0 ≡ b → eqb first 0x00 ≡ c → eqb first 0x10 ≡ d → not ((a || b) || (c || d)) ≡ false → IsKnown first
known_of first true b c d ea eb ec ed e = inl (eqb-true _ _ ea)
known_of first false true c d ea eb ec ed e = inr (inl (eqb-true _ _ eb))
known_of first false false true d ea eb ec ed e = inr (inr (inl (eqb-true _ _ ec)))
known_of first false false false true ea eb ec ed e = inr (inr (inr (eqb-true _ _ ed)))
known_of first false false false false ea eb ec ed e = absurd (cc)

pub is_known : (first : ℕ) → not (has_ccmp first || is_association first) ≡ false → IsKnown first
is_known first e = known_of first _ _ _ _ refl refl refl refl e

-- the tests of octets with this first octet
pub passed_at : (octets : List ℕ) (first : ℕ) → get_or octets 0 0 ≡ first → refusal_of octets ≡ None → Passed octets first (get_or octets 1 0) (get_or octets 22 0) (get_or octets 24 0)
unfolding refusal_of
passed_at octets first same e = is_passed octets first (get_or octets 1 0) (get_or octets 22 0) (get_or octets 24 0) (rw same at e)

other : (b c : Bool) → b && c ≡ false → b ≡ true → c ≡ false
other true c e h = e
other false c e h = absurd (cc)

pub is_whole : (octets : List ℕ) → refusal_of octets ≡ None → IsWhole octets
is_whole octets e =
    let p = passed_at octets (get_or octets 0 0) refl e in
    record { long = ltb-false _ _ p.long; qos = λ h. ltb-false _ _ (other _ _ p.qos h); tid = λ h. leb-false _ _ (other _ _ p.tid h); ccmp = λ h. ltb-false _ _ (other _ _ p.sealed h) }
