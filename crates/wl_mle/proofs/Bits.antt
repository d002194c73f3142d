-- The bits of control words.
use Rattle.std.proofs.Common.{◌≡◌, ℕ, ◌+◌, ◌*◌, ◌/◌, ◌%◌, ◌<◌, Bool, arith}
use Rattle.wl_mle.specs.Layout.{basic_spare, reconf_spare}
use Rattle.wl_elem.specs.Bits.{bit, has_bit}
use Rattle.wl_elem.proofs.Numbers.{bit_of, test_of, bit_small}

-- a bit of a word is 0 or 1
pub bit_is : (word weight : ℕ) → bit (has_bit word weight) ≡ word / weight % 2
bit_is word weight = bit_of (word / weight % 2) (omega arith)

-- ---- Basic: bits B4 to B10, and the spare ones

abbrev pub basic_word : ℕ → Bool → Bool → Bool → Bool → Bool → Bool → Bool → ℕ
basic_word spare a b c d e f g = spare + 0x10 * bit a + 0x20 * bit b + 0x40 * bit c + 0x80 * bit d + 0x100 * bit e + 0x200 * bit f + 0x400 * bit g

pub record IsBasicWord (word spare : ℕ) (a b c d e f g : Bool) : Type 0 where
  pub kind : word % 8 ≡ 0
  pub below : word < 65536
  pub spared : basic_spare word ≡ spare
  pub b4 : has_bit word 0x10 ≡ a
  pub b5 : has_bit word 0x20 ≡ b
  pub b6 : has_bit word 0x40 ≡ c
  pub b7 : has_bit word 0x80 ≡ d
  pub b8 : has_bit word 0x100 ≡ e
  pub b9 : has_bit word 0x200 ≡ f
  pub b10 : has_bit word 0x400 ≡ g

pub basic_bits : (spare : ℕ) (a b c d e f g : Bool) → spare < 65536 → basic_spare spare ≡ spare → IsBasicWord (basic_word spare a b c d e f g) spare a b c d e f g
basic_bits spare a b c d e f g lt same =
    let ka = bit_small a in
    let kb = bit_small b in
    let kc = bit_small c in
    let kd = bit_small d in
    let ke = bit_small e in
    let kf = bit_small f in
    let kg = bit_small g in
    record {
      kind = omega arith;
      below = omega arith;
      spared = omega arith;
      b4 = test_of _ a (omega arith);
      b5 = test_of _ b (omega arith);
      b6 = test_of _ c (omega arith);
      b7 = test_of _ d (omega arith);
      b8 = test_of _ e (omega arith);
      b9 = test_of _ f (omega arith);
      b10 = test_of _ g (omega arith);
    }

-- a word of type 0 is made of its bits
pub basic_made : (word : ℕ) → word % 8 ≡ 0
    → basic_word (basic_spare word) (has_bit word 0x10) (has_bit word 0x20) (has_bit word 0x40) (has_bit word 0x80) (has_bit word 0x100) (has_bit word 0x200) (has_bit word 0x400) ≡ word
basic_made word kind =
    rw (bit_is word 0x10, bit_is word 0x20, bit_is word 0x40, bit_is word 0x80, bit_is word 0x100, bit_is word 0x200, bit_is word 0x400) (omega (arith, kind))

-- ---- Reconfiguration: bits B4 to B7, and the spare ones

abbrev pub reconf_word : ℕ → Bool → Bool → Bool → Bool → ℕ
reconf_word spare a b c d = 2 + spare + 0x10 * bit a + 0x20 * bit b + 0x40 * bit c + 0x80 * bit d

pub record IsReconfWord (word spare : ℕ) (a b c d : Bool) : Type 0 where
  pub kind : word % 8 ≡ 2
  pub below : word < 65536
  pub spared : reconf_spare word ≡ spare
  pub b4 : has_bit word 0x10 ≡ a
  pub b5 : has_bit word 0x20 ≡ b
  pub b6 : has_bit word 0x40 ≡ c
  pub b7 : has_bit word 0x80 ≡ d

pub reconf_bits : (spare : ℕ) (a b c d : Bool) → spare < 65536 → reconf_spare spare ≡ spare → IsReconfWord (reconf_word spare a b c d) spare a b c d
reconf_bits spare a b c d lt same =
    let ka = bit_small a in
    let kb = bit_small b in
    let kc = bit_small c in
    let kd = bit_small d in
    record {
      kind = omega arith;
      below = omega arith;
      spared = omega arith;
      b4 = test_of _ a (omega arith);
      b5 = test_of _ b (omega arith);
      b6 = test_of _ c (omega arith);
      b7 = test_of _ d (omega arith);
    }

pub reconf_made : (word : ℕ) → word % 8 ≡ 2 → reconf_word (reconf_spare word) (has_bit word 0x10) (has_bit word 0x20) (has_bit word 0x40) (has_bit word 0x80) ≡ word
reconf_made word kind = rw (bit_is word 0x10, bit_is word 0x20, bit_is word 0x40, bit_is word 0x80) (omega (arith, kind))

-- ---- a Basic profile: link ID, bits B4 to B11, spare

abbrev pub profile_word : ℕ → Bool → Bool → Bool → Bool → Bool → Bool → Bool → Bool → ℕ → ℕ
profile_word link a b c d e f g h spare = link + 0x10 * bit a + 0x20 * bit b + 0x40 * bit c + 0x80 * bit d + 0x100 * bit e + 0x200 * bit f + 0x400 * bit g + 0x800 * bit h + 0x1000 * spare

pub record IsProfileWord (word link : ℕ) (a b c d e f g h : Bool) (spare : ℕ) : Type 0 where
  pub linked : word % 16 ≡ link
  pub below : word < 65536
  pub spared : word / 0x1000 ≡ spare
  pub b4 : has_bit word 0x10 ≡ a
  pub b5 : has_bit word 0x20 ≡ b
  pub b6 : has_bit word 0x40 ≡ c
  pub b7 : has_bit word 0x80 ≡ d
  pub b8 : has_bit word 0x100 ≡ e
  pub b9 : has_bit word 0x200 ≡ f
  pub b10 : has_bit word 0x400 ≡ g
  pub b11 : has_bit word 0x800 ≡ h

pub profile_bits : (link : ℕ) (a b c d e f g h : Bool) (spare : ℕ) → link < 16 → spare < 16 → IsProfileWord (profile_word link a b c d e f g h spare) link a b c d e f g h spare
profile_bits link a b c d e f g h spare lt less =
    let ka = bit_small a in
    let kb = bit_small b in
    let kc = bit_small c in
    let kd = bit_small d in
    let ke = bit_small e in
    let kf = bit_small f in
    let kg = bit_small g in
    let kh = bit_small h in
    record {
      linked = omega arith;
      below = omega arith;
      spared = omega arith;
      b4 = test_of _ a (omega arith);
      b5 = test_of _ b (omega arith);
      b6 = test_of _ c (omega arith);
      b7 = test_of _ d (omega arith);
      b8 = test_of _ e (omega arith);
      b9 = test_of _ f (omega arith);
      b10 = test_of _ g (omega arith);
      b11 = test_of _ h (omega arith);
    }

pub profile_made : (word : ℕ)
    → profile_word (word % 16) (has_bit word 0x10) (has_bit word 0x20) (has_bit word 0x40) (has_bit word 0x80) (has_bit word 0x100) (has_bit word 0x200) (has_bit word 0x400) (has_bit word 0x800) (word / 0x1000) ≡ word
profile_made word =
    rw (bit_is word 0x10, bit_is word 0x20, bit_is word 0x40, bit_is word 0x80, bit_is word 0x100, bit_is word 0x200, bit_is word 0x400, bit_is word 0x800) (omega arith)

-- ---- a Reconfiguration profile: link ID, bits B4 to B6, operation, B11, spare

abbrev pub change_word : ℕ → Bool → Bool → Bool → ℕ → Bool → ℕ → ℕ
change_word link a b c op h spare = link + 0x10 * bit a + 0x20 * bit b + 0x40 * bit c + 0x80 * op + 0x800 * bit h + 0x1000 * spare

pub record IsChangeWord (word link : ℕ) (a b c : Bool) (op : ℕ) (h : Bool) (spare : ℕ) : Type 0 where
  pub linked : word % 16 ≡ link
  pub below : word < 65536
  pub spared : word / 0x1000 ≡ spare
  pub operation : word / 0x80 % 16 ≡ op
  pub b4 : has_bit word 0x10 ≡ a
  pub b5 : has_bit word 0x20 ≡ b
  pub b6 : has_bit word 0x40 ≡ c
  pub b11 : has_bit word 0x800 ≡ h

pub change_bits : (link : ℕ) (a b c : Bool) (op : ℕ) (h : Bool) (spare : ℕ) → link < 16 → op < 16 → spare < 16 → IsChangeWord (change_word link a b c op h spare) link a b c op h spare
change_bits link a b c op h spare lt fits less =
    let ka = bit_small a in
    let kb = bit_small b in
    let kc = bit_small c in
    let kh = bit_small h in
    record {
      linked = omega arith;
      below = omega arith;
      spared = omega arith;
      operation = omega arith;
      b4 = test_of _ a (omega arith);
      b5 = test_of _ b (omega arith);
      b6 = test_of _ c (omega arith);
      b11 = test_of _ h (omega arith);
    }

pub change_made : (word : ℕ) → change_word (word % 16) (has_bit word 0x10) (has_bit word 0x20) (has_bit word 0x40) (word / 0x80 % 16) (has_bit word 0x800) (word / 0x1000) ≡ word
change_made word = rw (bit_is word 0x10, bit_is word 0x20, bit_is word 0x40, bit_is word 0x800) (omega arith)
