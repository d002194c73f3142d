-- The layouts of profiles: what is read is what was written, and what was written is read again.
use Rattle.std.proofs.Common.{◌≡◌, ◌≢◌, ℕ, ◌%◌, ◌<◌, Bool, List, [], ◌∷◌, drop, Option, None, refl, sym, subst, arith}
use Rattle.std.specs.Prelude.{is_some, ◌&&◌}
use Rattle.wl_mle.specs.declared.profile.Profile.{Profile}
use Rattle.wl_mle.specs.declared.change.LinkChange.{LinkChange}
use Rattle.wl_mle.specs.Fields.{word_of, IsShort}
use Rattle.wl_mle.specs.Layout.{profile_slots, change_slots, nstr_width, profile_fields, change_fields, profile_control, change_control}
use Rattle.wl_mle.specs.MultiLink.{profile_text, IsProfile, change_text, IsChange, profile_fault}
use Rattle.wl_mle.specs.Reading.{profile_of, change_of, profile_behind, change_behind}
use Rattle.wl_mle.proofs.Infos.{IsFilled, Filled, AllIn, field_filled, mac_filled, number_again, number_read, mac_some, mac_read}
use Rattle.wl_mle.proofs.Bits.{IsProfileWord, profile_bits, profile_made, IsChangeWord, change_bits, change_made}
use Rattle.wl_mle.proofs.Shared.{filled_at, sta_again, IsMade, sta_read}
use Rattle.wl_elem.specs.Bits.{has_bit}
use Rattle.wl_elem.specs.Fields.{number_field}
use Rattle.wl_elem.proofs.Octets.{IsOctets}

-- ---- Basic

profile_word_of : (p : Profile) → IsProfile p → IsProfileWord (profile_control p) p.link p.complete (is_some p.mac) (is_some p.beacon) (is_some p.tsf) (is_some p.dtim) p.pair p.wide (is_some p.count) p.spare
profile_word_of p is = profile_bits p.link p.complete (is_some p.mac) (is_some p.beacon) (is_some p.tsf) (is_some p.dtim) p.pair p.wide (is_some p.count) p.spare (omega (arith, is.link)) is.spare

profile_filled : (p : Profile) → IsProfile p → Filled (profile_slots (profile_control p)) (profile_fields p)
profile_filled p is =
    let w = profile_word_of p is in
    let nstr : IsFilled (p.complete && p.pair) (nstr_width p.wide) (number_field (nstr_width p.wide) p.nstr)
    = subst (λ (b : Bool). IsFilled b (nstr_width p.wide) (number_field (nstr_width p.wide) p.nstr)) is.nstr_there (field_filled (nstr_width p.wide) p.nstr) in
    let s0 = filled_at _ (is_some p.mac) 6 p.mac w.b5 (mac_filled p.mac is.mac) in
    let s1 = filled_at _ (is_some p.beacon) 2 (number_field 2 p.beacon) w.b6 (field_filled 2 p.beacon) in
    let s2 = filled_at _ (is_some p.tsf) 8 (number_field 8 p.tsf) w.b7 (field_filled 8 p.tsf) in
    let s3 = filled_at _ (is_some p.dtim) 2 (number_field 2 p.dtim) w.b8 (field_filled 2 p.dtim) in
    let s4 : IsFilled (has_bit (profile_control p) 0x10 && has_bit (profile_control p) 0x200) (nstr_width (has_bit (profile_control p) 0x400)) (number_field (nstr_width p.wide) p.nstr) = rw (w.b4, w.b9, w.b10) nstr in
    let s5 = filled_at _ (is_some p.count) 1 (number_field 1 p.count) w.b11 (field_filled 1 p.count) in
    (s0, (s1, (s2, (s3, (s4, (s5, tt))))))

profile_same : (p : Profile) → IsProfile p → profile_of (profile_control p) (profile_fields p) p.tail p.body ≡ p
profile_same p is =
    let w = profile_word_of p is in
    rw (
      w.linked,
      w.b4,
      w.b9,
      w.b10,
      w.spared,
      number_again 2 p.beacon is.beacon,
      number_again 8 p.tsf is.tsf,
      number_again 2 p.dtim is.dtim,
      number_again (nstr_width p.wide) p.nstr is.nstr,
      number_again 1 p.count is.count,
    )
    refl

-- a profile that is written is read again
pub profile_again : (p : Profile) → IsProfile p → (profile_fault profile_slots (profile_text p) ≡ None) × (profile_behind (word_of (profile_text p)) (drop 2 (profile_text p)) ≡ p)
profile_again p is =
    let w = profile_word_of p is in
    sta_again profile_slots profile_of (profile_control p) (profile_fields p) p.tail p.body p w.below (λ e. omega (arith, e, w.linked, is.link)) (profile_filled p is) (profile_same p is)

profile_from : (word : ℕ) (f0 f1 f2 f3 f4 f5 : Option (List ℕ)) (tail body : List ℕ) → word < 65536 → word % 16 ≢ 15 → Filled (profile_slots word) (f0 ∷ f1 ∷ f2 ∷ f3 ∷ f4 ∷ f5 ∷ [])
    → AllIn (f0 ∷ f1 ∷ f2 ∷ f3 ∷ f4 ∷ f5 ∷ []) → IsShort (f0 ∷ f1 ∷ f2 ∷ f3 ∷ f4 ∷ f5 ∷ []) tail → IsMade IsProfile profile_control profile_fields word (f0 ∷ f1 ∷ f2 ∷ f3 ∷ f4 ∷ f5 ∷ []) (profile_of word (f0 ∷ f1 ∷ f2 ∷ f3 ∷ f4 ∷ f5 ∷ []) tail body)
profile_from word f0 f1 f2 f3 f4 f5 tail body lt free filled octets fits =
    let n1 = number_read _ 2 f1 filled.1.0 octets.1.0 in
    let n2 = number_read _ 8 f2 filled.1.1.0 octets.1.1.0 in
    let n3 = number_read _ 2 f3 filled.1.1.1.0 octets.1.1.1.0 in
    let n4 = number_read _ (nstr_width (has_bit word 0x400)) f4 filled.1.1.1.1.0 octets.1.1.1.1.0 in
    let n5 = number_read _ 1 f5 filled.1.1.1.1.1.0 octets.1.1.1.1.1.0 in
    let all : profile_fields (profile_of word (f0 ∷ f1 ∷ f2 ∷ f3 ∷ f4 ∷ f5 ∷ []) tail body) ≡ f0 ∷ f1 ∷ f2 ∷ f3 ∷ f4 ∷ f5 ∷ [] = rw (n1.same, n2.same, n3.same, n4.same, n5.same) refl in
    record {
      is = record {
        link = omega (arith, free);
        spare = omega (arith, lt);
        mac = mac_read _ f0 filled.0;
        beacon = n1.fits;
        tsf = n2.fits;
        dtim = n3.fits;
        nstr = n4.fits;
        nstr_there = n4.some;
        count = n5.fits;
        short = subst (λ (fs : List (Option (List ℕ))). IsShort fs tail) (sym all) fits;
      };
      control_is = rw (mac_some _ f0 filled.0, n1.some, n2.some, n3.some, n5.some) (profile_made word);
      all_are = all;
    }

-- a profile that is read is the one that was written
pub profile_read : (octets : List ℕ) → IsOctets octets → profile_fault profile_slots octets ≡ None
    → IsProfile (profile_behind (word_of octets) (drop 2 octets)) × (profile_text (profile_behind (word_of octets) (drop 2 octets)) ≡ octets)
profile_read octets is none =
    sta_read profile_slots profile_of IsProfile profile_control profile_fields (λ word area tail body lt free filled each fits. profile_from word _ _ _ _ _ _ tail body lt free filled each fits) octets is none

-- ---- Reconfiguration

change_word_of : (c : LinkChange) → IsChange c → IsChangeWord (change_control c) c.link c.complete (is_some c.mac) (is_some c.timer) c.op c.params c.spare
change_word_of c is = change_bits c.link c.complete (is_some c.mac) (is_some c.timer) c.op c.params c.spare (omega (arith, is.link)) is.op is.spare

change_filled : (c : LinkChange) → IsChange c → Filled (change_slots (change_control c)) (change_fields c)
change_filled c is =
    let w = change_word_of c is in
    let s0 = filled_at _ (is_some c.mac) 6 c.mac w.b5 (mac_filled c.mac is.mac) in
    let s1 = filled_at _ (is_some c.timer) 2 (number_field 2 c.timer) w.b6 (field_filled 2 c.timer) in
    (s0, (s1, tt))

change_same : (c : LinkChange) → IsChange c → change_of (change_control c) (change_fields c) c.tail c.body ≡ c
change_same c is =
    let w = change_word_of c is in
    rw (w.linked, w.b4, w.operation, w.b11, w.spared, number_again 2 c.timer is.timer) refl

-- a profile that is written is read again
pub change_again : (c : LinkChange) → IsChange c → (profile_fault change_slots (change_text c) ≡ None) × (change_behind (word_of (change_text c)) (drop 2 (change_text c)) ≡ c)
change_again c is =
    let w = change_word_of c is in
    sta_again change_slots change_of (change_control c) (change_fields c) c.tail c.body c w.below (λ e. omega (arith, e, w.linked, is.link)) (change_filled c is) (change_same c is)

change_from : (word : ℕ) (f0 f1 : Option (List ℕ)) (tail body : List ℕ) → word < 65536 → word % 16 ≢ 15 → Filled (change_slots word) (f0 ∷ f1 ∷ [])
    → AllIn (f0 ∷ f1 ∷ []) → IsShort (f0 ∷ f1 ∷ []) tail → IsMade IsChange change_control change_fields word (f0 ∷ f1 ∷ []) (change_of word (f0 ∷ f1 ∷ []) tail body)
change_from word f0 f1 tail body lt free filled octets fits =
    let n1 = number_read _ 2 f1 filled.1.0 octets.1.0 in
    let all : change_fields (change_of word (f0 ∷ f1 ∷ []) tail body) ≡ f0 ∷ f1 ∷ [] = rw n1.same refl in
    record {
      is = record {
        link = omega (arith, free);
        spare = omega (arith, lt);
        op = omega arith;
        mac = mac_read _ f0 filled.0;
        timer = n1.fits;
        short = subst (λ (fs : List (Option (List ℕ))). IsShort fs tail) (sym all) fits;
      };
      control_is = rw (mac_some _ f0 filled.0, n1.some) (change_made word);
      all_are = all;
    }

-- a profile that is read is the one that was written
pub change_read : (octets : List ℕ) → IsOctets octets → profile_fault change_slots octets ≡ None
    → IsChange (change_behind (word_of octets) (drop 2 octets)) × (change_text (change_behind (word_of octets) (drop 2 octets)) ≡ octets)
change_read octets is none =
    sta_read change_slots change_of IsChange change_control change_fields (λ word area tail body lt free filled each fits. change_from word _ _ tail body lt free filled each fits) octets is none
