-- Octets that pass all tests are the spelling of the frame that is made of them.
use Rattle.std.proofs.Common.{◌≡◌, ℕ, ◌+◌, ◌*◌, ◌/◌, ◌%◌, ◌^◌, ◌<◌, Bool, true, false, List, [], ◌∷◌, ◌++◌, drop, get_or, Option, Some, None, refl, sym, ap, ◌∙◌, arith, inl, inr}
use Rattle.std.specs.Prelude.{◌&&◌, ◌||◌}
use Rattle.std.proofs.lemmas.Bool.{eqb-true, ltb-false, leb-false}
use Rattle.wl_elem.specs.Bits.{bit, has_bit}
use Rattle.wl_elem.specs.Fields.{word_at, address_at}
use Rattle.wl_elem.specs.Octets.{octets_of}
use Rattle.wl_elem.proofs.Octets.{IsOctets}
use Rattle.wl_elem.proofs.Numbers.{octets_of-number, bit_is, octet_below}
use Rattle.wl_frame.specs.declared.header.Kind.{Kind}
use Rattle.wl_frame.specs.declared.header.Kind.TheVariants.{Qos, Action, AssocAsk, AssocReply}
use Rattle.wl_frame.specs.declared.header.Header.{Header}
use Rattle.wl_frame.specs.declared.header.Protection.{Protection}
use Rattle.wl_frame.specs.Frame.{FrameValue, FrameOf, IsHeader, IsKind, IsProtection, direction_bits, ccmp_header}
use Rattle.wl_frame.specs.Refusals.{refusal_of}
use Rattle.wl_frame.specs.Reading.{ccmp_at, frame_at}
use Rattle.wl_frame.proofs.Places.{in_cells, value_of_bit}
use Rattle.wl_frame.proofs.Passed.{Passed, passed_at, is_not, is_known, IsKnown}

-- ---- words, flags and the CCMP header

abbrev two : List ℕ → ℕ → List ℕ
two octets place = get_or octets place 0 ∷ get_or octets (place + 1) 0 ∷ []

word_again : (low high : ℕ) → low < 256 → high < 256 → octets_of 2 (low + 256 * high) ≡ low ∷ high ∷ []
word_again low high a b = let same : low + 256 * high ≡ low + 256 * (high + 256 * 0) = omega arith in ap (octets_of 2) same ∙ octets_of-number (low ∷ high ∷ []) (a, (b, tt))

-- the sequence control, where the fragment number is 0
sequence_again : (low high : ℕ) → low < 256 → high < 256 → low % 16 ≡ 0 → octets_of 2 (16 * ((low + 256 * high) / 16)) ≡ low ∷ high ∷ []
sequence_again low high a b whole =
    let same : 16 * ((low + 256 * high) / 16) ≡ low + 256 * high = omega arith in
    ap (octets_of 2) same ∙ word_again low high a b

qos_again : (low high : ℕ) → low < 256 → high < 256 → octets_of 2 (low % 16 + (low + 256 * high) / 16 * 16) ≡ low ∷ high ∷ []
qos_again low high a b =
    let same : low % 16 + (low + 256 * high) / 16 * 16 ≡ low + 256 * high = omega arith in
    ap (octets_of 2) same ∙ word_again low high a b

-- the octet of these flags
abbrev pub flag_octet : ℕ → Bool → Bool → Bool → Bool → ℕ
flag_octet direction retry power more protected = direction + 0x08 * bit retry + 0x10 * bit power + 0x20 * bit more + 0x40 * bit protected

flags_again : (octet direction : ℕ) (protected : Bool) → octet < 256 → direction ≡ octet % 4 → has_bit octet 0x04 ≡ false → has_bit octet 0x40 ≡ protected → has_bit octet 0x80 ≡ false
    → flag_octet direction (has_bit octet 0x08) (has_bit octet 0x10) (has_bit octet 0x20) protected ≡ octet
flags_again octet direction protected small directed fragments sealed order =
    let a : bit (has_bit octet 0x08) ≡ octet / 8 % 2 = bit_is octet 8 in
    let b : bit (has_bit octet 0x10) ≡ octet / 16 % 2 = bit_is octet 16 in
    let c : bit (has_bit octet 0x20) ≡ octet / 32 % 2 = bit_is octet 32 in
    let d : octet / 64 % 2 ≡ bit protected = value_of_bit octet 64 protected sealed in
    let e : octet / 4 % 2 ≡ 0 = value_of_bit octet 4 false fragments in
    let f : octet / 128 % 2 ≡ 0 = value_of_bit octet 128 false order in
    rw (a, b, c, ← d, directed) (omega arith)

bits_of_direction : (to_ds from_ds : Bool) (tid rest : ℕ) → to_ds && from_ds ≡ false → to_ds || from_ds ≡ true → direction_bits (Qos to_ds tid rest) ≡ bit to_ds + 2 * bit from_ds
bits_of_direction true true tid rest a b = absurd (cc)
bits_of_direction true false tid rest a b = refl
bits_of_direction false true tid rest a b = refl
bits_of_direction false false tid rest a b = absurd (cc)

no_direction : (to_ds from_ds : Bool) → to_ds || from_ds ≡ false → bit to_ds + 2 * bit from_ds ≡ 0
no_direction true from_ds e = absurd (cc)
no_direction false true e = absurd (cc)
no_direction false false e = refl

two_bits : (octet : ℕ) → bit (has_bit octet 0x01) + 2 * bit (has_bit octet 0x02) ≡ octet % 4
two_bits octet =
    let a : bit (has_bit octet 0x01) ≡ octet / 1 % 2 = bit_is octet 1 in
    let b : bit (has_bit octet 0x02) ≡ octet / 2 % 2 = bit_is octet 2 in
    rw (a, b) (omega arith)

-- the eight octets of the CCMP header
abbrev eight : List ℕ → ℕ → List ℕ
eight octets place = get_or octets place 0 ∷ get_or octets (place + 1) 0 ∷ get_or octets (place + 2) 0 ∷ get_or octets (place + 3) 0
    ∷ get_or octets (place + 4) 0 ∷ get_or octets (place + 5) 0 ∷ get_or octets (place + 6) 0 ∷ get_or octets (place + 7) 0 ∷ []

pn_low : (a b n : ℕ) → a < 256 → b < 256 → octets_of 2 (a + 256 * b + 65536 * n) ≡ a ∷ b ∷ []
pn_low a b n sa sb =
    let first : (a + 256 * b + 65536 * n) % 256 ≡ a = omega arith in
    let next : (a + 256 * b + 65536 * n) / 256 % 256 ≡ b = omega arith in
    rw (first, next) refl

pn_high : (a b c d : ℕ) → a < 256 → b < 256 → c < 256 → d < 256 → octets_of 4 (a + 256 * b + 65536 * (c + 256 * d)) ≡ a ∷ b ∷ c ∷ d ∷ []
pn_high a b c d sa sb sc sd =
    let same : a + 256 * b + 65536 * (c + 256 * d) ≡ a + 256 * (b + 256 * (c + 256 * (d + 256 * 0))) = omega arith in
    ap (octets_of 4) same ∙ octets_of-number (a ∷ b ∷ c ∷ d ∷ []) (sa, (sb, (sc, (sd, tt))))

pn_cut : (a b n : ℕ) → a < 256 → b < 256 → (a + 256 * b + 65536 * n) / 2 ^ 16 ≡ n
pn_cut a b n sa sb = omega arith

key_again : (octet : ℕ) → has_bit octet 0x20 ≡ true → octet % 32 + 0x20 + 0x40 * (octet / 64) ≡ octet
key_again octet extended =
    let bit : octet / 32 % 2 ≡ 1 = value_of_bit octet 32 true extended in
    omega arith

ccmp_parts : (low high : List ℕ) (a b c d e f spare key octet : ℕ) → low ≡ a ∷ b ∷ [] → octet ≡ key → high ≡ c ∷ d ∷ e ∷ f ∷ [] → low ++ (spare ∷ octet ∷ high) ≡ a ∷ b ∷ spare ∷ key ∷ c ∷ d ∷ e ∷ f ∷ []
ccmp_parts low high a b c d e f spare key octet h i j = rw (h, i, j) refl

abbrev at : List ℕ → ℕ → ℕ
at octets place = get_or octets place 0

ccmp_again : (octets : List ℕ) (place : ℕ) → IsOctets octets → has_bit (at octets (place + 3)) 0x20 ≡ true → ccmp_header (Some (ccmp_at octets place)) ≡ eight octets place
ccmp_again octets place is extended =
    let below = λ (i : ℕ). octet_below octets (place + i) is in
    let first = octet_below octets place is in
    let words : word_at octets (place + 4) + 65536 * word_at octets (place + 6) ≡ at octets (place + 4) + 256 * at octets (place + 4 + 1) + 65536 * (at octets (place + 6) + 256 * at octets (place + 6 + 1)) = refl in
    let five : place + 4 + 1 ≡ place + 5 = omega arith in
    let seven : place + 6 + 1 ≡ place + 7 = omega arith in
    let low = pn_low (at octets place) (at octets (place + 1)) (word_at octets (place + 4) + 65536 * word_at octets (place + 6)) first (below 1) in
    let cut = pn_cut (at octets place) (at octets (place + 1)) (word_at octets (place + 4) + 65536 * word_at octets (place + 6)) first (below 1) in
    let high = pn_high (at octets (place + 4)) (at octets (place + 4 + 1)) (at octets (place + 6)) (at octets (place + 6 + 1)) (below 4) (octet_below octets (place + 4 + 1) is) (below 6) (octet_below octets (place + 6 + 1) is) in
    let all = ccmp_parts _ _ _ _ _ _ _ _ (at octets (place + 2)) (at octets (place + 3)) _ low (key_again (at octets (place + 3)) extended) (ap (octets_of 4) cut ∙ high) in
    all ∙ rw (five, seven) refl

pn_fits : (a b c d e f : ℕ) → a < 256 → b < 256 → c < 256 → d < 256 → e < 256 → f < 256 → a + 256 * b + 65536 * (c + 256 * d + 65536 * (e + 256 * f)) < 2 ^ 48
pn_fits a b c d e f sa sb sc sd se sf = omega arith

is_protection : (octets : List ℕ) (place : ℕ) → IsOctets octets → IsProtection (ccmp_at octets place)
is_protection octets place is =
    let key = octet_below octets (place + 3) is in
    record {
      key_id = omega (arith, key);
      pn = pn_fits _ _ _ _ _ _ (octet_below octets place is) (octet_below octets (place + 1) is) (octet_below octets (place + 4) is) (octet_below octets (place + 4 + 1) is) (octet_below octets (place + 6) is) (octet_below octets (place + 6 + 1) is);
      spare = octet_below octets (place + 2) is;
      bits = omega arith;
    }

-- ---- the whole frame

abbrev header_of : Kind → List ℕ → Header
header_of kind octets = record {
  kind = kind;
  retry = has_bit (at octets 1) 0x08;
  power = has_bit (at octets 1) 0x10;
  more = has_bit (at octets 1) 0x20;
  duration = word_at octets 2;
  a1 = address_at octets 4;
  a2 = address_at octets 10;
  a3 = address_at octets 16;
  number = word_at octets 22 / 16;
}

abbrev frame_of : Kind → Option Protection → ℕ → List ℕ → FrameValue
frame_of kind protection start octets = record { header = header_of kind octets; protection = protection; payload = drop start octets }

is_header : (kind : Kind) (octets : List ℕ) → IsOctets octets → IsKind kind → IsHeader (header_of kind octets)
is_header kind octets is known =
    let a = octet_below octets 2 is in
    let b = octet_below octets 3 is in
    let c = octet_below octets 22 is in
    let d = octet_below octets 23 is in
    record { kind = known; duration = omega (arith, a, b); a1 = refl; a2 = refl; a3 = refl; number = omega (arith, c, d) }

assembled : (f f' g g' : ℕ) (d d' a1 a2 a3 s s' q q' c c' payload : List ℕ) → f ≡ f' → g' ≡ g → d' ≡ d → s' ≡ s → q' ≡ q → c' ≡ c
    → f ∷ g ∷ (d ++ (a1 ++ (a2 ++ (a3 ++ (s ++ (q ++ (c ++ payload))))))) ≡ f' ∷ g' ∷ (d' ++ (a1 ++ (a2 ++ (a3 ++ (s' ++ (q' ++ (c' ++ payload)))))))
assembled f f' g g' d d' a1 a2 a3 s s' q q' c c' payload h i j k l m = rw (h, i, j, k, l, m) refl

duration_again : (octets : List ℕ) → IsOctets octets → octets_of 2 (word_at octets 2) ≡ two octets 2
duration_again octets is = word_again (at octets 2) (at octets 3) (octet_below octets 2 is) (octet_below octets 3 is)

number_again : (octets : List ℕ) → IsOctets octets → at octets 22 % 16 ≡ 0 → octets_of 2 (16 * (word_at octets 22 / 16)) ≡ two octets 22
number_again octets is whole = sequence_again (at octets 22) (at octets 23) (octet_below octets 22 is) (octet_below octets 23 is) whole

data_of : (octets : List ℕ) → IsOctets octets → Passed octets 0x88 (at octets 1) (at octets 22) (at octets 24) → at octets 0 ≡ 0x88
    → FrameOf (frame_of (Qos (has_bit (at octets 1) 0x01) (at octets 24 % 16) (word_at octets 24 / 16 * 16)) (Some (ccmp_at octets 26)) 34 octets) octets
data_of octets is p first =
    let kind = Qos (has_bit (at octets 1) 0x01) (at octets 24 % 16) (word_at octets 24 / 16 * 16) in
    let a = octet_below octets 24 is in
    let b = octet_below octets 25 is in
    let amsdu : at octets 24 / 128 % 2 ≡ 0 = value_of_bit (at octets 24) 128 false p.amsdu in
    let directed : direction_bits kind ≡ at octets 1 % 4 = bits_of_direction _ _ (at octets 24 % 16) (word_at octets 24 / 16 * 16) p.four (is_not _ p.none) ∙ two_bits (at octets 1) in
    let flagged = flags_again (at octets 1) (direction_bits kind) true (octet_below octets 1 is) directed p.fragments (is_not _ p.protected) p.order in
    record {
      is_frame = record {
        header = is_header kind octets is (record { tid_fits = leb-false _ _ p.tid; rest_fits = omega (arith, a, b); no_tid = omega arith; no_amsdu = omega (arith, a, b, amsdu) });
        protected = refl;
        protection = is_protection octets 26 is;
      };
      text = in_cells 34 octets (ltb-false _ _ p.sealed) ∙ assembled (at octets 0) 0x88 (at octets 1) _ (two octets 2) _ (address_at octets 4) (address_at octets 10) (address_at octets 16) (two octets 22) _ (two octets 24) _ (eight octets 26) _ (drop 34 octets)
          first flagged (duration_again octets is) (number_again octets is (eqb-true _ _ (is_not _ p.fragment))) (qos_again (at octets 24) (at octets 25) a b) (ccmp_again octets 26 is (is_not _ p.extended));
    }

action_of : (octets : List ℕ) → IsOctets octets → Passed octets 0xd0 (at octets 1) (at octets 22) (at octets 24) → at octets 0 ≡ 0xd0 → FrameOf (frame_of Action (Some (ccmp_at octets 24)) 32 octets) octets
action_of octets is p first =
    let directed : 0 ≡ at octets 1 % 4 = sym (no_direction _ _ p.directed) ∙ two_bits (at octets 1) in
    let flagged = flags_again (at octets 1) 0 true (octet_below octets 1 is) directed p.fragments (is_not _ p.protected) p.order in
    record {
      is_frame = record { header = is_header Action octets is tt; protected = refl; protection = is_protection octets 24 is };
      text = in_cells 32 octets (ltb-false _ _ p.sealed) ∙ assembled (at octets 0) 0xd0 (at octets 1) _ (two octets 2) _ (address_at octets 4) (address_at octets 10) (address_at octets 16) (two octets 22) _ [] [] (eight octets 24) _ (drop 32 octets)
          first flagged (duration_again octets is) (number_again octets is (eqb-true _ _ (is_not _ p.fragment))) refl (ccmp_again octets 24 is (is_not _ p.extended));
    }

ask_of : (octets : List ℕ) → IsOctets octets → Passed octets 0x00 (at octets 1) (at octets 22) (at octets 24) → at octets 0 ≡ 0x00 → FrameOf (frame_of AssocAsk None 24 octets) octets
ask_of octets is p first =
    let directed : 0 ≡ at octets 1 % 4 = sym (no_direction _ _ p.directed) ∙ two_bits (at octets 1) in
    let flagged = flags_again (at octets 1) 0 false (octet_below octets 1 is) directed p.fragments p.setup p.order in
    record {
      is_frame = record { header = is_header AssocAsk octets is tt; protected = refl; protection = tt };
      text = in_cells 24 octets (ltb-false _ _ p.long) ∙ assembled (at octets 0) 0x00 (at octets 1) _ (two octets 2) _ (address_at octets 4) (address_at octets 10) (address_at octets 16) (two octets 22) _ [] [] [] [] (drop 24 octets)
          first flagged (duration_again octets is) (number_again octets is (eqb-true _ _ (is_not _ p.fragment))) refl refl;
    }

reply_of : (octets : List ℕ) → IsOctets octets → Passed octets 0x10 (at octets 1) (at octets 22) (at octets 24) → at octets 0 ≡ 0x10 → FrameOf (frame_of AssocReply None 24 octets) octets
reply_of octets is p first =
    let directed : 0 ≡ at octets 1 % 4 = sym (no_direction _ _ p.directed) ∙ two_bits (at octets 1) in
    let flagged = flags_again (at octets 1) 0 false (octet_below octets 1 is) directed p.fragments p.setup p.order in
    record {
      is_frame = record { header = is_header AssocReply octets is tt; protected = refl; protection = tt };
      text = in_cells 24 octets (ltb-false _ _ p.long) ∙ assembled (at octets 0) 0x10 (at octets 1) _ (two octets 2) _ (address_at octets 4) (address_at octets 10) (address_at octets 16) (two octets 22) _ [] [] [] [] (drop 24 octets)
          first flagged (duration_again octets is) (number_again octets is (eqb-true _ _ (is_not _ p.fragment))) refl refl;
    }

frame_by : (octets : List ℕ) → IsOctets octets → IsKnown (at octets 0) → refusal_of octets ≡ None → FrameOf (frame_at octets) octets
frame_by octets is (inl first) e = let of = data_of octets is (passed_at octets 0x88 first e) first in rw first of
frame_by octets is (inr (inl first)) e = let of = action_of octets is (passed_at octets 0xd0 first e) first in rw first of
frame_by octets is (inr (inr (inl first))) e = let of = ask_of octets is (passed_at octets 0x00 first e) first in rw first of
frame_by octets is (inr (inr (inr first))) e = let of = reply_of octets is (passed_at octets 0x10 first e) first in rw first of

pub is_frame_of : (octets : List ℕ) → IsOctets octets → refusal_of octets ≡ None → FrameOf (frame_at octets) octets
is_frame_of octets is e = frame_by octets is (is_known (at octets 0) (passed_at octets (at octets 0) refl e).known) e
