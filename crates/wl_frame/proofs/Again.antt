-- The spelling of a frame is read as that frame.
use Rattle.std.proofs.Common.{◌≡◌, ℕ, ◌+◌, ◌*◌, ◌/◌, ◌%◌, ◌^◌, ◌<◌, Bool, true, false, eqb, eq-eqb, List, get_or, Option, Some, None, Result, Ok, Err, refl, sym, ap, subst, ◌∙◌, arith}
use Rattle.std.specs.Prelude.{◌&&◌, ◌||◌, not}
use Rattle.std.proofs.lemmas.Bool.{le-ltb, lt-leb}
use Rattle.wl_elem.specs.declared.fault.Refusal.{Refusal}
use Rattle.wl_elem.specs.Bits.{has_bit}
use Rattle.wl_elem.proofs.Numbers.{test_of, bit_small}
use Rattle.wl_frame.specs.declared.header.Kind.{Kind}
use Rattle.wl_frame.specs.declared.header.Kind.TheVariants.{Qos, Action, AssocAsk, AssocReply}
use Rattle.wl_frame.specs.declared.header.Header.{Header}
use Rattle.wl_frame.specs.declared.header.Protection.{Protection}
use Rattle.wl_frame.specs.Frame.{FrameValue, IsFrame, IsQos, IsProtection, direction_bits, spelling}
use Rattle.wl_frame.specs.Refusals.{refusal_of, ReadAs}
use Rattle.wl_frame.specs.Reading.{frame_at, reading}
use Rattle.wl_frame.proofs.Places.{cells, six}
use Rattle.wl_frame.proofs.Passed.{passed_none}
use Rattle.wl_frame.proofs.Spelled.{flag_octet}
use Rattle.wl_frame.proofs.Once.{read_frame, read_refusal}

-- ---- no test holds

no_not : (b : Bool) → b ≡ true → not b ≡ false
no_not b e = rw e refl

whole_number : (n : ℕ) → n % 16 ≡ 0 → not (eqb (n % 16) 0) ≡ false
whole_number n e = no_not _ (eq-eqb (n % 16) 0 e)

-- ---- numbers from their octets

record AreFlags (octet d : ℕ) (r p m s : Bool) : Type 0 where
  direction : octet % 4 ≡ d
  fragments : has_bit octet 0x04 ≡ false
  retry : has_bit octet 0x08 ≡ r
  power : has_bit octet 0x10 ≡ p
  more : has_bit octet 0x20 ≡ m
  protected : has_bit octet 0x40 ≡ s
  order : has_bit octet 0x80 ≡ false

flags_are : (direction : ℕ) (retry power more protected : Bool) → direction < 4 → AreFlags (flag_octet direction retry power more protected) direction retry power more protected
flags_are direction retry power more protected small =
    let a = bit_small retry in
    let b = bit_small power in
    let c = bit_small more in
    let d = bit_small protected in
    record {
      direction = omega arith;
      fragments = test_of _ false (omega arith);
      retry = test_of _ retry (omega arith);
      power = test_of _ power (omega arith);
      more = test_of _ more (omega arith);
      protected = test_of _ protected (omega arith);
      order = test_of _ false (omega arith);
    }

record IsDirected (octet : ℕ) (to_ap : Bool) : Type 0 where
  to_ds : has_bit octet 0x01 ≡ to_ap
  from_ds : has_bit octet 0x02 ≡ not to_ap

directed : (octet : ℕ) (to_ap : Bool) (tid rest : ℕ) → octet % 4 ≡ direction_bits (Qos to_ap tid rest) → IsDirected octet to_ap
directed octet true tid rest e = record { to_ds = test_of _ true (omega arith); from_ds = test_of _ false (omega arith) }
directed octet false tid rest e = record { to_ds = test_of _ false (omega arith); from_ds = test_of _ true (omega arith) }

direction_small : (to_ap : Bool) (tid rest : ℕ) → direction_bits (Qos to_ap tid rest) < 4
direction_small true tid rest = omega arith
direction_small false tid rest = omega arith

by_two : (a b to_ap : Bool) → a ≡ to_ap → b ≡ not to_ap → (a && b ≡ false) × (a || b ≡ true)
by_two a b true h i = (rw h i, rw h refl)
by_two a b false h i = (rw h refl, rw h i)

one_direction : (octet : ℕ) (to_ap : Bool) → IsDirected octet to_ap → (has_bit octet 0x01 && has_bit octet 0x02 ≡ false) × (has_bit octet 0x01 || has_bit octet 0x02 ≡ true)
one_direction octet to_ap d = by_two (has_bit octet 0x01) (has_bit octet 0x02) to_ap d.to_ds d.from_ds

undirected : (octet : ℕ) → octet % 4 ≡ 0 → has_bit octet 0x01 || has_bit octet 0x02 ≡ false
undirected octet e =
    let a : has_bit octet 0x01 ≡ false = test_of _ false (omega arith) in
    let b : has_bit octet 0x02 ≡ false = test_of _ false (omega arith) in
    rw (a, b) refl

abbrev low : ℕ → ℕ
low n = n % 256

abbrev next : ℕ → ℕ
next n = n / 256 % 256

word : (n : ℕ) → low n + 256 * next n ≡ n % 65536
word n = omega arith

word_is : (n : ℕ) → n < 65536 → low n + 256 * next n ≡ n
word_is n small = omega arith

number_is : (n : ℕ) → n < 4096 → (low (16 * n) + 256 * next (16 * n)) / 16 ≡ n
number_is n small = ap (λ (w : ℕ). w / 16) (word_is (16 * n) (omega arith)) ∙ omega arith

rest_is : (tid rest : ℕ) → IsQos tid rest → (low (tid + rest) + 256 * next (tid + rest)) / 16 * 16 ≡ rest
rest_is tid rest is =
    let small : tid + rest < 65536 = omega (arith, is.tid_fits, is.rest_fits, is.no_tid) in
    ap (λ (w : ℕ). w / 16 * 16) (word_is (tid + rest) small) ∙ omega (arith, is.tid_fits, is.no_tid)

tid_is : (tid rest : ℕ) → IsQos tid rest → low (tid + rest) % 16 ≡ tid
tid_is tid rest is = omega (arith, is.tid_fits, is.no_tid)

amsdu_is : (tid rest : ℕ) → IsQos tid rest → low (tid + rest) / 128 % 2 ≡ 0
amsdu_is tid rest is = omega (arith, is.tid_fits, is.no_tid, is.no_amsdu)

abbrev pn_of : ℕ → ℕ
pn_of pn = low pn + 256 * next pn + 65536 * (low (pn / 2 ^ 16) + 256 * next (pn / 2 ^ 16) + 65536 * (low (pn / 2 ^ 16 / 256 / 256) + 256 * next (pn / 2 ^ 16 / 256 / 256)))

pn_is : (pn : ℕ) → pn < 2 ^ 48 → pn_of pn ≡ pn
pn_is pn small =
    let a = word pn in
    let b = word (pn / 2 ^ 16) in
    let high : pn / 2 ^ 16 / 256 / 256 < 65536 = omega arith in
    let c = word_is (pn / 2 ^ 16 / 256 / 256) high in
    rw (a, b, c) (omega arith)

-- the numbers of the key octet
key_is : (p : Protection) → IsProtection p → (p.bits + 0x20 + 0x40 * p.key_id) / 64 ≡ p.key_id
key_is p is = omega (arith, is.bits)

bits_are : (p : Protection) → IsProtection p → (p.bits + 0x20 + 0x40 * p.key_id) % 32 ≡ p.bits
bits_are p is = omega (arith, is.bits)

extended_bit : (p : Protection) → IsProtection p → has_bit (p.bits + 0x20 + 0x40 * p.key_id) 0x20 ≡ true
extended_bit p is = let small = is.bits in test_of _ true (omega arith)

-- ---- the whole frame

-- a frame of this kind with the fields of this header, each address by its six octets
abbrev of : Kind → Header → Option Protection → List ℕ → FrameValue
of kind h protection payload = record {
  header = record { kind = kind; retry = h.retry; power = h.power; more = h.more; duration = h.duration; a1 = cells 6 0 h.a1; a2 = cells 6 0 h.a2; a3 = cells 6 0 h.a3; number = h.number };
  protection = protection;
  payload = payload;
}

-- the spelling is read as the frame
abbrev IsReadBack : FrameValue → Type 0
IsReadBack f = reading (spelling f) ≡ Ok f

data_again : (to_ap : Bool) (tid rest : ℕ) (h : Header) (p : Protection) (payload : List ℕ) → IsQos tid rest → h.duration < 65536 → h.number < 4096 → IsProtection p → IsReadBack (of (Qos to_ap tid rest) h (Some p) payload)
unfolding refusal_of
data_again to_ap tid rest h p payload qos short few sealed =
    let f = of (Qos to_ap tid rest) h (Some p) payload in
    let octet = flag_octet (direction_bits (Qos to_ap tid rest)) h.retry h.power h.more true in
    let g = flags_are (direction_bits (Qos to_ap tid rest)) h.retry h.power h.more true (direction_small to_ap tid rest) in
    let d = directed octet to_ap tid rest g.direction in
    let one = one_direction octet to_ap d in
    let passed = passed_none (spelling f) 0x88 octet (low (16 * h.number)) (low (tid + rest)) (record {
      long = le-ltb _ _ (omega arith);
      version = refl;
      known = refl;
      four = one.0;
      none = no_not _ one.1;
      directed = refl;
      fragments = g.fragments;
      protected = no_not _ g.protected;
      setup = refl;
      order = g.order;
      fragment = whole_number (low (16 * h.number)) (omega arith);
      qos = le-ltb _ _ (omega arith);
      tid = lt-leb _ _ (omega (arith, tid_is tid rest qos, qos.tid_fits));
      amsdu = test_of _ false (amsdu_is tid rest qos);
      sealed = le-ltb _ _ (omega arith);
      extended = no_not _ (extended_bit p sealed);
    }) in
    let same : frame_at (spelling f) ≡ f = rw (d.to_ds, tid_is tid rest qos, rest_is tid rest qos, g.retry, g.power, g.more, word_is h.duration short, number_is h.number few, pn_is p.pn sealed.pn, key_is p sealed, bits_are p sealed) refl in
    sym (read_frame (spelling f) f passed (sym same))

action_again : (h : Header) (p : Protection) (payload : List ℕ) → h.duration < 65536 → h.number < 4096 → IsProtection p → IsReadBack (of Action h (Some p) payload)
unfolding refusal_of
action_again h p payload short few sealed =
    let f = of Action h (Some p) payload in
    let octet = flag_octet 0 h.retry h.power h.more true in
    let g = flags_are 0 h.retry h.power h.more true (omega arith) in
    let passed = passed_none (spelling f) 0xd0 octet (low (16 * h.number)) (get_or (spelling f) 24 0) (record {
      long = le-ltb _ _ (omega arith);
      version = refl;
      known = refl;
      four = refl;
      none = refl;
      directed = undirected octet g.direction;
      fragments = g.fragments;
      protected = no_not _ g.protected;
      setup = refl;
      order = g.order;
      fragment = whole_number (low (16 * h.number)) (omega arith);
      qos = refl;
      tid = refl;
      amsdu = refl;
      sealed = le-ltb _ _ (omega arith);
      extended = no_not _ (extended_bit p sealed);
    }) in
    let same : frame_at (spelling f) ≡ f = rw (g.retry, g.power, g.more, word_is h.duration short, number_is h.number few, pn_is p.pn sealed.pn, key_is p sealed, bits_are p sealed) refl in
    sym (read_frame (spelling f) f passed (sym same))

ask_again : (h : Header) (payload : List ℕ) → h.duration < 65536 → h.number < 4096 → IsReadBack (of AssocAsk h None payload)
unfolding refusal_of
ask_again h payload short few =
    let f = of AssocAsk h None payload in
    let octet = flag_octet 0 h.retry h.power h.more false in
    let g = flags_are 0 h.retry h.power h.more false (omega arith) in
    let passed = passed_none (spelling f) 0x00 octet (low (16 * h.number)) (get_or (spelling f) 24 0) (record {
      long = le-ltb _ _ (omega arith);
      version = refl;
      known = refl;
      four = refl;
      none = refl;
      directed = undirected octet g.direction;
      fragments = g.fragments;
      protected = refl;
      setup = g.protected;
      order = g.order;
      fragment = whole_number (low (16 * h.number)) (omega arith);
      qos = refl;
      tid = refl;
      amsdu = refl;
      sealed = refl;
      extended = refl;
    }) in
    let same : frame_at (spelling f) ≡ f = rw (g.retry, g.power, g.more, word_is h.duration short, number_is h.number few) refl in
    sym (read_frame (spelling f) f passed (sym same))

reply_again : (h : Header) (payload : List ℕ) → h.duration < 65536 → h.number < 4096 → IsReadBack (of AssocReply h None payload)
unfolding refusal_of
reply_again h payload short few =
    let f = of AssocReply h None payload in
    let octet = flag_octet 0 h.retry h.power h.more false in
    let g = flags_are 0 h.retry h.power h.more false (omega arith) in
    let passed = passed_none (spelling f) 0x10 octet (low (16 * h.number)) (get_or (spelling f) 24 0) (record {
      long = le-ltb _ _ (omega arith);
      version = refl;
      known = refl;
      four = refl;
      none = refl;
      directed = undirected octet g.direction;
      fragments = g.fragments;
      protected = refl;
      setup = g.protected;
      order = g.order;
      fragment = whole_number (low (16 * h.number)) (omega arith);
      qos = refl;
      tid = refl;
      amsdu = refl;
      sealed = refl;
      extended = refl;
    }) in
    let same : frame_at (spelling f) ≡ f = rw (g.retry, g.power, g.more, word_is h.duration short, number_is h.number few) refl in
    sym (read_frame (spelling f) f passed (sym same))

by_kind : (kind : Kind) (h : Header) (protection : Option Protection) (payload : List ℕ) → IsFrame (of kind h protection payload) → IsReadBack (of kind h protection payload)
by_kind (Qos to_ap tid rest) h (Some p) payload is = data_again to_ap tid rest h p payload is.header.kind is.header.duration is.header.number is.protection
by_kind (Qos to_ap tid rest) h None payload is = let e : false ≡ true = is.protected in absurd (cc)
by_kind Action h (Some p) payload is = action_again h p payload is.header.duration is.header.number is.protection
by_kind Action h None payload is = let e : false ≡ true = is.protected in absurd (cc)
by_kind AssocAsk h None payload is = ask_again h payload is.header.duration is.header.number
by_kind AssocAsk h (Some p) payload is = let e : true ≡ false = is.protected in absurd (cc)
by_kind AssocReply h None payload is = reply_again h payload is.header.duration is.header.number
by_kind AssocReply h (Some p) payload is = let e : true ≡ false = is.protected in absurd (cc)

in_six : (f : FrameValue) → IsFrame f → of f.header.kind f.header f.protection f.payload ≡ f
in_six f is = rw (six f.header.a1 is.header.a1, six f.header.a2 is.header.a2, six f.header.a3 is.header.a3) refl

pub read_again : (f : FrameValue) → IsFrame f → reading (spelling f) ≡ Ok f
read_again f is =
    let same = in_six f is in
    subst IsReadBack same (by_kind f.header.kind f.header f.protection f.payload (subst IsFrame (sym same) is))

-- each reading is what is read
pub reads : (octets : List ℕ) (r : Result FrameValue Refusal) → ReadAs octets r → reading octets ≡ r
reads octets (Ok f) of = ap reading of.text ∙ read_again f of.is_frame
reads octets (Err refusal) refused = sym (read_refusal octets refusal refused)

pub one_reading : (octets : List ℕ) (a b : Result FrameValue Refusal) → ReadAs octets a → ReadAs octets b → a ≡ b
one_reading octets a b x y = sym (reads octets a x) ∙ reads octets b y
