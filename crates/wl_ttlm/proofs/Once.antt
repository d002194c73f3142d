-- A body is read in one way, and the reading is that of the layout.
use Rattle.std.proofs.Common.{◌≡◌, ◌≢◌, ℕ, ◌+◌, ◌*◌, ◌-◌, ◌/◌, ◌%◌, ◌^◌, ◌<◌, ◌≤◌, Bool, true, false, eqb, eq-eqb, List, [], ◌∷◌, ◌++◌, length, get_or, Option, Some, None, Result, Ok, Err, refl, sym, ap, subst, ◌∙◌, arith, inl, inr, length-append}
use Rattle.std.specs.Prelude.{is_some, not}
use Rattle.std.proofs.lemmas.Bool.{eqb-true}
use Rattle.wl_elem.specs.declared.fault.Refusal.{Refusal}
use Rattle.wl_elem.specs.declared.fault.Fault.{Fault}
use Rattle.wl_elem.specs.declared.fault.Fault.TheVariants as faults
use Rattle.wl_elem.specs.declared.why.Why.TheVariants.{Truncated, ReservedDirection}
use Rattle.wl_elem.specs.Answers.{refusal_at, Answers, AnswersOnly}
use Rattle.wl_elem.specs.Bits.{bit, has_bit}
use Rattle.wl_elem.specs.Fields.{field, first_cut, width_if, field_at, after_field, number_in, total}
use Rattle.wl_elem.proofs.Octets.{IsOctets}
use Rattle.wl_elem.proofs.Numbers.{bit_is, test_of, bit_small, octet_below, all_whole, room_for, cut_within}
use Rattle.wl_ttlm.specs.declared.ttlm.Ttlm.{Ttlm}
use Rattle.wl_ttlm.specs.Ttlm.{control, presence, presence_in, map_width, mappings, spelling, IsTtlm, TtlmOf, mapped, map_widths, widths, TtlmRefused, ReadAs}
use Rattle.wl_ttlm.specs.Reading.{maps_at, value_at}
use Rattle.wl_ttlm.proofs.Fields.{field_takes, field_again, after_again, width_again, maps_take, maps_again, widths_again, none_of, none_present, presence_below}

-- ---- the control octet

-- the parts of a control octet
record IsControl (octet d : ℕ) (a b c n : Bool) (s : ℕ) : Type 0 where
  direction : octet % 4 ≡ d
  default : has_bit octet 4 ≡ a
  switch : has_bit octet 8 ≡ b
  duration : has_bit octet 16 ≡ c
  narrow : has_bit octet 32 ≡ n
  spare : octet / 64 ≡ s

abbrev control_of : ℕ → Bool → Bool → Bool → Bool → ℕ → ℕ
control_of direction default switch duration narrow spare = direction + 4 * bit default + 8 * bit switch + 16 * bit duration + 32 * bit narrow + 64 * spare

control_again : (direction : ℕ) (default switch duration narrow : Bool) (spare : ℕ) → direction < 4 → IsControl (control_of direction default switch duration narrow spare) direction default switch duration narrow spare
control_again direction default switch duration narrow spare lt =
    let a = bit_small default in
    let b = bit_small switch in
    let c = bit_small duration in
    let d = bit_small narrow in
    record {
      direction = omega arith;
      default = test_of _ default (omega arith);
      switch = test_of _ switch (omega arith);
      duration = test_of _ duration (omega arith);
      narrow = test_of _ narrow (omega arith);
      spare = omega arith;
    }

bits_of : (octet : ℕ) → control_of (octet % 4) (has_bit octet 4) (has_bit octet 8) (has_bit octet 16) (has_bit octet 32) (octet / 64) ≡ octet
bits_of octet = rw (bit_is octet 4, bit_is octet 8, bit_is octet 16, bit_is octet 32) (omega arith)

-- ---- the presence octet

presence_read : (default : Bool) (octets : List ℕ) (maps : List (Option ℕ)) → width_if (not default) 1 ≤ length octets → presence maps ≡ mapped default (get_or octets 0 0) → number_in (field_at (not default) 1 octets) ≡ presence_in default maps
presence_read true octets maps room e = refl
presence_read false [] maps room e = absurd (omega arith)
presence_read false (octet ∷ octets) maps room e = let is : octet + 256 * 0 ≡ presence maps = omega (arith, e) in ap (λ (n : ℕ). Some n) is

presence_again : (default : Bool) (maps : List (Option ℕ)) (rest : List ℕ) → length maps ≡ 8 → (default ≡ true → presence maps ≡ 0) → mapped default (get_or (field 1 (presence_in default maps) ++ rest) 0 0) ≡ presence maps
presence_again true maps rest eight none = sym (none refl)
presence_again false maps rest eight none = let small : presence maps < 256 = presence_below 8 maps (omega arith) in omega arith

presence_there : (default : Bool) (maps : List (Option ℕ)) → is_some (presence_in default maps) ≡ not default
presence_there true maps = refl
presence_there false maps = refl

mapped_small : (default : Bool) (octets : List ℕ) → IsOctets octets → mapped default (get_or octets 0 0) < 2 ^ 8
mapped_small true octets is = omega arith
mapped_small false octets is = octet_below octets 0 is

mapped_none : (default : Bool) (first : ℕ) → default ≡ true → mapped default first ≡ 0
mapped_none true first e = refl
mapped_none false first e = absurd (cc e)

-- ---- what is read is a value, and the body is its spelling

-- the value of these octets, where the fields are whole
abbrev pub value_read : ℕ → List ℕ → Ttlm
value_read octet octets = value_at octet (mapped (has_bit octet 4) (get_or octets 0 0)) octets

-- the first field of these octets that isn't whole
abbrev pub cut_read : ℕ → List ℕ → Option ℕ
cut_read octet octets = first_cut (widths octet (mapped (has_bit octet 4) (get_or octets 0 0))) (length octets)

pub value_takes : (octet : ℕ) (octets : List ℕ) → octet < 256 → octet % 4 ≢ 3 → IsOctets octets → cut_read octet octets ≡ None → TtlmOf (value_read octet octets) (octet ∷ octets)
unfolding value_at
value_takes octet octets small free is whole =
    let default = has_bit octet 4 in
    let present = mapped default (get_or octets 0 0) in
    let room = room_for (widths octet present) (length octets) whole in
    let switched = after_field (not default) 1 octets in
    let lasting = after_field (has_bit octet 8) 2 switched in
    let p = field_takes (not default) 1 octets is (omega (arith, room)) in
    let s = field_takes (has_bit octet 8) 2 switched p.rest_is (omega (arith, room, p.left)) in
    let d = field_takes (has_bit octet 16) 3 lasting s.rest_is (omega (arith, room, p.left, s.left)) in
    let m = maps_take 8 present (has_bit octet 32) (after_field (has_bit octet 16) 3 lasting) (mapped_small default octets is) d.rest_is (omega (arith, room, p.left, s.left, d.left)) in
    let t = value_read octet octets in
    let first : control t ≡ octet = rw (s.same, d.same) (bits_of octet) in
    let presence_is : number_in (field_at (not default) 1 octets) ≡ presence_in default t.maps = presence_read default octets t.maps (omega (arith, room)) m.same in
    let maps_text : List ℕ = mappings (map_width t.narrow) t.maps ++ t.tail in
    let all : octets ≡ field 1 (presence_in default t.maps) ++ (field 2 t.switch ++ (field 3 t.duration ++ maps_text)) =
    p.parts ∙ ap (λ (x : Option ℕ). field 1 x ++ switched) presence_is
    ∙ ap (λ (x : List ℕ). field 1 (presence_in default t.maps) ++ x) (s.parts ∙ ap (λ (x : List ℕ). field 2 t.switch ++ x) (d.parts ∙ ap (λ (x : List ℕ). field 3 t.duration ++ x) m.parts)) in
    record {
      is_value = record {
        direction = omega arith;
        spare = omega arith;
        switch = s.fits;
        duration = d.fits;
        eight = m.counted;
        fit = m.fit;
        none = λ h. none_of t.maps (m.same ∙ mapped_none default (get_or octets 0 0) h);
      };
      text = rw first (ap (λ (x : List ℕ). octet ∷ x) all);
    }

-- ---- what is spelled is read

abbrev fields : Ttlm → List ℕ
fields t = field 1 (presence_in t.default t.maps) ++ (field 2 t.switch ++ (field 3 t.duration ++ (mappings (map_width t.narrow) t.maps ++ t.tail)))

-- the octets behind the control octet are read as the value
record IsRead (t : Ttlm) : Type 0 where
  free : control t % 4 ≢ 3
  whole : cut_read (control t) (fields t) ≡ None
  value : value_read (control t) (fields t) ≡ t

is_read : (t : Ttlm) → IsTtlm t → IsRead t
unfolding value_at
is_read t is =
    let c = control_again t.direction t.default (is_some t.switch) (is_some t.duration) t.narrow t.spare (omega (arith, is.direction)) in
    let rest3 = mappings (map_width t.narrow) t.maps ++ t.tail in
    let rest2 = field 3 t.duration ++ rest3 in
    let rest1 = field 2 t.switch ++ rest2 in
    let first = presence_in t.default t.maps in
    let there : not t.default ≡ is_some first = sym (presence_there t.default t.maps) in
    let present : mapped (has_bit (control t) 4) (get_or (fields t) 0 0) ≡ presence t.maps = rw c.default (presence_again t.default t.maps rest1 is.eight (λ h. none_present t.maps (is.none h))) in
    let maps : maps_at 8 (presence t.maps) (map_width t.narrow) rest3 ≡ (t.maps, t.tail) = subst (λ (n : ℕ). maps_at n (presence t.maps) (map_width t.narrow) rest3 ≡ (t.maps, t.tail)) is.eight (maps_again t.maps (map_width t.narrow) t.tail is.fit) in
    let taken : total (map_widths 8 (presence t.maps) (map_width t.narrow)) ≡ length (mappings (map_width t.narrow) t.maps) = subst (λ (n : ℕ). total (map_widths n (presence t.maps) (map_width t.narrow)) ≡ length (mappings (map_width t.narrow) t.maps)) is.eight (widths_again t.maps (map_width t.narrow)) in
    let room : total (widths (control t) (presence t.maps)) ≤ length (fields t) = rw (c.default, c.switch, c.duration, c.narrow, there) (omega (
      arith,
      taken,
      width_again 1 first,
      width_again 2 t.switch,
      width_again 3 t.duration,
      length-append (field 1 first) rest1,
      length-append (field 2 t.switch) rest2,
      length-append (field 3 t.duration) rest3,
      length-append (mappings (map_width t.narrow) t.maps) t.tail,
    )) in
    record {
      free = λ e. omega (arith, e, c.direction, is.direction);
      whole = ap (λ (n : ℕ). first_cut (widths (control t) n) (length (fields t))) present ∙ (all_whole (widths (control t) (presence t.maps)) (length (fields t)) room);
      value = ap (λ (n : ℕ). value_at (control t) n (fields t)) present ∙ rw (c.direction, c.default, c.switch, c.duration, c.narrow, c.spare, there, after_again 1 first rest1, field_again 2 t.switch rest2 is.switch, after_again 2 t.switch rest2, field_again 3 t.duration rest3 is.duration, after_again 3 t.duration rest3, maps) refl;
    }

-- ---- the laws

same_value : (t u : Ttlm) → IsTtlm t → IsTtlm u → spelling t ≡ spelling u → t ≡ u
same_value t u p q e =
    let c : control t ≡ control u = cc in
    let f : fields t ≡ fields u = cc in
    sym (is_read t p).value ∙ ap (λ (n : ℕ). value_read n (fields t)) c ∙ ap (value_read (control u)) f ∙ (is_read u q).value

not_refused : (t : Ttlm) (refusal : Refusal) → IsRead t → TtlmRefused (spelling t) refusal → ⊥
not_refused t refusal is (inl reserved) = is.free reserved.0
not_refused t refusal is (inr (free, place, cut, e)) = let two : None ≡ Some cut.left = sym is.whole ∙ cut.cut in cc

refused_once : (body : List ℕ) (a b : Refusal) → TtlmRefused body a → TtlmRefused body b → a ≡ b
refused_once [] a b p q = p ∙ sym q
refused_once (octet ∷ octets) a b (inl p) (inl q) = p.1 ∙ sym q.1
refused_once (octet ∷ octets) a b (inl p) (inr q) = absurd (q.0 p.0)
refused_once (octet ∷ octets) a b (inr p) (inl q) = absurd (p.0 q.0)
refused_once (octet ∷ octets) a b (inr (free, place, cut, p)) (inr (_, other, again, q)) =
    let left : Some cut.left ≡ Some again.left = sym cut.cut ∙ again.cut in
    let same : cut.left ≡ again.left = cc in
    p ∙ ap (λ (n : ℕ). refusal_at n Truncated) (omega (arith, same, cut.counted, again.counted)) ∙ sym q

not_both : (t : Ttlm) (body : List ℕ) (refusal : Refusal) → TtlmOf t body → TtlmRefused body refusal → ⊥
not_both t body refusal of refused = not_refused t refusal (is_read t of.is_value) (subst (λ (b : List ℕ). TtlmRefused b refusal) of.text refused)

pub one_reading : (body : List ℕ) (a b : Result Ttlm Refusal) → ReadAs body a → ReadAs body b → a ≡ b
one_reading body (Ok t) (Ok u) p q = ap (λ (x : Ttlm). Ok x) (same_value t u p.is_value q.is_value (sym p.text ∙ q.text))
one_reading body (Ok t) (Err refusal) p q = absurd (not_both t body refusal p q)
one_reading body (Err refusal) (Ok t) p q = absurd (not_both t body refusal q p)
one_reading body (Err a) (Err b) p q = ap (λ (x : Refusal). Err x) (refused_once body a b p q)

pub one_spelling : (t : Ttlm) (body other : List ℕ) → TtlmOf t body → TtlmOf t other → body ≡ other
one_spelling t body other p q = p.text ∙ sym q.text

pub is_cut : (octet : ℕ) (octets : List ℕ) (left : ℕ) → octet % 4 ≢ 3 → cut_read octet octets ≡ Some left → TtlmRefused (octet ∷ octets) (refusal_at (1 + length octets - left) Truncated)
is_cut octet octets left free cut =
    let within = cut_within (widths octet (mapped (has_bit octet 4) (get_or octets 0 0))) (length octets) left cut in
    inr (free, 1 + length octets - left, record { left = left; cut = cut; counted = omega arith }, refl)

by_cut : (octet : ℕ) (octets : List ℕ) (cut : Option ℕ) → octet < 256 → octet % 4 ≢ 3 → IsOctets octets → cut_read octet octets ≡ cut → (reading : Result Ttlm Refusal) × ReadAs (octet ∷ octets) reading
by_cut octet octets None small free is e = (Ok (value_read octet octets), value_takes octet octets small free is e)
by_cut octet octets (Some left) small free is e = (Err (refusal_at (1 + length octets - left) Truncated), is_cut octet octets left free e)

by_direction : (octet : ℕ) (octets : List ℕ) (reserved : Bool) → octet < 256 → eqb (octet % 4) 3 ≡ reserved → IsOctets octets → (reading : Result Ttlm Refusal) × ReadAs (octet ∷ octets) reading
by_direction octet octets true small e is = (Err (refusal_at 0 ReservedDirection), inl (eqb-true _ _ e, refl))
by_direction octet octets false small e is = by_cut octet octets (cut_read octet octets) small (λ same. absurd (cc (e, eq-eqb (octet % 4) 3 same))) is refl

pub is_read_or_refused : (body : List ℕ) → IsOctets body → (reading : Result Ttlm Refusal) × ReadAs body reading
is_read_or_refused [] is = (Err (refusal_at 0 Truncated), refl)
is_read_or_refused (octet ∷ octets) is = by_direction octet octets (eqb (octet % 4) 3) is.0 refl is.1

pub is_read_back : (t : Ttlm) (body : List ℕ) (reading : Result Ttlm Refusal) → TtlmOf t body → ReadAs body reading → reading ≡ Ok t
is_read_back t body reading of read = one_reading body reading (Ok t) read of

-- what is answered is the one reading
pub only_reading : (body : List ℕ) (answer : Result Ttlm Fault) → Answers answer (ReadAs body) → (reading : Result Ttlm Refusal) → ReadAs body reading → AnswersOnly answer reading
only_reading body (Ok t) given reading read = one_reading body reading (Ok t) read given
only_reading body (Err (faults.Refused refusal)) given reading read = one_reading body reading (Err refusal) read given
only_reading body (Err faults.Memory) given reading read = tt
