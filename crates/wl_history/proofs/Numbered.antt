-- A frame with another sequence number is the frame that has it.
use Rattle.std.proofs.Common.{◌≡◌, ℕ, ◌+◌, ◌*◌, ◌/◌, ◌%◌, ◌<◌, List, ◌∷◌, ◌++◌, length, set, sym, ap, ◌∙◌, arith, length-append, append_assoc}
use Rattle.std.proofs.lemmas.List.{set-append_right, get_or-append_right}
use Rattle.wl_elem.specs.Octets.{octets_of}
use Rattle.wl_frame.specs.declared.header.Header.{Header}
use Rattle.wl_frame.specs.Frame.{FrameValue, IsHeader, first_octet, flags, qos_control, ccmp_header, spelling}
use Rattle.wl_history.specs.Hearing.{with_number}

-- what stands before the sequence control, and behind it
abbrev front : Header → List ℕ
front h = first_octet h.kind ∷ flags h ∷ (octets_of 2 h.duration ++ (h.a1 ++ (h.a2 ++ h.a3)))

abbrev behind : FrameValue → List ℕ
behind f = qos_control f.header.kind ++ (ccmp_header f.protection ++ f.payload)

regrouped : (d a b c o rest : List ℕ) → (d ++ (a ++ (b ++ (c ++ o)))) ++ rest ≡ (d ++ (a ++ (b ++ c))) ++ (o ++ rest)
regrouped d a b c o rest =
    ap (λ (l : List ℕ). (d ++ (a ++ l)) ++ rest) (sym (append_assoc b c o)) ∙ ap (λ (l : List ℕ). (d ++ l) ++ rest) (sym (append_assoc a (b ++ c) o))
    ∙ ap (λ (l : List ℕ). l ++ rest) (sym (append_assoc d (a ++ (b ++ c)) o)) ∙ append_assoc (d ++ (a ++ (b ++ c))) o rest

parted : (f : FrameValue) → spelling f ≡ front f.header ++ (octets_of 2 (16 * f.header.number) ++ behind f)
parted f = ap (λ (l : List ℕ). first_octet f.header.kind ∷ flags f.header ∷ l) (regrouped (octets_of 2 f.header.duration) f.header.a1 f.header.a2 f.header.a3 (octets_of 2 (16 * f.header.number)) (behind f))

front_length : (h : Header) → IsHeader h → length (front h) ≡ 22
front_length h is =
    omega (arith, is.a1, is.a2, is.a3, length-append (octets_of 2 h.duration) (h.a1 ++ (h.a2 ++ h.a3)), length-append h.a1 (h.a2 ++ h.a3), length-append h.a2 h.a3)

-- the two octets of the sequence control are put in
put_in : (xs rest : List ℕ) (low high number : ℕ) → length xs ≡ 22 → with_number number (xs ++ (low ∷ high ∷ rest)) ≡ xs ++ ((low % 16 + number % 16 * 16) ∷ number / 16 ∷ rest)
put_in xs rest low high number len =
    ap (λ (at : ℕ). set (set (xs ++ (low ∷ high ∷ rest)) 22 (at % 16 + number % 16 * 16)) 23 (number / 16)) (get_or-append_right xs (low ∷ high ∷ rest) 22 22 0 len (omega arith))
    ∙ ap (λ (l : List ℕ). set l 23 (number / 16)) (set-append_right xs (low ∷ high ∷ rest) 22 22 (low % 16 + number % 16 * 16) len (omega arith))
    ∙ set-append_right xs ((low % 16 + number % 16 * 16) ∷ high ∷ rest) 22 23 (number / 16) len (omega arith)

low_is : (old number : ℕ) → 16 * old % 256 % 16 + number % 16 * 16 ≡ 16 * number % 256
low_is old number = omega arith

high_is : (number : ℕ) → number < 4096 → number / 16 ≡ 16 * number / 256 % 256
high_is number lt = omega (arith, lt)

pub renumbered : (number : ℕ) (f : FrameValue) → IsHeader f.header → number < 4096 → with_number number (spelling f) ≡ spelling (record f { header = record f.header { number = number } })
renumbered number f is lt =
    let old = 16 * f.header.number in
    let g : FrameValue = record f { header = record f.header { number = number } } in
    ap (with_number number) (parted f) ∙ put_in (front f.header) (behind f) (old % 256) (old / 256 % 256) number (front_length f.header is)
    ∙ ap (λ (low : ℕ). front f.header ++ (low ∷ number / 16 ∷ behind f)) (low_is f.header.number number)
    ∙ ap (λ (high : ℕ). front f.header ++ (16 * number % 256 ∷ high ∷ behind f)) (high_is number lt)
    ∙ sym (parted g)
