-- The bodies are read in one way.
use Rattle.std.proofs.Common.{◌≡◌, ℕ, ◌+◌, ◌-◌, ◌*◌, ◌/◌, ◌%◌, ◌<◌, ◌≤◌, List, [], ◌∷◌, ◌++◌, length, drop, Result, Ok, Err, refl, sym, ap, subst, ◌∙◌, arith, inl, inr}
use Rattle.wl_elem.specs.declared.fault.Refusal.{Refusal}
use Rattle.wl_elem.specs.declared.why.Why.TheVariants.{Truncated}
use Rattle.wl_elem.specs.declared.fault.Fault.{Fault}
use Rattle.wl_elem.specs.declared.fault.Fault.TheVariants as faults
use Rattle.wl_elem.specs.Answers.{refusal_at, moved, Answers, AnswersOnly}
use Rattle.wl_elem.specs.Element.{ElementValue, body_limit}
use Rattle.wl_elem.specs.ElementList.{Elems, ElemsRefused, ReadAs}
use Rattle.wl_elem.specs.Encoding.{HasLength}
use Rattle.wl_elem.specs.Octets.{octets_of}
use Rattle.wl_elem.proofs.Octets.{IsOctets}
use Rattle.wl_assoc.specs.declared.association.AssocAsk.{AssocAsk}
use Rattle.wl_assoc.specs.declared.association.AssocReply.{AssocReply}
use Rattle.wl_assoc.specs.Association.{AskOf, ReplyOf, IsAskWritable, IsReplyWritable, BodyRefused, ReadsAsk, ReadsReply}

-- octets are read in one way as a list of elements, and all octets are read
abbrev pub ListsReadOnce : Type 0
ListsReadOnce = (octets : List ℕ) (a b : Result (List ElementValue) Refusal) → ReadAs octets a → ReadAs octets b → a ≡ b

abbrev pub ListsAreRead : Type 0
ListsAreRead = (octets : List ℕ) → IsOctets octets → (reading : Result (List ElementValue) Refusal) × ReadAs octets reading

abbrev pub a_list : List ElementValue → Result (List ElementValue) Refusal
a_list list = Ok list

abbrev pub no_list : Refusal → Result (List ElementValue) Refusal
no_list refusal = Err refusal

pub one_list : ListsReadOnce → (octets : List ℕ) (a b : List ElementValue) → Elems a octets → Elems b octets → a ≡ b
one_list once octets a b p q = let e = once octets (a_list a) (a_list b) p q in cc

pub list_or_refused : ListsReadOnce → (octets : List ℕ) (list : List ElementValue) (refusal : Refusal) → Elems list octets → ElemsRefused octets refusal → ⊥
list_or_refused once octets list refusal p q = absurd (cc (once octets (a_list list) (no_list refusal) p q))

pub one_list_refusal : ListsReadOnce → (octets : List ℕ) (a b : Refusal) → ElemsRefused octets a → ElemsRefused octets b → a ≡ b
one_list_refusal once octets a b p q = let e = once octets (no_list a) (no_list b) p q in cc

-- ---- a number in front

pub one_number : (m n : ℕ) (rest other : List ℕ) → m < 65536 → n < 65536 → octets_of 2 m ++ rest ≡ octets_of 2 n ++ other → (m ≡ n) × (rest ≡ other)
one_number m n rest other lt less e =
    let low : m % 256 ≡ n % 256 = cc in
    let high : m / 256 % 256 ≡ n / 256 % 256 = cc in
    let after : rest ≡ other = cc in
    (omega arith, after)

-- two octets are those of their number
pub number_text : (a b : ℕ) (rest : List ℕ) → a < 256 → b < 256 → (a ∷ b ∷ rest ≡ octets_of 2 (a + 256 * b) ++ rest) × (a + 256 * b < 65536)
number_text a b rest lt less =
    let low : (a + 256 * b) % 256 ≡ a = omega arith in
    let high : (a + 256 * b) / 256 % 256 ≡ b = omega arith in
    (rw (low, high) refl, omega arith)

-- ---- a body is a value's or refused

whole_or_refused : ListsReadOnce → (fixed : ℕ) (body elems : List ℕ) (list : List ElementValue) (refusal : Refusal) → drop fixed body ≡ elems → fixed ≤ length body → Elems list elems → BodyRefused fixed body refusal → ⊥
whole_or_refused once fixed body elems list refusal same long is (inl (short, e)) = absurd (omega arith)
whole_or_refused once fixed body elems list refusal same long is (inr (le, inside, refused, e)) =
    list_or_refused once elems list inside is (subst (λ (x : List ℕ). ElemsRefused x inside) same refused)

one_body_refusal : ListsReadOnce → (fixed : ℕ) (body : List ℕ) (a b : Refusal) → BodyRefused fixed body a → BodyRefused fixed body b → a ≡ b
one_body_refusal once fixed body a b (inl (short, e)) (inl (again, f)) = e ∙ sym f
one_body_refusal once fixed body a b (inl (short, e)) (inr (long, inside, refused, f)) = absurd (omega arith)
one_body_refusal once fixed body a b (inr (long, inside, refused, e)) (inl (short, f)) = absurd (omega arith)
one_body_refusal once fixed body a b (inr (long, inside, refused, e)) (inr (le, other, again, f)) =
    e ∙ ap (moved fixed) (one_list_refusal once (drop fixed body) inside other refused again) ∙ sym f

one_ask : ListsReadOnce → (body : List ℕ) (a b : AssocAsk) → AskOf a body → AskOf b body → a ≡ b
one_ask once body a b p q =
    let one = one_number a.capability b.capability (octets_of 2 a.listen ++ p.elems) (octets_of 2 b.listen ++ q.elems) p.capability q.capability (sym p.text ∙ q.text) in
    let two = one_number a.listen b.listen p.elems q.elems p.listen q.listen one.1 in
    let same = one_list once p.elems a.elements b.elements p.list (subst (λ (x : List ℕ). Elems b.elements x) (sym two.1) q.list) in
    λ i. record { capability = one.0 i; listen = two.0 i; elements = same i }

ask_whole : ListsReadOnce → (body : List ℕ) (a : AssocAsk) (refusal : Refusal) → AskOf a body → BodyRefused 4 body refusal → ⊥
ask_whole once body a refusal p refused = whole_or_refused once 4 body p.elems a.elements refusal (ap (drop 4) p.text) (omega (arith, ap length p.text)) p.list refused

pub one_ask_reading : ListsReadOnce → (body : List ℕ) (a b : Result AssocAsk Refusal) → ReadsAsk body a → ReadsAsk body b → a ≡ b
one_ask_reading once body (Ok a) (Ok b) p q = ap (λ (x : AssocAsk). Ok x) (one_ask once body a b p q)
one_ask_reading once body (Ok a) (Err b) p q = absurd (ask_whole once body a b p q)
one_ask_reading once body (Err a) (Ok b) p q = absurd (ask_whole once body b a q p)
one_ask_reading once body (Err a) (Err b) p q = ap (λ (x : Refusal). Err x) (one_body_refusal once 4 body a b p q)

one_reply : ListsReadOnce → (body : List ℕ) (a b : AssocReply) → ReplyOf a body → ReplyOf b body → a ≡ b
one_reply once body a b p q =
    let one = one_number a.capability b.capability (octets_of 2 a.status ++ (octets_of 2 a.aid ++ p.elems)) (octets_of 2 b.status ++ (octets_of 2 b.aid ++ q.elems)) p.capability q.capability (sym p.text ∙ q.text) in
    let two = one_number a.status b.status (octets_of 2 a.aid ++ p.elems) (octets_of 2 b.aid ++ q.elems) p.status q.status one.1 in
    let three = one_number a.aid b.aid p.elems q.elems p.aid q.aid two.1 in
    let same = one_list once p.elems a.elements b.elements p.list (subst (λ (x : List ℕ). Elems b.elements x) (sym three.1) q.list) in
    λ i. record { capability = one.0 i; status = two.0 i; aid = three.0 i; elements = same i }

reply_whole : ListsReadOnce → (body : List ℕ) (a : AssocReply) (refusal : Refusal) → ReplyOf a body → BodyRefused 6 body refusal → ⊥
reply_whole once body a refusal p refused = whole_or_refused once 6 body p.elems a.elements refusal (ap (drop 6) p.text) (omega (arith, ap length p.text)) p.list refused

pub one_reply_reading : ListsReadOnce → (body : List ℕ) (a b : Result AssocReply Refusal) → ReadsReply body a → ReadsReply body b → a ≡ b
one_reply_reading once body (Ok a) (Ok b) p q = ap (λ (x : AssocReply). Ok x) (one_reply once body a b p q)
one_reply_reading once body (Ok a) (Err b) p q = absurd (reply_whole once body a b p q)
one_reply_reading once body (Err a) (Ok b) p q = absurd (reply_whole once body b a q p)
one_reply_reading once body (Err a) (Err b) p q = ap (λ (x : Refusal). Err x) (one_body_refusal once 6 body a b p q)

-- ---- all octets are read

ask_behind : (a b c d : ℕ) (rest : List ℕ) (reading : Result (List ElementValue) Refusal) → IsOctets (a ∷ b ∷ c ∷ d ∷ rest) → ReadAs rest reading → (answer : Result AssocAsk Refusal) × ReadsAsk (a ∷ b ∷ c ∷ d ∷ rest) answer
ask_behind a b c d rest (Ok list) is read =
    let one = number_text a b (c ∷ d ∷ rest) is.0 is.1.0 in
    let two = number_text c d rest is.1.1.0 is.1.1.1.0 in (
      Ok (record { capability = a + 256 * b; listen = c + 256 * d; elements = list }),
      record { capability = one.1; listen = two.1; elems = rest; list = read; text = one.0 ∙ ap (λ (x : List ℕ). octets_of 2 (a + 256 * b) ++ x) two.0 },
    )
ask_behind a b c d rest (Err inside) is refused = (Err (moved 4 inside), inr (omega arith, inside, refused, refl))

ask_short : (body : List ℕ) → length body < 4 → (answer : Result AssocAsk Refusal) × ReadsAsk body answer
ask_short body short = (Err (refusal_at _ Truncated), inl (short, refl))

pub ask_is_read : ListsAreRead → (body : List ℕ) → IsOctets body → (answer : Result AssocAsk Refusal) × ReadsAsk body answer
ask_is_read lists [] is = ask_short [] (omega arith)
ask_is_read lists (a ∷ []) is = ask_short (a ∷ []) (omega arith)
ask_is_read lists (a ∷ b ∷ []) is = ask_short (a ∷ b ∷ []) (omega arith)
ask_is_read lists (a ∷ b ∷ c ∷ []) is = ask_short (a ∷ b ∷ c ∷ []) (omega arith)
ask_is_read lists (a ∷ b ∷ c ∷ d ∷ rest) is = let reading = lists rest is.1.1.1.1 in ask_behind a b c d rest reading.0 is reading.1

reply_behind : (a b c d e f : ℕ) (rest : List ℕ) (reading : Result (List ElementValue) Refusal) → IsOctets (a ∷ b ∷ c ∷ d ∷ e ∷ f ∷ rest) → ReadAs rest reading → (answer : Result AssocReply Refusal) × ReadsReply (a ∷ b ∷ c ∷ d ∷ e ∷ f ∷ rest) answer
reply_behind a b c d e f rest (Ok list) is read =
    let one = number_text a b (c ∷ d ∷ e ∷ f ∷ rest) is.0 is.1.0 in
    let two = number_text c d (e ∷ f ∷ rest) is.1.1.0 is.1.1.1.0 in
    let three = number_text e f rest is.1.1.1.1.0 is.1.1.1.1.1.0 in (
      Ok (record { capability = a + 256 * b; status = c + 256 * d; aid = e + 256 * f; elements = list }),
      record {
        capability = one.1;
        status = two.1;
        aid = three.1;
        elems = rest;
        list = read;
        text = one.0 ∙ ap (λ (x : List ℕ). octets_of 2 (a + 256 * b) ++ x) (two.0 ∙ ap (λ (x : List ℕ). octets_of 2 (c + 256 * d) ++ x) three.0);
      },
    )
reply_behind a b c d e f rest (Err inside) is refused = (Err (moved 6 inside), inr (omega arith, inside, refused, refl))

reply_short : (body : List ℕ) → length body < 6 → (answer : Result AssocReply Refusal) × ReadsReply body answer
reply_short body short = (Err (refusal_at _ Truncated), inl (short, refl))

pub reply_is_read : ListsAreRead → (body : List ℕ) → IsOctets body → (answer : Result AssocReply Refusal) × ReadsReply body answer
reply_is_read lists [] is = reply_short [] (omega arith)
reply_is_read lists (a ∷ []) is = reply_short (a ∷ []) (omega arith)
reply_is_read lists (a ∷ b ∷ []) is = reply_short (a ∷ b ∷ []) (omega arith)
reply_is_read lists (a ∷ b ∷ c ∷ []) is = reply_short (a ∷ b ∷ c ∷ []) (omega arith)
reply_is_read lists (a ∷ b ∷ c ∷ d ∷ []) is = reply_short (a ∷ b ∷ c ∷ d ∷ []) (omega arith)
reply_is_read lists (a ∷ b ∷ c ∷ d ∷ e ∷ []) is = reply_short (a ∷ b ∷ c ∷ d ∷ e ∷ []) (omega arith)
reply_is_read lists (a ∷ b ∷ c ∷ d ∷ e ∷ f ∷ rest) is = let reading = lists rest is.1.1.1.1.1.1 in reply_behind a b c d e f rest reading.0 is reading.1

-- ---- what has a body

pub ask_has_body : (ask : AssocAsk) (len : ℕ) → ask.capability < 65536 → ask.listen < 65536 → ((octets : List ℕ) × Elems ask.elements octets) → HasLength ask.elements len → len ≤ body_limit - 4 → IsAskWritable ask
ask_has_body ask len capability listen (octets, list) has le =
    (_, omega (arith, has octets list), record { capability = capability; listen = listen; elems = octets; list = list; text = refl })

pub ask_is_short : (ask : AssocAsk) (len : ℕ) → HasLength ask.elements len → IsAskWritable ask → len ≤ body_limit - 4
ask_is_short ask len has (body, le, of) = omega (arith, le, ap length of.text, has of.elems of.list)

pub reply_has_body : (reply : AssocReply) (len : ℕ) → reply.capability < 65536 → reply.status < 65536 → reply.aid < 65536 → ((octets : List ℕ) × Elems reply.elements octets) → HasLength reply.elements len → len ≤ body_limit - 6 → IsReplyWritable reply
reply_has_body reply len capability status aid (octets, list) has le =
    (_, omega (arith, has octets list), record { capability = capability; status = status; aid = aid; elems = octets; list = list; text = refl })

pub reply_is_short : (reply : AssocReply) (len : ℕ) → HasLength reply.elements len → IsReplyWritable reply → len ≤ body_limit - 6
reply_is_short reply len has (body, le, of) = omega (arith, le, ap length of.text, has of.elems of.list)

-- ---- the decoders' answers

-- what was answered is the only reading
pub answered_only : {V : Type 0} (answer : Result V Fault) (Reads : Result V Refusal → Type 0) → ((a b : Result V Refusal) → Reads a → Reads b → a ≡ b) → Answers answer Reads → (reading : Result V Refusal) → Reads reading → AnswersOnly answer reading
answered_only (Ok value) Reads once read reading is = once reading (Ok value) is read
answered_only (Err (faults.Refused refusal)) Reads once read reading is = once reading (Err refusal) is read
answered_only (Err faults.Memory) Reads once read reading is = tt
