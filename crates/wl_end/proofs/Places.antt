-- Look-ups by position in hands, queues and marks, and the entries that they find.
use Rattle.std.proofs.Common.{◌≡◌, ℕ, zero, suc, ◌+◌, ◌<◌, Bool, true, false, List, [], ◌∷◌, ◌++◌, length, replicate, ◌-◌, refl, ap, ◌∙◌, arith}
use Rattle.std.specs.Prelude.{slice_get, slice_set, unwrap_or}
use Rattle.std.specs.List.{AllByRecursion}
use Rattle.std.proofs.lemmas.List.{append-nil}
use Rattle.wl_history.specs.declared.hand.Hand.{Hand}
use Rattle.wl_history.specs.declared.hand.Hand.TheVariants.{Empty}
use Rattle.wl_history.specs.Hands.{hand_of, set_hand}
use Rattle.wl_history.specs.Answers.{is_empty}
use Rattle.wl_history.specs.Words.{body_at}
use Rattle.wl_history.specs.EndState.{was_aired_at, aired_at}

-- ---- hands

pub hand_found : (hands : List Hand) (thread : ℕ) → hand_of hands thread ≡ unwrap_or (slice_get hands thread) Empty
hand_found [] thread = refl
hand_found (hand ∷ hands) zero = refl
hand_found (hand ∷ hands) (suc thread) = hand_found hands thread

pub held_within : (hands : List Hand) (thread : ℕ) → is_empty (hand_of hands thread) ≡ false → thread < length hands
held_within [] thread held = absurd (cc held)
held_within (hand ∷ hands) zero held = omega arith
held_within (hand ∷ hands) (suc thread) held = omega (arith, held_within hands thread held)

pub hand_set_within : (hands : List Hand) (thread : ℕ) (new : Hand) → thread < length hands → slice_set hands thread new ≡ set_hand thread new hands
hand_set_within [] thread new lt = absurd (omega arith)
hand_set_within (hand ∷ hands) zero new lt = refl
hand_set_within (hand ∷ hands) (suc thread) new lt = ap (λ (rest : List Hand). hand ∷ rest) (hand_set_within hands thread new (omega arith))

hand_alone : (thread : ℕ) (new : Hand) → set_hand thread new (replicate (suc thread) Empty) ≡ set_hand thread new []
hand_alone zero new = refl
hand_alone (suc thread) new = ap (λ (rest : List Hand). Empty ∷ rest) (hand_alone thread new)

hand_gap : (hands : List Hand) (thread : ℕ) (new : Hand) → set_hand thread new (hands ++ replicate (suc thread - length hands) Empty) ≡ set_hand thread new hands
hand_gap [] thread new =
    let all : suc thread - 0 ≡ suc thread = omega arith in
    ap (λ (k : ℕ). set_hand thread new (replicate k Empty)) all ∙ hand_alone thread new
hand_gap (hand ∷ hands) zero new =
    let none : 1 - length (hand ∷ hands) ≡ 0 = omega arith in
    ap (λ (k : ℕ). new ∷ (hands ++ replicate k Empty)) none ∙ ap (λ (rest : List Hand). new ∷ rest) (append-nil hands)
hand_gap (hand ∷ hands) (suc thread) new =
    let less : suc (suc thread) - length (hand ∷ hands) ≡ suc thread - length hands = omega arith in
    ap (λ (k : ℕ). hand ∷ set_hand thread new (hands ++ replicate k Empty)) less ∙ ap (λ (rest : List Hand). hand ∷ rest) (hand_gap hands thread new)

-- a hand that is set where each thread up to it has an entry
pub hand_filled : (hands filled : List Hand) (thread : ℕ) (new : Hand) → thread < length filled → filled ≡ hands ++ replicate (thread + 1 - length hands) Empty → slice_set filled thread new ≡ set_hand thread new hands
hand_filled hands filled thread new lt is =
    let next : thread + 1 - length hands ≡ suc thread - length hands = omega arith in
    hand_set_within filled thread new lt ∙ ap (set_hand thread new) (is ∙ ap (λ (k : ℕ). hands ++ replicate k Empty) next) ∙ hand_gap hands thread new

-- ---- bodies

pub body_found : (bodies : List (List ℕ)) (pos : ℕ) → body_at bodies pos ≡ unwrap_or (slice_get bodies pos) []
body_found [] pos = refl
body_found (body ∷ bodies) zero = refl
body_found (body ∷ bodies) (suc pos) = body_found bodies pos

pub body_all : (P : List ℕ → Type 0) (bodies : List (List ℕ)) (pos : ℕ) → AllByRecursion P bodies → P [] → P (body_at bodies pos)
body_all P [] pos all none = none
body_all P (body ∷ bodies) zero all none = all.0
body_all P (body ∷ bodies) (suc pos) all none = body_all P bodies pos all.1 none

pub all_more : (P : List ℕ → Type 0) (bodies : List (List ℕ)) (body : List ℕ) → AllByRecursion P bodies → P body → AllByRecursion P (bodies ++ body ∷ [])
all_more P [] body all is = (is, tt)
all_more P (first ∷ bodies) body all is = (all.0, all_more P bodies body all.1 is)

-- ---- marks

pub mark_found : (marks : List Bool) (pos : ℕ) → was_aired_at marks pos ≡ unwrap_or (slice_get marks pos) false
mark_found [] pos = refl
mark_found (mark ∷ marks) zero = refl
mark_found (mark ∷ marks) (suc pos) = mark_found marks pos

pub mark_set : (marks : List Bool) (pos : ℕ) → pos < length marks → slice_set marks pos true ≡ aired_at pos marks
mark_set [] pos lt = absurd (omega arith)
mark_set (mark ∷ marks) zero lt = refl
mark_set (mark ∷ marks) (suc pos) lt = ap (λ (rest : List Bool). mark ∷ rest) (mark_set marks pos (omega arith))

mark_alone : (pos : ℕ) → aired_at pos (replicate (suc pos) false) ≡ aired_at pos []
mark_alone zero = refl
mark_alone (suc pos) = ap (λ (rest : List Bool). false ∷ rest) (mark_alone pos)

mark_gap : (marks : List Bool) (pos : ℕ) → aired_at pos (marks ++ replicate (suc pos - length marks) false) ≡ aired_at pos marks
mark_gap [] pos =
    let all : suc pos - 0 ≡ suc pos = omega arith in
    ap (λ (k : ℕ). aired_at pos (replicate k false)) all ∙ mark_alone pos
mark_gap (mark ∷ marks) zero =
    let none : 1 - length (mark ∷ marks) ≡ 0 = omega arith in
    ap (λ (k : ℕ). true ∷ (marks ++ replicate k false)) none ∙ ap (λ (rest : List Bool). true ∷ rest) (append-nil marks)
mark_gap (mark ∷ marks) (suc pos) =
    let less : suc (suc pos) - length (mark ∷ marks) ≡ suc pos - length marks = omega arith in
    ap (λ (k : ℕ). mark ∷ aired_at pos (marks ++ replicate k false)) less ∙ ap (λ (rest : List Bool). mark ∷ rest) (mark_gap marks pos)

-- a mark that is set where each position up to it has one
pub mark_filled : (marks filled : List Bool) (pos : ℕ) → pos < length filled → filled ≡ marks ++ replicate (pos + 1 - length marks) false → slice_set filled pos true ≡ aired_at pos marks
mark_filled marks filled pos lt is =
    let next : pos + 1 - length marks ≡ suc pos - length marks = omega arith in
    mark_set filled pos lt ∙ ap (aired_at pos) (is ∙ ap (λ (k : ℕ). marks ++ replicate k false) next) ∙ mark_gap marks pos

-- ---- all but the last

pub all_front : {A : Type 0} (P : A → Type 0) (xs : List A) (last : A) → AllByRecursion P (xs ++ last ∷ []) → AllByRecursion P xs
all_front P [] last h = tt
all_front P (x ∷ xs) last h = (h.0, all_front P xs last h.1)
