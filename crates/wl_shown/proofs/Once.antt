-- One text is shown for an input, or it has one first bad line, and not both.
use Rattle.std.proofs.Common.{◌≡◌, ℕ, suc, Bool, length, List, [], ◌∷◌, ◌++◌, Option, Some, None, Result, Ok, Err, sym, ap, subst, ◌∙◌, inl, inr}
use Rattle.std.specs.Prelude.{◌⊎◌, codes}
use Rattle.wl_elem.specs.declared.fault.Refusal.{Refusal}
use Rattle.wl_elem.specs.declared.known.Known.{Known}
use Rattle.wl_elem.specs.Answers.{in_element}
use Rattle.wl_action.specs.declared.known.KnownValue.{KnownValue}
use Rattle.wl_action.specs.Known as knowns
use Rattle.wl_elem.specs.Element.{ElementValue}
use Rattle.wl_elem.specs.ElementList.{ReadAs}
use Rattle.wl_action.specs.declared.action.Action.{Action}
use Rattle.wl_action.specs.Action as actions
use Rattle.wl_action.specs.Action.{elements_of}
use Rattle.wl_assoc.specs.declared.association.AssocAsk.{AssocAsk}
use Rattle.wl_assoc.specs.declared.association.AssocReply.{AssocReply}
use Rattle.wl_assoc.specs.declared.links.LinkAsk.{LinkAsk}
use Rattle.wl_assoc.specs.declared.links.LinkState.{LinkState}
use Rattle.wl_assoc.specs.Association.{ReadsAsk, ReadsReply}
use Rattle.wl_assoc.specs.Profiles.{AsksAs, StatesAs}
use Rattle.wl_shown.specs.ActionText.{action_text, decoded_in}
use Rattle.wl_shown.specs.AssocText.{ask_text, asks_text, reply_text, states_text}
use Rattle.wl_frame.specs.Frame.{FrameValue}
use Rattle.wl_frame.specs.Refusals as frames
use Rattle.wl_shown.specs.declared.item.ShownElements.{ShownElements}
use Rattle.wl_shown.specs.declared.item.ShownElements.TheVariants.{All, Basic}
use Rattle.wl_shown.specs.declared.line.Kind.{Kind}
use Rattle.wl_shown.specs.declared.line.Kind.TheVariants as kinds
use Rattle.wl_shown.specs.FrameText.{frame_text}
use Rattle.wl_shown.specs.Shown.{Answer, known_text, KnownAs, shown_as, ItemBy, ItemAs, ItemsAs, ListAs, FrameAs, ActionAs, between, AnswerAs, Shown, behind, answer_text}
use Rattle.wl_shown.specs.Decoded.{ShownFor, ShownLines, IsFirstBad}
use Rattle.wl_shown.specs.Checked.{is_accepted, verdict_text, VerdictFor, first_refused, VerdictLines}
use Rattle.wl_shown.proofs.Lines.{one_hex_line}

-- octets are read in one way, as a list of elements and as a mapping element's body
abbrev pub ListsReadOnce : Type 0
ListsReadOnce = (octets : List ℕ) (a b : Result (List ElementValue) Refusal) → ReadAs octets a → ReadAs octets b → a ≡ b

-- bodies of the elements that are decoded are read in one way
abbrev pub ItemsReadOnce : Type 0
ItemsReadOnce = (known : Known) (body : List ℕ) (a b : Result KnownValue Refusal) → knowns.ReadAs known body a → knowns.ReadAs known body b → a ≡ b

abbrev text_of : List ℕ → Answer
text_of text = Ok text

abbrev refused : Refusal → Answer
refused refusal = Err refusal

abbrev value : KnownValue → Result KnownValue Refusal
value v = Ok v

abbrev no_value : Refusal → Result KnownValue Refusal
no_value refusal = Err refusal

same_value : (v w : KnownValue) → value v ≡ value w → v ≡ w
same_value v w e = cc

same_refusal : (a b : Refusal) → no_value a ≡ no_value b → a ≡ b
same_refusal a b e = cc

one_known : ItemsReadOnce → (known : Known) (body : List ℕ) (a b : Answer) → KnownAs known body a → KnownAs known body b → a ≡ b
one_known once known body (Ok a) (Ok b) (v, p, e) (w, q, f) =
    let same : v ≡ w = same_value v w (once known body (value v) (value w) p q) in
    ap text_of (e ∙ ap known_text same ∙ sym f)
one_known once known body (Ok a) (Err b) (v, p, e) q = absurd (cc (once known body (value v) (no_value b) p q))
one_known once known body (Err a) (Ok b) p (w, q, f) = absurd (cc (once known body (no_value a) (value w) p q))
one_known once known body (Err a) (Err b) p q = ap refused (same_refusal a b (once known body (no_value a) (no_value b) p q))

abbrev pub FramesReadOnce : Type 0
FramesReadOnce = (octets : List ℕ) (a b : Result FrameValue Refusal) → frames.ReadAs octets a → frames.ReadAs octets b → a ≡ b

abbrev frame_value_of : FrameValue → Result FrameValue Refusal
frame_value_of f = Ok f

abbrev no_frame : Refusal → Result FrameValue Refusal
no_frame refusal = Err refusal

same_frame : (f g : FrameValue) → frame_value_of f ≡ frame_value_of g → f ≡ g
same_frame f g e = cc

same_no_frame : (a b : Refusal) → no_frame a ≡ no_frame b → a ≡ b
same_no_frame a b e = cc

one_frame : FramesReadOnce → (octets : List ℕ) (a b : Answer) → FrameAs octets a → FrameAs octets b → a ≡ b
one_frame once octets (Ok a) (Ok b) (f, p, e) (g, q, h) =
    let same : f ≡ g = same_frame f g (once octets (frame_value_of f) (frame_value_of g) p q) in
    ap text_of (e ∙ ap (λ (x : FrameValue). codes " " ++ frame_text x) same ∙ sym h)
one_frame once octets (Ok a) (Err b) (f, p, e) q = absurd (cc (once octets (frame_value_of f) (no_frame b) p q))
one_frame once octets (Err a) (Ok b) p (g, q, h) = absurd (cc (once octets (no_frame a) (frame_value_of g) p q))
one_frame once octets (Err a) (Err b) p q = ap refused (same_no_frame a b (once octets (no_frame a) (no_frame b) p q))

one_item_by : ItemsReadOnce → (found : Option Known) (e : ElementValue) (a b : Answer) → ItemBy found e a → ItemBy found e b → a ≡ b
one_item_by once (Some known) e a b p q = one_known once known e.body a b p q
one_item_by once None e a b p q = p ∙ sym q

one_item : ItemsReadOnce → (decoded : ShownElements) (e : ElementValue) (a b : Answer) → ItemAs decoded e a → ItemAs decoded e b → a ≡ b
one_item once decoded e a b p q = one_item_by once (shown_as decoded e) e a b p q

same_text : (a b : List ℕ) → text_of a ≡ text_of b → a ≡ b
same_text a b e = cc

same_fault : (a b : Refusal) → refused a ≡ refused b → a ≡ b
same_fault a b e = cc

one_items : ItemsReadOnce → (decoded : ShownElements) (i : ℕ) (list : List ElementValue) (a b : Answer) → ItemsAs decoded i list a → ItemsAs decoded i list b → a ≡ b
one_items once decoded i [] a b p q = p ∙ sym q
one_items once decoded i (e ∷ list) a b (inl (r, p, same)) (inl (s, q, also)) =
    same ∙ ap (λ (x : Refusal). refused (in_element i x)) (same_fault r s (one_item once decoded e (refused r) (refused s) p q)) ∙ sym also
one_items once decoded i (e ∷ list) a b (inl (r, p, same)) (inr (text, others, q, rest, also)) = absurd (cc (one_item once decoded e (refused r) (text_of text) p q))
one_items once decoded i (e ∷ list) a b (inr (text, others, p, rest, same)) (inl (s, q, also)) = absurd (cc (one_item once decoded e (text_of text) (refused s) p q))
one_items once decoded i (e ∷ list) a b (inr (text, others, p, rest, same)) (inr (text', others', q, rest', also)) =
    let first : text ≡ text' = same_text text text' (one_item once decoded e (text_of text) (text_of text') p q) in
    let more : others ≡ others' = one_items once decoded (suc i) list others others' rest rest' in
    same ∙ ap (λ (x : List ℕ). behind (32 ∷ x) others) first ∙ ap (behind (32 ∷ text')) more ∙ sym also

abbrev a_list : List ElementValue → Result (List ElementValue) Refusal
a_list list = Ok list

abbrev no_list : Refusal → Result (List ElementValue) Refusal
no_list refusal = Err refusal

same_list : (a b : List ElementValue) → a_list a ≡ a_list b → a ≡ b
same_list a b e = cc

same_list_fault : (a b : Refusal) → no_list a ≡ no_list b → a ≡ b
same_list_fault a b e = cc

one_listing : ListsReadOnce → ItemsReadOnce → (octets : List ℕ) (a b : Answer) → ListAs octets a → ListAs octets b → a ≡ b
one_listing lists once octets a b (inl (list, p, items)) (inl (other, q, more)) =
    let same : list ≡ other = same_list list other (lists octets (a_list list) (a_list other) p q) in
    one_items once All 0 list a b items (subst (λ (x : List ElementValue). ItemsAs All 0 x b) (sym same) more)
one_listing lists once octets a b (inl (list, p, items)) (inr (s, q, also)) = absurd (cc (lists octets (a_list list) (no_list s) p q))
one_listing lists once octets a b (inr (r, p, same)) (inl (other, q, more)) = absurd (cc (lists octets (no_list r) (a_list other) p q))
one_listing lists once octets a b (inr (r, p, same)) (inr (s, q, also)) = same ∙ ap refused (same_list_fault r s (lists octets (no_list r) (no_list s) p q)) ∙ sym also

-- ---- action and association bodies

-- readings by a relation are equal
abbrev pub OneReading : (A V : Type 0) → (A → Result V Refusal → Type 0) → Type 0
OneReading A V Reads = (x : A) (a b : Result V Refusal) → Reads x a → Reads x b → a ≡ b

abbrev value_of : {V : Type 0} → V → Result V Refusal
value_of v = Ok v

abbrev refusal_of : {V : Type 0} → Refusal → Result V Refusal
refusal_of r = Err r

same_of : {V : Type 0} (v w : V) → value_of v ≡ value_of w → v ≡ w
same_of v w e = cc

same_refused : {V : Type 0} (r s : Refusal) → refusal_of {V = V} r ≡ refusal_of s → r ≡ s
same_refused r s e = cc

not_value : {V : Type 0} (v : V) (r : Refusal) → value_of v ≡ refusal_of r → ⊥
not_value v r e = absurd (cc e)

one_action : OneReading (List ℕ) Action actions.ReadAs → ItemsReadOnce → (octets : List ℕ) (a b : Answer) → ActionAs octets a → ActionAs octets b → a ≡ b
one_action once items octets a b (inl (r, p, e)) (inl (s, q, f)) = e ∙ ap refused (same_refused {V = Action} r s (once octets (refusal_of r) (refusal_of s) p q)) ∙ sym f
one_action once items octets a b (inl (r, p, e)) (inr (w, is, q, i, f)) = absurd (not_value w r (once octets (value_of w) (refusal_of r) q p))
one_action once items octets a b (inr (v, is, p, i, e)) (inl (s, q, f)) = absurd (not_value v s (once octets (value_of v) (refusal_of s) p q))
one_action once items octets a b (inr (v, is, p, i, e)) (inr (w, other, q, j, f)) =
    let same : v ≡ w = same_of v w (once octets (value_of v) (value_of w) p q) in
    let there : ItemsAs (decoded_in v) 0 (elements_of v) other = subst (λ (x : Action). ItemsAs (decoded_in x) 0 (elements_of x) other) (sym same) j in
    let shown : is ≡ other = one_items items (decoded_in v) 0 (elements_of v) is other i there in
    e ∙ ap (λ (x : Answer). behind (codes " " ++ action_text v) x) shown ∙ ap (λ (x : Action). behind (codes " " ++ action_text x) other) same ∙ sym f

-- a body that is refused, or read and refused by its profiles, or read with them
abbrev pub BodyAs : (B P : Type 0) → (List ℕ → Result B Refusal → Type 0) → (B → Result (List P) Refusal → Type 0) → (B → List ElementValue) → (B → List ℕ) → (List P → List ℕ) → List ℕ → Answer → Type 0
BodyAs B P Reads Tells elements front back octets answer =
    ((refusal : Refusal) × Reads octets (Err refusal) × (answer ≡ Err refusal))
    ⊎ (((v : B) × (refusal : Refusal) × Reads octets (Ok v) × Tells v (Err refusal) × (answer ≡ Err refusal))
    ⊎ ((v : B) × (list : List P) × (items : Answer) × Reads octets (Ok v) × Tells v (Ok list) × ItemsAs Basic 0 (elements v) items × (answer ≡ between (front v) items (back list))))

one_body : (B P : Type 0) (Reads : List ℕ → Result B Refusal → Type 0) (Tells : B → Result (List P) Refusal → Type 0) (elements : B → List ElementValue) (front : B → List ℕ) (back : List P → List ℕ)
    → OneReading (List ℕ) B Reads → OneReading B (List P) Tells → ItemsReadOnce → (octets : List ℕ) (a b : Answer)
    → BodyAs B P Reads Tells elements front back octets a → BodyAs B P Reads Tells elements front back octets b → a ≡ b
one_body B P Reads Tells elements front back once tells items octets a b (inl (r, p, e)) (inl (s, q, f)) = e ∙ ap refused (same_refused {V = B} r s (once octets (refusal_of r) (refusal_of s) p q)) ∙ sym f
one_body B P Reads Tells elements front back once tells items octets a b (inl (r, p, e)) (inr (inl (w, s, q, t, f))) = absurd (not_value w r (once octets (value_of w) (refusal_of r) q p))
one_body B P Reads Tells elements front back once tells items octets a b (inl (r, p, e)) (inr (inr (w, l, is, q, t, i, f))) = absurd (not_value w r (once octets (value_of w) (refusal_of r) q p))
one_body B P Reads Tells elements front back once tells items octets a b (inr (inl (v, r, p, t, e))) (inl (s, q, f)) = absurd (not_value v s (once octets (value_of v) (refusal_of s) p q))
one_body B P Reads Tells elements front back once tells items octets a b (inr (inr (v, l, is, p, t, i, e))) (inl (s, q, f)) = absurd (not_value v s (once octets (value_of v) (refusal_of s) p q))
one_body B P Reads Tells elements front back once tells items octets a b (inr (inl (v, r, p, t, e))) (inr (inl (w, s, q, u, f))) =
    let same : v ≡ w = same_of v w (once octets (value_of v) (value_of w) p q) in
    let there = subst (λ (x : B). Tells x (Err s)) (sym same) u in
    e ∙ ap refused (same_refused {V = List P} r s (tells v (refusal_of r) (refusal_of s) t there)) ∙ sym f
one_body B P Reads Tells elements front back once tells items octets a b (inr (inl (v, r, p, t, e))) (inr (inr (w, l, is, q, u, i, f))) =
    let same : v ≡ w = same_of v w (once octets (value_of v) (value_of w) p q) in
    let there = subst (λ (x : B). Tells x (Ok l)) (sym same) u in
    absurd (not_value l r (tells v (value_of l) (refusal_of r) there t))
one_body B P Reads Tells elements front back once tells items octets a b (inr (inr (v, l, is, p, t, i, e))) (inr (inl (w, s, q, u, f))) =
    let same : v ≡ w = same_of v w (once octets (value_of v) (value_of w) p q) in
    let there = subst (λ (x : B). Tells x (Err s)) (sym same) u in
    absurd (not_value l s (tells v (value_of l) (refusal_of s) t there))
one_body B P Reads Tells elements front back once tells items octets a b (inr (inr (v, l, is, p, t, i, e))) (inr (inr (w, m, other, q, u, j, f))) =
    let same : v ≡ w = same_of v w (once octets (value_of v) (value_of w) p q) in
    let told : l ≡ m = same_of l m (tells v (value_of l) (value_of m) t (subst (λ (x : B). Tells x (Ok m)) (sym same) u)) in
    let shown : is ≡ other = one_items items Basic 0 (elements v) is other i (subst (λ (x : B). ItemsAs Basic 0 (elements x) other) (sym same) j) in
    e ∙ ap (λ (x : Answer). between (front v) x (back l)) shown ∙ ap (λ (x : B). between (front x) other (back l)) same ∙ ap (λ (x : List P). between (front w) other (back x)) told ∙ sym f

-- what a response says, where this link carries it
abbrev pub StatesOn : AssocReply → Result (List LinkState) Refusal → Type 0
StatesOn reply answer = StatesAs reply 0 answer

-- what lines are read as is read once
pub record AllReadOnce : Type 0 where
  pub lists : ListsReadOnce
  pub items : ItemsReadOnce
  pub frames : FramesReadOnce
  pub actions : OneReading (List ℕ) Action actions.ReadAs
  pub asks : OneReading (List ℕ) AssocAsk ReadsAsk
  pub replies : OneReading (List ℕ) AssocReply ReadsReply
  pub ask_profiles : OneReading AssocAsk (List LinkAsk) AsksAs
  pub states : OneReading AssocReply (List LinkState) StatesOn

pub one_answer : AllReadOnce → (kind : Kind) (octets : List ℕ) (a b : Answer) → AnswerAs kind octets a → AnswerAs kind octets b → a ≡ b
one_answer all kinds.Elements octets a b p q = one_listing all.lists all.items octets a b p q
one_answer all kinds.Action octets a b p q = one_action all.actions all.items octets a b p q
one_answer all kinds.AssocAsk octets a b p q =
    one_body AssocAsk LinkAsk ReadsAsk AsksAs (λ ask. ask.elements) (λ ask. codes " " ++ ask_text ask) asks_text all.asks all.ask_profiles all.items octets a b p q
one_answer all kinds.AssocReply octets a b p q =
    one_body AssocReply LinkState ReadsReply StatesOn (λ reply. reply.elements) (λ reply. codes " " ++ reply_text reply) states_text all.replies all.states all.items octets a b p q
one_answer all kinds.Frame octets a b p q = one_frame all.frames octets a b p q

-- octets of a kind have one answer
abbrev pub AnswersOnce : Type 0
AnswersOnce = (kind : Kind) (octets : List ℕ) (a b : Answer) → AnswerAs kind octets a → AnswerAs kind octets b → a ≡ b

one_shown : AnswersOnce → (kind : Kind) (octets a b : List ℕ) → Shown kind octets a → Shown kind octets b → a ≡ b
one_shown once kind octets a b (x, p, same) (y, q, also) = same ∙ ap answer_text (once kind octets x y p q) ∙ sym also

one_line : AnswersOnce → (line a b : List ℕ) → ShownFor line a → ShownFor line b → a ≡ b
one_line once line a b (kind, octets, p, shown) (other, more, q, also) =
    let same = one_hex_line line kind other octets more p q in
    let at_kind : Shown kind more b = subst (λ (k : Kind). Shown k more b) (sym same.0) also in
    one_shown once kind octets a b shown (subst (λ (x : List ℕ). Shown kind x b) (sym same.1) at_kind)

-- one text is shown
pub one_text : AnswersOnce → (input : List (List ℕ)) (a b : List ℕ) → ShownLines input a → ShownLines input b → a ≡ b
one_text once [] a b p q = p ∙ sym q
one_text once (line ∷ input) a b (shown, rest, p, more, same) (shown', rest', q, more', also) =
    same ∙ ap (λ (x : List ℕ). x ++ 10 ∷ rest) (one_line once line shown shown' p q) ∙ ap (λ (x : List ℕ). shown' ++ 10 ∷ x) (one_text once input rest rest' more more') ∙ sym also

-- one line is the first bad one
pub one_bad : (input : List (List ℕ)) (n m : ℕ) → IsFirstBad input n → IsFirstBad input m → n ≡ m
one_bad [] n m p q = absurd p
one_bad (line ∷ input) n m (inl p) (inl q) = p.1 ∙ sym q.1
one_bad (line ∷ input) n m (inl p) (inr (kind, octets, before, q, more, also)) = absurd (p.0 kind octets q)
one_bad (line ∷ input) n m (inr (kind, octets, before, p, more, same)) (inl q) = absurd (q.0 kind octets p)
one_bad (line ∷ input) n m (inr (kind, octets, before, p, more, same)) (inr (kind', octets', before', q, more', also)) = same ∙ ap suc (one_bad input before before' more more') ∙ sym also

-- and then nothing is shown
pub not_both : (input : List (List ℕ)) (text : List ℕ) (n : ℕ) → ShownLines input text → IsFirstBad input n → ⊥
not_both [] text n p q = absurd q
not_both (line ∷ input) text n (shown, rest, (kind, octets, p, is_shown), more, same) (inl q) = q.0 kind octets p
not_both (line ∷ input) text n (shown, rest, p, more, same) (inr (kind, octets, before, q, later, also)) = not_both input rest before more later

-- ---- verdicts

one_verdict : AnswersOnce → (line : List ℕ) (a b : Bool) (text other : List ℕ) → VerdictFor line a text → VerdictFor line b other → (a ≡ b) × (text ≡ other)
one_verdict once line a b text other (kind, octets, p, (answer, answered, accepted, is_text)) (kind', octets', q, (answer', also, accepted', is_other)) =
    let same = one_hex_line line kind kind' octets octets' p q in
    let at_kind : AnswerAs kind octets' answer' = subst (λ (k : Kind). AnswerAs k octets' answer') (sym same.0) also in
    let one : answer ≡ answer' = once kind octets answer answer' answered (subst (λ (x : List ℕ). AnswerAs kind x answer') (sym same.1) at_kind) in
    (accepted ∙ ap is_accepted one ∙ sym accepted', is_text ∙ ap (verdict_text (length octets)) one ∙ ap (λ (x : List ℕ). verdict_text (length x) answer') same.1 ∙ sym is_other)

-- one text of verdicts, and one first refused line
pub one_judging : AnswersOnce → (input : List (List ℕ)) (text other : List ℕ) (line next : Option ℕ) → VerdictLines input text line → VerdictLines input other next → (text ≡ other) × (line ≡ next)
one_judging once [] text other line next p q = (p.0 ∙ sym q.0, p.1 ∙ sym q.1)
one_judging once (l ∷ input) text other line next (a, v, rest, later, p, more, same, first) (a', v', rest', later', q, more', also, first') =
    let one = one_verdict once l a a' v v' p q in
    let others = one_judging once input rest rest' later later' more more' in (
      same ∙ ap (λ (x : List ℕ). x ++ 10 ∷ rest) one.1 ∙ ap (λ (x : List ℕ). v' ++ 10 ∷ x) others.0 ∙ sym also,
      first ∙ ap (λ (b : Bool). first_refused b later) one.0 ∙ ap (first_refused a') others.1 ∙ sym first',
    )

pub not_judged : (input : List (List ℕ)) (text : List ℕ) (refused : Option ℕ) (n : ℕ) → VerdictLines input text refused → IsFirstBad input n → ⊥
not_judged [] text refused n p q = absurd q
not_judged (line ∷ input) text refused n (a, v, rest, later, (kind, octets, p, others), more, same, first) (inl q) = q.0 kind octets p
not_judged (line ∷ input) text refused n (a, v, rest, later, p, more, same, first) (inr (kind, octets, before, q, bad, also)) = not_judged input rest later before more bad
