-- What each call keeps of an end's mappings.
use Rattle.std.proofs.Common.{inl, inr, ◌≡◌, ℕ, ◌<◌, List, [], ◌∷◌, Option, None, Some, Bool, true, false, refl, sym, ap, ◌∙◌, arith, subst, not, bit_and, eq-eqb, eqb-true, get_or}
use Rattle.std.specs.Prelude.{◌==◌, ◌&&◌, ◌||◌, ◌≢◌, if◌then◌else◌, All, is_some, is_none}
use Rattle.std.specs.Int.Bits.{and_self, and_zero_r}
use Rattle.std.proofs.lemmas.Nat.{and_le_r}
use Rattle.std.proofs.lemmas.List.Sums.{AllPass-from_list_all}
use Rattle.std.proofs.lemmas.Bool.{and_parts}
use Rattle.std.proofs.lemmas.Bool.Decides.{eqb_tells}
use Rattle.wl_elem.specs.declared.lane.Direction.{Direction}
use Rattle.wl_elem.specs.declared.lane.Direction.TheVariants.{Down, Up}
use Rattle.wl_elem.specs.Links.{set_limit}
use Rattle.wl_ttlm.specs.Mapping.{is_mapping, is_tid_set}
use Rattle.wl_map.specs.declared.agreed.Agreed.{Agreed}
use Rattle.wl_map.specs.declared.agreed.Agreed.TheVariants as agreed
use Rattle.wl_map.specs.declared.change.Change.{Change}
use Rattle.wl_map.specs.declared.change.MapAsk.{MapAsk}
use Rattle.wl_map.specs.Agreeing.{IsAgreed, kept, has_empty, cut_to, of_sets, sets_of, becomes, becomes_cut, is_valid_if, changed}
use Rattle.wl_map.specs.Ends.{MapState, IsMapState, made, opened, of_direction, is_valid_ask, after_ask, accepts, status_of, after_on_ask, is_asked, takes_reply, closed, adopted, replied, after_reply}
use Rattle.wl_map.specs.Calls.{Call, Asks, IsAsked, IsReplied, TearsDown, IsTornDown, GivesUp, HasLinks, IsCall, AreCalls, after, after_calls}
use Rattle.wl_map.proofs.Sets.{kept_passes, becomes_same}

pub if_true : (b : Bool) (s t : MapState) → b ≡ true → (if b then s else t) ≡ s
if_true true s t h = refl
if_true false s t h = absurd (cc)

pub if_false : (b : Bool) (s t : MapState) → b ≡ false → (if b then s else t) ≡ t
if_false true s t h = absurd (cc)
if_false false s t h = refl

-- a peer's ask that is taken is adopted as it is
pub accepted : (deny : Bool) (links : ℕ) (down up : Agreed) (asked : Option MapAsk) (ask : MapAsk) → is_some asked ≡ false → deny ≡ false → is_valid_ask (made deny links down up asked) ask ≡ true
    → adopted (made deny links down up asked) ask ≡ after_on_ask (made deny links down up asked) ask
accepted true links down up asked ask none takes valid = absurd (cc)
accepted false links down up (Some own) ask none takes valid = absurd (cc)
accepted false links down up None ask none takes valid =
    let both = (and_parts (is_some ask.down || is_some ask.up) _ valid).1 in
    let one : becomes_cut links down ask.down ≡ becomes links down ask.down = becomes_same links down ask.down (and_parts _ _ both).0 in
    let other : becomes_cut links up ask.up ≡ becomes links up ask.up = becomes_same links up ask.up (and_parts (is_valid_if links down ask.down) _ both).1 in
    ap (λ (a : Agreed). made false links a (becomes_cut links up ask.up) None) one
    ∙ ap (λ (a : Agreed). made false links (becomes links down ask.down) a None) other
    ∙ sym (if_true _ _ _ valid)

-- what holds in both cases holds
pub either_state : (P : MapState → Type 0) (b : Bool) (s t : MapState) → (b ≡ true → P s) → P t → P (if b then s else t)
either_state P true s t of_first of_second = of_first refl
either_state P false s t of_first of_second = of_second

agreed_if : (links : ℕ) (b : Bool) (sets : List ℕ) → is_mapping links sets ≡ not b → IsAgreed links (if b then agreed.Default else of_sets sets)
agreed_if links true sets passes = tt
agreed_if links false sets passes = passes

-- a direction that is cut is one over the links
pub cut_is : (links : ℕ) (before : Agreed) → IsAgreed links (cut_to links before)
cut_is links agreed.Default = tt
cut_is links (agreed.Sets mapping) = agreed_if links (has_empty (kept links mapping.sets)) (kept links mapping.sets) (kept_passes links mapping.sets)

becomes_cut_is : (links : ℕ) (before : Agreed) (change : Option Change) → IsAgreed links before → IsAgreed links (becomes_cut links before change)
becomes_cut_is links before None is = is
becomes_cut_is links before (Some change) is = cut_is links (changed links before change)

becomes_is : (links : ℕ) (before : Agreed) (change : Option Change) → IsAgreed links before → is_valid_if links before change ≡ true → IsAgreed links (becomes links before change)
becomes_is links before change is valid = subst (IsAgreed links) (becomes_same links before change valid) (becomes_cut_is links before change is)

adopted_is : (s : MapState) (own : MapAsk) → IsMapState s → IsMapState (adopted s own)
adopted_is s own is = record { links = is.links; down = becomes_cut_is s.links s.down own.down is.down; up = becomes_cut_is s.links s.up own.up is.up }

replied_is : (asked : Option MapAsk) (s : MapState) (status : ℕ) → IsMapState s → IsMapState (replied asked s status)
replied_is None s status is = is
replied_is (Some own) s status is =
    either_state IsMapState (status == 0) (adopted s own) (closed s) (λ _. adopted_is s own is) (record { links = is.links; down = is.down; up = is.up })

answered_is : (s : MapState) (ask : MapAsk) → IsMapState s → IsMapState (after_on_ask s ask)
answered_is s ask is =
    either_state IsMapState (accepts s ask) _ s (λ takes.
    let valid : is_valid_ask s ask ≡ true = (and_parts (not s.deny) _ (and_parts (is_none s.asked) _ takes).1).1 in
    let both = (and_parts (is_some ask.down || is_some ask.up) _ valid).1 in
    record {
      links = is.links;
      down = becomes_is s.links s.down ask.down is.down (and_parts _ _ both).0;
      up = becomes_is s.links s.up ask.up is.up (and_parts (is_valid_if s.links s.down ask.down) _ both).1;
    }) is

-- each call keeps what is true of an end's mappings
pub call_keeps : (call : Call) (s : MapState) → IsCall call → IsMapState s → IsMapState (after call s)
call_keeps (Asks ask) s low is = either_state IsMapState (is_none s.asked && is_valid_ask s ask) _ s (λ _. record { links = is.links; down = is.down; up = is.up }) is
call_keeps (IsAsked ask) s low is = answered_is s ask is
call_keeps (IsReplied token status) s low is = either_state IsMapState (takes_reply s token) (replied s.asked s status) s (λ _. replied_is s.asked s status is) is
call_keeps TearsDown s low is = record { links = is.links; down = tt; up = tt }
call_keeps IsTornDown s low is = record { links = is.links; down = tt; up = tt }
call_keeps GivesUp s low is = record { links = is.links; down = is.down; up = is.up }
call_keeps (HasLinks links) s low is = record { links = low; down = cut_is links s.down; up = cut_is links s.up }

pub calls_keep : (calls : List Call) (s : MapState) → AreCalls calls → IsMapState s → IsMapState (after_calls s calls)
calls_keep [] s are is = is
calls_keep (call ∷ before) s are is = call_keeps call (after_calls s before) are.0 (calls_keep before s are.1 is)

pub opened_is : (deny : Bool) (links : ℕ) → links < set_limit → IsMapState (opened deny links)
opened_is deny links low = record { links = low; down = tt; up = tt }

pub direction_is : (d : Direction) (s : MapState) → IsMapState s → IsAgreed s.links (of_direction d s)
direction_is Down s is = is.down
direction_is Up s is = is.up

eight_pass : (b : Bool) → b ≡ true → (b && (b && (b && (b && (b && (b && (b && (b && true)))))))) ≡ true
eight_pass true h = refl
eight_pass false h = h

default_passes : (links : ℕ) → links ≢ 0 → is_mapping links (sets_of links agreed.Default) ≡ true
default_passes links some =
    let whole : (bit_and links links == links) ≡ true = eq-eqb (bit_and links links) links (and_self links) in
    eight_pass (is_tid_set links links) (elim (eqb_tells links 0) [
      | inl none ↦ absurd (some none.1)
      | inr other ↦ ap (λ (b : Bool). not b && (bit_and links links == links)) other.0 ∙ whole
    ])

-- where a link is set up each mapping is one over the links
pub sets_pass : (links : ℕ) (now : Agreed) → links ≢ 0 → IsAgreed links now → is_mapping links (sets_of links now) ≡ true
sets_pass links agreed.Default some is = default_passes links some
sets_pass links (agreed.Sets mapping) some is = is

pub asking_keeps : (s : MapState) (ask : MapAsk) (d : Direction) → of_direction d (after_ask s ask) ≡ of_direction d s
asking_keeps s ask Down = either_state (λ t. t.down ≡ s.down) (is_none s.asked && is_valid_ask s ask) _ s (λ _. refl) refl
asking_keeps s ask Up = either_state (λ t. t.up ≡ s.up) (is_none s.asked && is_valid_ask s ask) _ s (λ _. refl) refl

pub closing_keeps : (s : MapState) (d : Direction) → of_direction d (closed s) ≡ of_direction d s
closing_keeps s Down = refl
closing_keeps s Up = refl

refusing_keeps : (asked : Option MapAsk) (s : MapState) (status : ℕ) (d : Direction) → status ≢ 0 → of_direction d (replied asked s status) ≡ of_direction d s
refusing_keeps None s status d refused = refl
refusing_keeps (Some own) s status d refused =
    elim (eqb_tells status 0) [
      | inl success ↦ absurd (refused success.1)
      | inr other ↦ ap (of_direction d) (if_false (status == 0) (adopted s own) (closed s) other.0) ∙ closing_keeps s d
    ]

pub refused_keeps : (s : MapState) (token status : ℕ) (d : Direction) → status ≢ 0 → of_direction d (after_reply s token status) ≡ of_direction d s
refused_keeps s token status d refused =
    either_state (λ t. of_direction d t ≡ of_direction d s) (takes_reply s token) (replied s.asked s status) s (λ _. refusing_keeps s.asked s status d refused) refl

stands : (asked : Option MapAsk) (b : Bool) → is_some asked ≡ true → (is_none asked && b) ≡ false
stands None b is = absurd (cc)
stands (Some own) b is = refl

pub denies : (s : MapState) (ask : MapAsk) → is_some s.asked ≡ true → accepts s ask ≡ false
denies s ask is = stands s.asked (not s.deny && is_valid_ask s ask) is

pub number_if_false : (b : Bool) (m n : ℕ) → b ≡ false → (if b then m else n) ≡ n
number_if_false true m n h = absurd (cc)
number_if_false false m n h = refl

-- an answer of success is that of an ask that is taken
taken_of : (b : Bool) (status : ℕ) → status ≡ (if b then 0 else 133) → status ≡ 0 → b ≡ true
taken_of true status is success = refl
taken_of false status is success = absurd (omega (arith, is, success))

-- a reply of success to the ask that stands is adopted
reply_adopts : (asked : Option MapAsk) (s : MapState) (ask : MapAsk) → asked ≡ Some ask → (if is_asked asked ask.token then replied asked s 0 else s) ≡ adopted s ask
reply_adopts asked s ask is =
    subst (λ (a : Option MapAsk). (if is_asked a ask.token then replied a s 0 else s) ≡ adopted s ask) (sym is)
    (if_true (ask.token == ask.token) (adopted s ask) s (eq-eqb ask.token ask.token refl))

-- the same change over the same links leads to the same
same_change : (links others : ℕ) (before alike : Agreed) (change : Option Change) → links ≡ others → before ≡ alike → is_valid_if others alike change ≡ true → becomes_cut links before change ≡ becomes others alike change
same_change links others before alike change same is valid =
    ap (λ (l : ℕ). becomes_cut l before change) same ∙ ap (λ (b : Agreed). becomes_cut others b change) is ∙ becomes_same others alike change valid

same_direction : (asker answerer : MapState) (ask : MapAsk) (d : Direction) → is_valid_ask answerer ask ≡ true → asker.links ≡ answerer.links → of_direction d asker ≡ of_direction d answerer
    → of_direction d (adopted asker ask) ≡ of_direction d (made answerer.deny answerer.links (becomes answerer.links answerer.down ask.down) (becomes answerer.links answerer.up ask.up) answerer.asked)
same_direction asker answerer ask Down valid same alike =
    same_change asker.links answerer.links asker.down answerer.down ask.down same alike (and_parts _ _ (and_parts (is_some ask.down || is_some ask.up) _ valid).1).0
same_direction asker answerer ask Up valid same alike =
    same_change asker.links answerer.links asker.up answerer.up ask.up same alike (and_parts (is_valid_if answerer.links answerer.down ask.down) _ (and_parts (is_some ask.down || is_some ask.up) _ valid).1).1

pub both_agree : (asker answerer : MapState) (ask : MapAsk) (d : Direction) → asker.asked ≡ Some ask → status_of answerer ask ≡ 0
    → asker.links ≡ answerer.links → of_direction d asker ≡ of_direction d answerer
    → of_direction d (after_reply asker ask.token 0) ≡ of_direction d (after_on_ask answerer ask)
both_agree asker answerer ask d standing success same alike =
    let takes : accepts answerer ask ≡ true = taken_of (accepts answerer ask) (status_of answerer ask) refl success in
    let valid : is_valid_ask answerer ask ≡ true = (and_parts (not answerer.deny) _ (and_parts (is_none answerer.asked) _ takes).1).1 in
    ap (of_direction d) (reply_adopts asker.asked asker ask standing)
    ∙ same_direction asker answerer ask d valid same alike
    ∙ sym (ap (of_direction d) (if_true (accepts answerer ask) _ answerer takes))

-- what passes over links is a bitmap of links
pub passed_low : (links : ℕ) (sets : List ℕ) → links < set_limit → is_mapping links sets ≡ true → All (λ set. set < set_limit) sets
passed_low links sets low passes k d inside =
    let here : is_tid_set links (get_or sets k d) ≡ true = AllPass-from_list_all (is_tid_set links) sets passes k d inside in
    let same : bit_and (get_or sets k d) links ≡ get_or sets k d = eqb-true _ _ (and_parts (not (get_or sets k d == 0)) _ here).1 in
    omega (arith, same, and_le_r (get_or sets k d) links)

other_way : (set : ℕ) → (set ≡ 0 → ⊥) → (0 == set) ≡ false
other_way set some =
    elim (eqb_tells 0 set) [
      | inl same ↦ absurd (some (sym same.1))
      | inr other ↦ other.0
    ]

nothing_passes : (set : ℕ) → is_tid_set 0 set ≡ false
nothing_passes set =
    elim (eqb_tells set 0) [
      | inl none ↦ ap (λ (b : Bool). not b && (bit_and set 0 == set)) none.0
      | inr some ↦
          let none : bit_and set 0 ≡ 0 = and_zero_r set in
          ap (λ (n : ℕ). not (set == 0) && (n == set)) none ∙ ap (λ (b : Bool). not b && (0 == set)) some.0 ∙ other_way set some.1
    ]

-- with no link set up no mapping passes
pub none_over_none : (set : ℕ) (sets : List ℕ) → is_mapping 0 (set ∷ sets) ≡ false
none_over_none set sets = ap (λ (b : Bool). b && is_mapping 0 sets) (nothing_passes set)
