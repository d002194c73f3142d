-- What is aired isn't done, and a retry is the same; a turn of key begins at packet number 1.
use Rattle.std.proofs.Common.{◌≡◌, ℕ, ◌+◌, Bool, true, false, List, ◌∷◌, Option, Some, None, refl, sym, ap, subst, ◌∙◌, arith}
use Rattle.std.specs.Prelude.{◌==◌}
use Rattle.std.specs.List.{Contains}
use Rattle.wl_elem.specs.declared.lane.EndId.{EndId}
use Rattle.wl_elem.specs.declared.lane.EndId.TheVariants.{Ap, Sta}
use Rattle.wl_elem.specs.declared.lane.Lane.{Lane}
use Rattle.wl_elem.specs.Lanes.{lane_index}
use Rattle.wl_frame.specs.Sealing.{Sealing}
use Rattle.wl_number.specs.declared.numbers.Numbers.{Numbers}
use Rattle.wl_number.specs.NumberObject.{drawn, turned}
use Rattle.wl_number.specs.OrderRule.{OrderRule, list_of}
use Rattle.wl_window.specs.Originating.{is_done}
use Rattle.wl_history.specs.declared.command.Command.{Command}
use Rattle.wl_history.specs.declared.command.Command.TheVariants as commands
use Rattle.wl_history.specs.declared.hand.Hand.{Hand}
use Rattle.wl_history.specs.declared.hand.Hand.TheVariants as hand
use Rattle.wl_history.specs.declared.outcome.Outcome.{Outcome}
use Rattle.wl_history.specs.declared.outcome.Outcome.TheVariants as outcomes
use Rattle.wl_history.specs.declared.outcome.KeptWhy.{KeptWhy}
use Rattle.wl_history.specs.declared.start.Start.{Start}
use Rattle.wl_history.specs.declared.step.Step.{Step}
use Rattle.wl_history.specs.Ends.{start_of}
use Rattle.wl_history.specs.Hands.{hand_of}
use Rattle.wl_history.specs.Words.{Airing, airings, body_at, booked, queued, send_key}
use Rattle.wl_history.specs.Answers.{last_key, at_position, put_answer, put_of, booked_at, again_answer, again_of, turn_answer}
use Rattle.wl_history.specs.Hearing.{sealed_under, text_of}
use Rattle.wl_history.specs.EndState.{EndState, lane_at}
use Rattle.wl_history.specs.AirState.{AirState, end_of, with_end, state_of}
use Rattle.wl_history.specs.Legal.{IsAnswer, Legal}
use Rattle.wl_history.specs.Safe.{text_aired}
use Rattle.wl_history.specs.Scripts.{step_of}
use Rattle.wl_history.specs.Sent.{PutOf, AgainOf, AirsBy, Airs}
use Rattle.wl_history.specs.Below.{NumberLaws, WindowLaws, MessageLaws}
use Rattle.wl_history.proofs.Lanes.{found_in}
use Rattle.wl_history.proofs.Receiving.{Trans}
use Rattle.wl_history.proofs.Sound.{all_sound}
use Rattle.wl_history.proofs.Telling.{turned_key}

-- ---- what is aired isn't done

module _ (s : EndState) (lane : Lane) (n : Numbers) where
  abbrev Undone : Lane → Numbers → Type 0
  Undone at m = is_done (lane_at s (lane_index at)).sending m.pos ≡ false

  same_booking : (at : Lane) (m : Numbers) → at ≡ lane → m ≡ n → Undone at m → Undone lane n
  same_booking at m lanes numbers h = subst (λ (x : Lane). Undone x n) lanes (subst (λ (k : Numbers). Undone at k) numbers h)

  put_by : (at : Lane) (m : Numbers) (done aired : Bool) (why : Option KeptWhy) → is_done (lane_at s (lane_index at)).sending m.pos ≡ done → PutOf (put_answer at m done aired why) lane n → Undone lane n
  put_by at m true aired why is none = absurd none
  put_by at m false aired (Some why) is none = absurd none
  put_by at m false aired None is (lanes, numbers) = same_booking at m lanes numbers is

  put_undone : (link : ℕ) (held : Hand) → PutOf (put_of link held s) lane n → Undone lane n
  put_undone link hand.Empty none = absurd none
  put_undone link (hand.Reserve at) none = absurd none
  put_undone link (hand.Booking at m) is = put_by at m _ _ _ refl is

  again_by : (at : Lane) (m : Numbers) (done aired : Bool) (why : Option KeptWhy) → is_done (lane_at s (lane_index at)).sending m.pos ≡ done → AgainOf at (again_answer m done aired why) lane n → Undone lane n
  again_by at m true aired why is none = absurd none
  again_by at m false aired (Some why) is none = absurd none
  again_by at m false aired None is (lanes, numbers) = same_booking at m lanes numbers is

  again_undone : (link : ℕ) (at : Lane) (found : Option Numbers) → AgainOf at (again_of link at found s) lane n → Undone lane n
  again_undone link at None none = absurd none
  again_undone link at (Some m) is = again_by at m _ _ _ refl is

undone : (text : Sealing) (a : AirState) (thread : ℕ) (command : Command) (outcome : Outcome) → IsAnswer text thread command a outcome → (e : EndId) (lane : Lane) (n : Numbers) → AirsBy e command outcome lane n → Undone (end_of a e) lane n lane n
undone text a thread (commands.Put end link) outcome is e lane n (ends, airs) =
    subst (λ (x : EndId). Undone (end_of a x) lane n lane n) ends
    (put_undone (end_of a end) lane n link (hand_of (end_of a end).hands thread) (subst (λ (o : Outcome). PutOf o lane n) is airs))
undone text a thread (commands.Again end link at pos) outcome is e lane n (ends, airs) =
    subst (λ (x : EndId). Undone (end_of a x) lane n lane n) ends
    (again_undone (end_of a end) lane n link at (booked_at (end_of a end) at pos) (subst (λ (o : Outcome). AgainOf at o lane n) is airs))
undone text a thread other outcome is e lane n none = absurd none

pub aired_undone : (text : Sealing) (start : Start) (step : Step) (before : List Step) → Legal text start (step ∷ before) → (e : EndId) (lane : Lane) (n : Numbers) → Airs e step lane n
    → is_done (lane_at (end_of (state_of text start before) e) (lane_index lane)).sending n.pos ≡ false
aired_undone text start step before legal e lane n airs = undone text (state_of text start before) step.thread step.command step.outcome legal.1.answer e lane n airs

-- ---- a retry

-- of a position there is one booking
one_at : (lanes : List (List Numbers)) (lane : Lane) (a b : Numbers) → OrderRule lanes → Contains (list_of lanes lane) a → Contains (list_of lanes lane) b → a.pos ≡ b.pos → a ≡ b
one_at lanes lane a b rule is is' same =
    let found : Some a ≡ Some b = sym (found_in (list_of lanes lane) (rule.ascending (lane_index lane)) a is) ∙ ap (λ (p : ℕ). at_position p (list_of lanes lane)) same ∙ found_in (list_of lanes lane) (rule.ascending (lane_index lane)) b is' in
    cc found

pub same_retry : NumberLaws → WindowLaws → MessageLaws → Trans → (text : Sealing) (start : Start) (steps : List Step) → Legal text start steps → (e : EndId) (a b : Airing) → Contains (airings start e steps) a → Contains (airings start e steps) b
    → a.lane ≡ b.lane → a.numbers.pos ≡ b.numbers.pos → (a.numbers ≡ b.numbers) × (text_aired text (start_of start e) e a ≡ text_aired text (start_of start e) e b)
same_retry laws windows messages trans text start steps legal e a b is is' lanes positions =
    let sound = all_sound laws windows messages trans text start steps legal in
    let rule : OrderRule (booked e steps) = subst OrderRule (sound.told e).booked_are (sound.ends e).sender.rule in
    let own = (sound.aired e a is).booking in
    let other = (sound.aired e b is').booking in
    let there = subst (λ (x : Lane). Contains (list_of (booked e steps) x) a.numbers) lanes own.booked in
    let numbers : a.numbers ≡ b.numbers = one_at (booked e steps) b.lane a.numbers b.numbers rule there other.booked positions in
    let body : a.body ≡ b.body = own.same ∙ ap (λ (x : Lane). body_at (queued start e (lane_index x) steps) a.numbers.pos) lanes ∙ ap (λ (n : Numbers). body_at (queued start e (lane_index b.lane) steps) n.pos) numbers ∙ sym other.same in (
      numbers,
      ap (λ (x : Lane). text_of text (sealed_under (start_of start e) e x a.numbers a.body)) lanes
          ∙ ap (λ (n : Numbers). text_of text (sealed_under (start_of start e) e b.lane n a.body)) numbers
          ∙ ap (λ (x : List ℕ). text_of text (sealed_under (start_of start e) e b.lane b.numbers x)) body,
    )

-- ---- a turn of key

with_own : (e : EndId) (s : EndState) (a : AirState) → end_of (with_end e s a) e ≡ s
with_own Ap s a = refl
with_own Sta s a = refl

pub turned_first : NumberLaws → WindowLaws → MessageLaws → Trans → (text : Sealing) (start : Start) (thread : ℕ) (e : EndId) (key : ℕ) (before : List Step)
    → Legal text start (step_of thread (commands.Turn e) (outcomes.Turned key) ∷ before) → (lane : Lane)
    → (key ≡ send_key (start_of start e) e before + 1)
    × ((drawn (end_of (state_of text start (step_of thread (commands.Turn e) (outcomes.Turned key) ∷ before)) e).numbers lane).key ≡ key)
    × ((drawn (end_of (state_of text start (step_of thread (commands.Turn e) (outcomes.Turned key) ∷ before)) e).numbers lane).pn ≡ 1)
unfolding state_of
turned_first laws windows messages trans text start thread e key before legal lane =
    let a = state_of text start before in
    let s = end_of a e in
    let answered : outcomes.Turned key ≡ turn_answer s.numbers = legal.1.answer in
    let next : key ≡ s.numbers.key + 1 = turned_key (s.numbers.key == last_key) s.numbers.key key answered in
    let was : s.numbers.key ≡ send_key (start_of start e) e before = ((all_sound laws windows messages trans text start before legal.0).told e).key_is in
    let own : end_of (with_end e (record s { numbers = turned s.numbers }) a) e ≡ record s { numbers = turned s.numbers } = with_own e (record s { numbers = turned s.numbers }) a in (
      omega (arith, next, was),
      ap (λ (t : EndState). (drawn t.numbers lane).key) own ∙ sym next,
      ap (λ (t : EndState). (drawn t.numbers lane).pn) own,
    )
