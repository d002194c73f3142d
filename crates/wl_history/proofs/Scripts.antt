-- A script is played in one way: two histories of one thread that follow it meet step by step.
use Rattle.std.proofs.Common.{◌≡◌, ℕ, ◌<◌, Bool, true, List, [], ◌∷◌, length, Some, None, refl, sym, ap, subst, ◌∙◌, arith, inl, inr, eq-eqb}
use Rattle.std.proofs.lemmas.Bool.{cases_lt, cases_order}
use Rattle.std.proofs.lemmas.List.{append-nil}
use Rattle.std.specs.List.{AllByRecursion}
use Rattle.wl_frame.specs.Sealing.{Sealing}
use Rattle.wl_history.specs.declared.command.Command.{Command}
use Rattle.wl_history.specs.declared.opened.Opened.{Opened}
use Rattle.wl_history.specs.declared.outcome.Outcome.{Outcome}
use Rattle.wl_history.specs.declared.script.Item.{Item}
use Rattle.wl_history.specs.declared.start.Start.{Start}
use Rattle.wl_history.specs.declared.step.Step.{Step}
use Rattle.wl_history.specs.AirState.{AirState, state_of}
use Rattle.wl_history.specs.Legal.{Legal, IsStep, IsAnswer, Forges}
use Rattle.wl_history.specs.Scripts.{Cursor, step_of, asks, beginning, moved, Moves, Follows, Comes, Plays, Stops}

abbrev pub OneAnswer : Type 0
OneAnswer = (text : Sealing) (thread : ℕ) (command : Command) (a : AirState) (o p : Outcome) → IsAnswer text thread command a o → IsAnswer text thread command a p → o ≡ p

-- a history that one thread alone made, from this cursor to that
record Alone (text : Sealing) (start : Start) (thread : ℕ) (from : Cursor) (steps : List Step) (to : Cursor) : Type 0 where
  pub legal : Legal text start steps
  pub own : AllByRecursion (λ step. step.thread ≡ thread) steps
  pub follows : Follows thread from steps to

-- its last step, and the history before
record Last (text : Sealing) (start : Start) (thread : ℕ) (from : Cursor) (step : Step) (before : List Step) (to : Cursor) : Type 0 where
  pub place : Cursor
  pub alone : Alone text start thread from before place
  pub asked : asks place ≡ Some step.command
  pub moved_is : to ≡ moved step.outcome place
  pub is_own : step.thread ≡ thread
  pub is_step : IsStep text start (state_of text start before) step

-- no step goes on behind it
record Halted (text : Sealing) (start : Start) (thread : ℕ) (from : Cursor) (steps : List Step) (to : Cursor) : Type 0 where
  pub alone : Alone text start thread from steps to
  pub halts : (step : Step) → asks to ≡ Some step.command → IsStep text start (state_of text start steps) step → ⊥

same_command : (x y : Command) → Some x ≡ Some y → x ≡ y
same_command x y is = cc

module _ (law : OneAnswer) (text : Sealing) (start : Start) (thread : ℕ) (from : Cursor) where
  last_of : (step : Step) (before : List Step) (to : Cursor) → Alone text start thread from (step ∷ before) to → Last text start thread from step before to
  last_of step before to a =
      let (place, follows, moves) = a.follows in
      let own : Moves true place step to = subst (λ (mine : Bool). Moves mine place step to) (eq-eqb step.thread thread a.own.0) moves in
      record {
        place = place;
        alone = record { legal = a.legal.0; own = a.own.1; follows = follows };
        asked = own.0;
        moved_is = own.1;
        is_own = a.own.0;
        is_step = a.legal.1;
      }

  -- two that are equally long are the same
  meet : (a b : List Step) (to to' : Cursor) → Alone text start thread from a to → Alone text start thread from b to' → length a ≡ length b → (a ≡ b) × (to ≡ to')
  meet [] [] to to' p q long = (refl, p.follows ∙ sym q.follows)
  meet [] (y ∷ b) to to' p q long = absurd (omega arith)
  meet (x ∷ a) [] to to' p q long = absurd (omega arith)
  meet (x ∷ a) (y ∷ b) to to' p q long =
      let l = last_of x a to p in
      let m = last_of y b to' q in
      let (before, place) = meet a b l.place m.place l.alone m.alone (omega arith) in
      let own : x.thread ≡ y.thread = l.is_own ∙ sym m.is_own in
      let command : x.command ≡ y.command = same_command x.command y.command (sym l.asked ∙ ap asks place ∙ m.asked) in
      let answer : IsAnswer text y.thread y.command (state_of text start b) x.outcome =
      subst (λ (s : List Step). IsAnswer text y.thread y.command (state_of text start s) x.outcome) before
      (subst (λ (c : Command). IsAnswer text y.thread c (state_of text start a) x.outcome) command
      (subst (λ (t : ℕ). IsAnswer text t x.command (state_of text start a) x.outcome) own l.is_step.answer)) in
      let outcome : x.outcome ≡ y.outcome = law text y.thread y.command (state_of text start b) x.outcome y.outcome answer m.is_step.answer in
      let step : x ≡ y = ap (λ (t : ℕ). step_of t x.command x.outcome) own ∙ ap (λ (c : Command). step_of y.thread c x.outcome) command ∙ ap (λ (o : Outcome). step_of y.thread y.command o) outcome in (
        ap (λ (s : Step). s ∷ a) step ∙ ap (λ (s : List Step). y ∷ s) before,
        l.moved_is ∙ ap (λ (o : Outcome). moved o l.place) outcome ∙ ap (moved y.outcome) place ∙ sym m.moved_is,
      )

  not_shorter : (a b : List Step) (to to' : Cursor) → Halted text start thread from a to → Alone text start thread from b to' → length a < length b → ⊥
  not_shorter a [] to to' h q less = absurd (omega arith)
  not_shorter a (y ∷ b) to to' h q less =
      let m = last_of y b to' q in
      elim (cases_lt (length a) (length b)) [
        | inl shorter ↦ not_shorter a b to m.place h m.alone shorter
        | inr longer ↦
            let (steps, place) = meet a b to m.place h.alone m.alone (omega arith) in
            h.halts y (ap asks place ∙ m.asked) (subst (λ (s : List Step). IsStep text start (state_of text start s) y) (sym steps) m.is_step)
      ]

  halted_once : (a b : List Step) (to to' : Cursor) → Halted text start thread from a to → Halted text start thread from b to' → (a ≡ b) × (to ≡ to')
  halted_once a b to to' h k =
      elim (cases_order (length a) (length b)) [
        | inl long ↦ meet a b to to' h.alone k.alone long
        | inr (inl less) ↦ absurd (not_shorter a b to to' h k.alone less)
        | inr (inr more) ↦ absurd (not_shorter b a to' to k h.alone more)
      ]

module _ (law : OneAnswer) (text : Sealing) (start : Start) (items : List Item) where
  alone : (steps : List Step) (to : Cursor) → Comes text start items steps to → Alone text start 0 (beginning items) steps to
  alone steps to c =
      let made : c.performed.made ≡ steps = sym (c.performed.after_is ∙ append-nil c.performed.made) in
      record {
        legal = c.legal;
        own = subst (AllByRecursion (λ step. step.thread ≡ 0)) made c.performed.own;
        follows = subst (λ (s : List Step). Follows 0 (beginning items) s to) made c.performed.follows;
      }

  played : (steps : List Step) (to : Cursor) → Comes text start items steps to → asks to ≡ None → Halted text start 0 (beginning items) steps to
  played steps to c none = record {
    alone = alone steps to c;
    halts = λ step asked is. let both : None ≡ Some step.command = sym none ∙ asked in absurd (cc both);
  }

  stopped : (steps : List Step) (to : Cursor) (command : Command) (opened : Opened) → Comes text start items steps to → asks to ≡ Some command → Forges text command (state_of text start steps) opened → Halted text start 0 (beginning items) steps to
  stopped steps to command opened c asked forged = record {
    alone = alone steps to c;
    halts = λ step asked' is. is.unforged opened (subst (λ (x : Command). Forges text x (state_of text start steps) opened) (same_command command step.command (sym asked ∙ asked')) forged);
  }

  pub played_once : (a b : List Step) → Plays text start items a → Plays text start items b → a ≡ b
  played_once a b (to, c, none) (to', c', none') = (halted_once law text start 0 (beginning items) a b to to' (played a to c none) (played b to' c' none')).0

  pub stopped_once : (a b : List Step) (opened other : Opened) → Stops text start items a opened → Stops text start items b other → a ≡ b
  stopped_once a b opened other (to, command, c, asked, forged) (to', command', c', asked', forged') =
      (halted_once law text start 0 (beginning items) a b to to' (stopped a to command opened c asked forged) (stopped b to' command' other c' asked' forged')).0

  pub played_or_stopped : (a b : List Step) (opened : Opened) → Plays text start items a → Stops text start items b opened → ⊥
  played_or_stopped a b opened (to, c, none) (to', command, c', asked, forged) =
      let one = halted_once law text start 0 (beginning items) a b to to' (played a to c none) (stopped b to' command opened c' asked forged) in
      let both : None ≡ Some command = sym none ∙ ap asks one.1 ∙ asked in absurd (cc both)
