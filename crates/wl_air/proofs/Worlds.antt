-- A step of a world: what was done, and what the journal has of it.
use Rattle.std.proofs.Common.{◌≡◌, ℕ, suc, ◌<◌, ◌^◌, List, [], ◌∷◌, length, refl, sym, ap, subst, ◌∙◌, Option, Some, None}
use Rattle.std.specs.Prelude.{is_some}
use Rattle.wl_elem.specs.declared.lane.EndId.{EndId}
use Rattle.wl_elem.specs.declared.lane.EndId.TheVariants.{Ap, Sta}
use Rattle.wl_elem.specs.Lanes.{peer_of}
use Rattle.wl_frame.specs.Sealing.{Sealing}
use Rattle.wl_history.specs.declared.command.Command.{Command}
use Rattle.wl_history.specs.declared.command.Command.TheVariants as commands
use Rattle.wl_history.specs.declared.opened.Opened.{Opened}
use Rattle.wl_history.specs.declared.outcome.Outcome.{Outcome}
use Rattle.wl_history.specs.declared.start.EndStart.{EndStart}
use Rattle.wl_history.specs.declared.start.LinkStart.{LinkStart}
use Rattle.wl_history.specs.declared.start.Start.{Start}
use Rattle.wl_history.specs.declared.step.Step.{Step}
use Rattle.wl_history.specs.AirState.{AirState, end_of, begun, after, state_of, hearer}
use Rattle.wl_history.specs.Ends.{IsStart, start_of, mld_of, is_link, link_at}
use Rattle.wl_history.specs.Legal.{Fits, InRanges, IsAnswer, Forges, step_limit}
use Rattle.wl_history.specs.Scripts.{step_of}
use Rattle.wl_air.specs.declared.fault.StepFault.{StepFault}
use Rattle.wl_air.specs.declared.fault.StepFault.TheVariants as faults
use Rattle.wl_air.specs.Acting.{CanDo, IsStepFault}
use Rattle.wl_air.specs.Air.{AreJoined, KnowsPeer, KnowsIf}
use Rattle.wl_air.specs.Playing.{IsWorldFault}
use Rattle.wl_air.specs.World.{IsWorld, IsRoomy, Stands, world_of}
use Rattle.wl_air.proofs.Bounds.{roomy, world_kept}
use Rattle.wl_air.proofs.Windows.{NearLaws}

-- ---- what the ends of a world know of each other

starts_joined : (start : Start) → IsStart start → (e : EndId) (s p : EndStart) → s ≡ start_of start e → p ≡ start_of start (peer_of e) → (p.end ≡ peer_of s.end) × ((p.ap ≡ s.ap) × ((p.sta ≡ s.sta) × ((p.key ≡ s.key) × (length (mld_of p p.end) ≡ 6))))
starts_joined start is Ap s p own peer = (
  ap (λ (x : EndStart). x.end) peer ∙ is.sta_end ∙ sym (ap (λ (x : EndStart). peer_of x.end) own ∙ ap peer_of is.ap_end),
  (
    ap (λ (x : EndStart). x.ap) peer ∙ is.ap_same ∙ sym (ap (λ (x : EndStart). x.ap) own),
    (
      ap (λ (x : EndStart). x.sta) peer ∙ is.sta_same ∙ sym (ap (λ (x : EndStart). x.sta) own),
      (
        ap (λ (x : EndStart). x.key) peer ∙ is.key_same ∙ sym (ap (λ (x : EndStart). x.key) own),
        ap (λ (x : EndStart). length (mld_of x x.end)) peer ∙ ap (λ (e : EndId). length (mld_of start.sta e)) is.sta_end ∙ ap (λ (m : List ℕ). length m) is.sta_same ∙ is.sta_six,
      ),
    ),
  ),
)
starts_joined start is Sta s p own peer = (
  ap (λ (x : EndStart). x.end) peer ∙ is.ap_end ∙ sym (ap (λ (x : EndStart). peer_of x.end) own ∙ ap peer_of is.sta_end),
  (
    ap (λ (x : EndStart). x.ap) peer ∙ sym (ap (λ (x : EndStart). x.ap) own ∙ is.ap_same),
    (
      ap (λ (x : EndStart). x.sta) peer ∙ sym (ap (λ (x : EndStart). x.sta) own ∙ is.sta_same),
      (
        ap (λ (x : EndStart). x.key) peer ∙ sym (ap (λ (x : EndStart). x.key) own ∙ is.key_same),
        ap (λ (x : EndStart). length (mld_of x x.end)) peer ∙ ap (λ (e : EndId). length (mld_of start.ap e)) is.ap_end ∙ is.ap_six,
      ),
    ),
  ),
)

both_joined : (start : Start) (a : AirState) (steps : ℕ) → IsWorld start a steps → (e : EndId) → AreJoined (end_of a e) (end_of a (peer_of e))
both_joined start a steps w e =
    let (peer, (ap_same, (sta_same, (key_same, six)))) = starts_joined start w.is_start e (end_of a e).start (end_of a (peer_of e)).start (w.starts e) (w.starts (peer_of e)) in
    record { peer = peer; ap_same = ap_same; sta_same = sta_same; key_same = key_same; six = six }

pub knows_peer : (start : Start) (a : AirState) (steps : ℕ) (command : Command) → IsWorld start a steps → KnowsPeer command a
knows_peer start a steps command w = knows_if (hearer command)
  where
    knows_if : (end : Option EndId) → KnowsIf end a
    knows_if None = tt
    knows_if (Some end) = both_joined start a steps w end

-- ---- a step

-- both ends have the same links
same_links : (start : Start) → IsStart start → (e : EndId) → (start_of start (peer_of e)).links ≡ (start_of start e).links
same_links start is Ap = is.links_same
same_links start is Sta = sym is.links_same

pub can_do : (start : Start) (a : AirState) (steps : ℕ) (command : Command) → IsWorld start a steps → Fits start command → InRanges command → CanDo command a
can_do start a steps (commands.Queue end tid body) w fits ranges = (fits.1, fits.2)
can_do start a steps (commands.Alter end link nth number) w fits ranges = fits.1
can_do start a steps (commands.Forge end link lane key pn number body) w fits ranges = (
  ap (λ (s : EndStart). is_link s link) (w.starts (peer_of end)) ∙ ap (λ (links : List LinkStart). is_some (link_at link links)) (same_links start w.is_start end) ∙ fits.0,
  fits.2,
)
can_do start a steps (commands.MapAsk end entries) w fits ranges = ranges
can_do start a steps other w fits ranges = tt

-- the command of the latest step is the one that was noted
pub noted : (thread : ℕ) (command seen : Command) (o : Outcome) (before pushed : List Step) → pushed ≡ step_of thread command o ∷ before → ((s : Step) (b : List Step) → pushed ≡ s ∷ b → seen ≡ s.command) → seen ≡ command
noted thread command seen o before pushed is told = told (step_of thread command o) before is

-- the journal after the answer was noted
pub settled : (thread : ℕ) (command : Command) (placeholder answer again : Outcome) (before pushed after : List Step) → pushed ≡ step_of thread command placeholder ∷ before → again ≡ answer
    → ((s : Step) (b : List Step) → pushed ≡ s ∷ b → after ≡ step_of s.thread s.command again ∷ b) → after ≡ step_of thread command answer ∷ before
settled thread command placeholder answer again before pushed after is same told =
    told (step_of thread command placeholder) before is ∙ ap (λ (o : Outcome). step_of thread command o ∷ before) same

-- what two ends did by a command
pub record Acted (text : Sealing) (thread : ℕ) (command : Command) (a : AirState) (o : Outcome) (a' : AirState) : Type 0 where
  pub answer : KnowsPeer command a → IsAnswer text thread command a o
  pub unforged : KnowsPeer command a → (opened : Opened) → Forges text command a opened → ⊥
  pub then_is : a' ≡ after text thread command o a

pub kept : NearLaws → (text : Sealing) (start : Start) (a a' : AirState) (before later : List Step) (thread : ℕ) (command : Command) (o : Outcome) → length before < step_limit → later ≡ step_of thread command o ∷ before → Acted text thread command a o a'
    → IsWorld start a (length before) → IsWorld start a' (length later)
kept law text start a a' before later thread command o room is acted w =
    subst (λ (x : List Step). IsWorld start a' (length x)) (sym is) (subst (λ (x : AirState). IsWorld start x (suc (length before))) (sym acted.then_is) (world_kept law text start a (length before) thread command o room w))

pub stands : (text : Sealing) (start : Start) (a a' : AirState) (before later : List Step) (thread : ℕ) (command : Command) (o : Outcome) → length before < step_limit → thread < 2 ^ 16 → Fits start command → InRanges command → later ≡ step_of thread command o ∷ before
    → Acted text thread command a o a' → KnowsPeer command a → Stands text (world_of start a before) → Stands text (world_of start a' later)
unfolding state_of
stands text start a a' before later thread command o room short fits ranges is acted join h =
    subst (λ (x : List Step). Stands text (world_of start a' x)) (sym is) (record {
      legal = (
        h.legal,
        record {
          thread = short;
          fits = fits;
          ranges = ranges;
          answer = subst (λ (x : AirState). IsAnswer text thread command x o) h.air_is (acted.answer join);
          unforged = λ opened forged. acted.unforged join opened (subst (λ (x : AirState). Forges text command x opened) (sym h.air_is) forged);
        },
        room,
      );
      air_is = acted.then_is ∙ ap (λ (x : AirState). after text thread command o x) h.air_is;
    })

pub fault : (text : Sealing) (start : Start) (a : AirState) (before : List Step) (command : Command) (f : StepFault) → IsStepFault text command a f → IsWorldFault text (world_of start a before) command f
fault text start a before command faults.Memory forges = tt
fault text start a before command (faults.Forged opened) forges = λ h. subst (λ (x : AirState). Forges text command x opened) h.air_is forges

pub begun_stands : (text : Sealing) (start : Start) → IsStart start → Stands text (world_of start (begun start) [])
unfolding state_of
begun_stands text start is = record { legal = is; air_is = refl }

-- ---- a step that wasn't made

pub unmade : (start : Start) (a a' : AirState) (steps steps' : List Step) → a' ≡ a → steps' ≡ steps → IsWorld start a (length steps) → IsWorld start a' (length steps')
unmade start a a' steps steps' same same_steps w = subst (λ (x : AirState). IsWorld start x (length steps')) (sym same) (subst (λ (x : List Step). IsWorld start a (length x)) (sym same_steps) w)

pub unchanged : (start : Start) (a a' : AirState) (steps steps' : List Step) → a' ≡ a → steps' ≡ steps → world_of start a' steps' ≡ world_of start a steps
unchanged start a a' steps steps' same same_steps = ap (λ (x : AirState). world_of start x steps') same ∙ ap (λ (x : List Step). world_of start a x) same_steps

-- both ends have room for the step
pub both_roomy : (start : Start) (a : AirState) (steps : List Step) → IsWorld start a (length steps) → length steps < step_limit → (e : EndId) → IsRoomy (end_of a e)
both_roomy start a steps w lt e = roomy (length steps) (end_of a e) lt (w.bounded e)

-- what holds of the two ends that did nothing holds of what is equal to them
pub so_begun : (P : Start → AirState → List Step → Type 0) (start copy : Start) (a : AirState) (steps : List Step) → copy ≡ start → a ≡ begun start → steps ≡ [] → P start (begun start) [] → P copy a steps
so_begun P start copy a steps same begun_is none h =
    subst (λ (x : Start). P x a steps) (sym same) (subst (λ (x : AirState). P start x steps) (sym begun_is) (subst (λ (x : List Step). P start (begun start) x) (sym none) h))
