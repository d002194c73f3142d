-- A command has one answer, so what was asked makes one history.
use Rattle.std.proofs.Common.{◌≡◌, ℕ, List, [], ◌∷◌, Option, None, Some, Result, refl, sym, ap, subst, ◌∙◌}
use Rattle.wl_elem.specs.declared.fault.Refusal.{Refusal}
use Rattle.wl_elem.specs.Lanes.{peer_of}
use Rattle.wl_frame.specs.Frame.{FrameValue}
use Rattle.wl_frame.specs.Refusals.{ReadAs}
use Rattle.wl_frame.specs.Sealing.{Sealing}
use Rattle.wl_history.specs.declared.command.Command.{Command}
use Rattle.wl_history.specs.declared.command.Command.TheVariants as commands
use Rattle.wl_history.specs.declared.outcome.Outcome.{Outcome}
use Rattle.wl_history.specs.declared.start.Start.{Start}
use Rattle.wl_history.specs.declared.step.Step.{Step}
use Rattle.wl_history.specs.EndState.{EndState}
use Rattle.wl_history.specs.AirState.{AirState, end_of, octets_heard, state_of}
use Rattle.wl_history.specs.Legal.{judged_at, judged_answer, HeardIf, IsAnswer, Legal}
use Rattle.wl_history.specs.Scripts.{Asked, asked}

abbrev pub ReadOnce : Type 0
ReadOnce = (octets : List ℕ) (a b : Result FrameValue Refusal) → ReadAs octets a → ReadAs octets b → a ≡ b

heard_once : ReadOnce → (text : Sealing) (s sender : EndState) (link : ℕ) (octets : Option (List ℕ)) (o p : Outcome) → HeardIf text s sender link octets o → HeardIf text s sender link octets p → o ≡ p
heard_once once text s sender link None o p x y = x ∙ sym y
heard_once once text s sender link (Some octets) o p (reading, read, is) (other, read', is') =
    is ∙ ap (λ (r : Result FrameValue Refusal). judged_answer text s sender (judged_at s link r)) (once octets reading other read read') ∙ sym is'

pub answered_once : ReadOnce → (text : Sealing) (thread : ℕ) (command : Command) (a : AirState) (o p : Outcome) → IsAnswer text thread command a o → IsAnswer text thread command a p → o ≡ p
answered_once once text thread (commands.Deliver end link nth) a o p x y = heard_once once text (end_of a end) (end_of a (peer_of end)) link (octets_heard text (commands.Deliver end link nth) a) o p x y
answered_once once text thread (commands.Alter end link nth number) a o p x y = heard_once once text (end_of a end) (end_of a (peer_of end)) link (octets_heard text (commands.Alter end link nth number) a) o p x y
answered_once once text thread (commands.Forge end link lane key pn number body) a o p x y = heard_once once text (end_of a end) (end_of a (peer_of end)) link (octets_heard text (commands.Forge end link lane key pn number body) a) o p x y
answered_once once text thread (commands.Inject end link octets) a o p x y = heard_once once text (end_of a end) (end_of a (peer_of end)) link (octets_heard text (commands.Inject end link octets) a) o p x y
answered_once once text thread other a o p x y = x ∙ sym y

abbrev made : ℕ → Command → Outcome → Step
made thread command outcome = record { thread = thread; command = command; outcome = outcome }

pub one : ReadOnce → (text : Sealing) (start : Start) (a b : List Step) → Legal text start a → Legal text start b → asked a ≡ asked b → a ≡ b
one once text start [] [] p q e = refl
one once text start [] (y ∷ ys) p q e = absurd (cc e)
one once text start (x ∷ xs) [] p q e = absurd (cc e)
one once text start (x ∷ xs) (y ∷ ys) p q e =
    let heads : (let u : Asked = record { thread = x.thread; command = x.command } in u) ≡ (let v : Asked = record { thread = y.thread; command = y.command } in v) = cc in
    let more : asked xs ≡ asked ys = cc in
    let before : xs ≡ ys = one once text start xs ys p.0 q.0 more in
    let thread : x.thread ≡ y.thread = ap (λ (u : Asked). u.thread) heads in
    let command : x.command ≡ y.command = ap (λ (u : Asked). u.command) heads in
    let moved : IsAnswer text y.thread y.command (state_of text start ys) x.outcome =
    subst (λ (b : List Step). IsAnswer text y.thread y.command (state_of text start b) x.outcome) before
    (subst (λ (c : Command). IsAnswer text y.thread c (state_of text start xs) x.outcome) command
    (subst (λ (t : ℕ). IsAnswer text t x.command (state_of text start xs) x.outcome) thread p.1.answer)) in
    let outcome : x.outcome ≡ y.outcome = answered_once once text y.thread y.command (state_of text start ys) x.outcome y.outcome moved q.1.answer in
    ap (λ (t : ℕ). made t x.command x.outcome ∷ xs) thread ∙ ap (λ (c : Command). made y.thread c x.outcome ∷ xs) command
    ∙ ap (λ (o : Outcome). made y.thread y.command o ∷ xs) outcome ∙ ap (λ (s : List Step). made y.thread y.command y.outcome ∷ s) before
