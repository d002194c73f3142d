use Rattle.std.proofs.Common.{◌≡◌, ◌<◌, ℕ, true, List, Option, Result, Ok, length, sym, ap, subst, ◌∙◌, arith}
use Rattle.std.specs.Prelude.{IfOk, IfSome, OnOk}
use Rattle.wl_elem.specs.declared.fault.Memory.{Memory}
use Rattle.wl_elem.specs.Lanes.{lane_index}
use Rattle.wl_map.specs.Ends.{MapState}
use Rattle.wl_window.specs.Reordering.{Arrived, arrived}
use Rattle.wl_replay.specs.declared.replay.Pair.{Pair}
use Rattle.wl_replay.specs.Replay.{is_above, last_of}
use Rattle.wl_history.specs.declared.arrival.Arrival.{Arrival}
use Rattle.wl_history.specs.declared.setup.Setup.{Setup}
use Rattle.wl_history.specs.Ends.{receive_size}
use Rattle.wl_history.specs.EndState.{EndState, LaneState, IsEnd, lane_at, management, after_hear}
use Rattle.wl_end.specs.declared.heard.Heard.{Heard}
use Rattle.wl_end.specs.declared.heard.Heard.TheVariants as heard
use Rattle.wl_end.specs.Listening.{heard_of, lane_heard, pairs_after}
use Rattle.wl_end.specs.Parts.{with_lane_of}
use Rattle.wl_end.specs.Reacting.{maps_told, reply_told}
use Rattle.wl_end.specs.contracts.end.End.{the_view}
use Rattle.wl_end.proofs.Keeping.{room_if, heard_end, setup_heard, hear_leaves, came_old, came_doubled, came_stored}
use Rattle.wl_end.proofs.end.End.hear.Goals as goal
use Rattle.wl_end.proofs.end.End.hear.Goals.{After-lane-5-1, After-hear-heard}

pub hear-heard-requires-clause-countable : goal.hear-heard-requires-clause-countable
hear-heard-requires-clause-countable c =
    let s = the_view c.self.inside in
    let room : length (lane_at s management).queue < 4294959104 = subst (λ (t : EndState). length (lane_at t management).queue < 4294959104) (sym c.self.view_is) c.requires.room in
    subst (λ (l : LaneState). IfSome c.in_ok-reply.reply (λ b. length l.queue < 4294967295)) (sym c.at_mut.ensures.value)
    (subst (λ (r : Option (List ℕ)). IfSome r (λ b. length (lane_at s (lane_index c.args.lane)).queue < 4294967295)) (sym (c.in_ok-reply.ensures.reply ∙ ap (λ (b : List ℕ). reply_told c.args.lane b s.setup.maps) c.as_slice.ensures)) (room_if s c.args.lane c.args.arrival.body room))

-- what the lane's window makes of the body
abbrev come : After-hear-heard → Arrived Arrival
come c = arrived (lane_at (the_view c.self.inside) (lane_index c.args.lane)).window c.args.number (receive_size c.self.inside.setup (lane_index c.args.lane)) c.args.arrival

abbrev last : After-hear-heard → Option Pair
last c = last_of c.self.inside.guard c.args.lane

abbrev AfterIs : After-hear-heard → Type 0
AfterIs c = c.hear-heard.new.self ≡ lane_heard (last c) (reply_told c.args.lane c.args.arrival.body c.self.inside.setup.maps) (come c) (lane_at (the_view c.self.inside) (lane_index c.args.lane))

abbrev PairsAre : After-hear-heard → Type 0
PairsAre c = c.hear-heard.new.guard ≡ pairs_after c.args.lane (come c) c.self.inside.guard

-- what the lane tells of it, in the words of the end
record Told (c : After-hear-heard) : Type 0 where
  pub heard : IfOk c.hear-heard.result (λ h. h ≡ heard_of (last c) (come c))
  pub after : OnOk c.hear-heard.result (c.hear-heard.new.self ≡ lane_heard (last c) (reply_told c.args.lane c.args.arrival.body c.self.inside.setup.maps) (come c) (lane_at (the_view c.self.inside) (lane_index c.args.lane)))
  pub pairs : OnOk c.hear-heard.result (c.hear-heard.new.guard ≡ pairs_after c.args.lane (come c) c.self.inside.guard)

told : (c : After-hear-heard) → Told c
told c =
    let k = lane_index c.args.lane in
    let own = c.at_mut.ensures.value in
    let said = c.hear-heard.ensures in
    let size = c.receive_size-size.ensures in
    let come_of = λ (l : LaneState) (z : ℕ). arrived l.window c.args.number z c.args.arrival in
    record {
      heard = subst (λ (z : ℕ). IfOk c.hear-heard.result (λ h. h ≡ heard_of (last c) (come_of (lane_at (the_view c.self.inside) k) z))) size
          (subst (λ (l : LaneState). IfOk c.hear-heard.result (λ h. h ≡ heard_of (last c) (come_of l c.receive_size-size.result))) own said.heard);
      after = subst (λ (r : Option (List ℕ)). OnOk c.hear-heard.result (c.hear-heard.new.self ≡ lane_heard (last c) r (come c) (lane_at (the_view c.self.inside) k))) (c.in_ok-reply.ensures.reply ∙ ap (λ (b : List ℕ). reply_told c.args.lane b c.self.inside.setup.maps) c.as_slice.ensures)
          (subst (λ (z : ℕ). OnOk c.hear-heard.result (c.hear-heard.new.self ≡ lane_heard (last c) c.in_ok-reply.reply (come_of (lane_at (the_view c.self.inside) k) z) (lane_at (the_view c.self.inside) k))) size
          (subst (λ (l : LaneState). OnOk c.hear-heard.result (c.hear-heard.new.self ≡ lane_heard (last c) c.in_ok-reply.reply (come_of l c.receive_size-size.result) l)) own said.after));
      pairs = subst (λ (z : ℕ). OnOk c.hear-heard.result (c.hear-heard.new.guard ≡ pairs_after c.args.lane (come_of (lane_at (the_view c.self.inside) k) z) c.self.inside.guard)) size
          (subst (λ (l : LaneState). OnOk c.hear-heard.result (c.hear-heard.new.guard ≡ pairs_after c.args.lane (come_of l c.receive_size-size.result) c.self.inside.guard)) own said.pairs);
    }

abbrev with_heard : After-hear-heard → LaneState → List (Option Pair) → Setup → EndState
with_heard c lane pairs setup = record (the_view c.self.inside) { lanes = with_lane_of c.self.inside.lanes c.args.lane lane; last = pairs; setup = setup }

-- an end with such a lane, such pairs and such a setup is the one that is left
left : (c : After-hear-heard) (lane : LaneState) (pairs : List (Option Pair)) (setup : Setup)
    → lane ≡ lane_heard (last c) (reply_told c.args.lane c.args.arrival.body c.self.inside.setup.maps) (come c) (lane_at (the_view c.self.inside) (lane_index c.args.lane))
    → pairs ≡ pairs_after c.args.lane (come c) c.self.inside.guard → setup ≡ setup_heard c.args.lane c.args.arrival.body (come c) c.self.inside.setup
    → with_heard c lane pairs setup ≡ after_hear c.args.lane c.args.number (receive_size c.self.inside.setup (lane_index c.args.lane)) c.args.arrival (the_view c.self.inside)
left c lane pairs setup p q r =
    let s = the_view c.self.inside in
    let above : is_above (last c) c.args.arrival.numbers.key c.args.arrival.numbers.pn ≡ true = sym c.above.ensures ∙ c.if-not-above.false in
    let end = heard_end s c.args.lane c.args.arrival.body (come c) in
    ap (λ (l : LaneState). with_heard c l pairs setup) p ∙ ap (λ (ps : List (Option Pair)). with_heard c (lane_heard (last c) (reply_told c.args.lane c.args.arrival.body s.setup.maps) (come c) (lane_at s (lane_index c.args.lane))) ps setup) q
    ∙ ap (λ (x : Setup). let t : EndState = record end { setup = x } in t) r
    ∙ hear_leaves s c.args.lane c.args.number c.args.arrival (omega (arith, c.self.invariant.sound.nine)) above

kept : (c : After-hear-heard) (t : EndState) → t ≡ after_hear c.args.lane c.args.number (receive_size c.self.inside.setup (lane_index c.args.lane)) c.args.arrival (the_view c.self.inside) → IsEnd t
kept c t is = subst IsEnd (sym is) (c.an_end_keeps.ensures.hear (the_view c.self.inside) c.args.lane c.args.number c.args.arrival c.self.invariant.sound c.requires.made)

-- what a refusal and a body that is stored leave
old_left : (c : After-hear-heard) → c.hear-heard.result ≡ Ok heard.Old → with_heard c c.hear-heard.new.self c.hear-heard.new.guard c.self.inside.setup ≡ after_hear c.args.lane c.args.number (receive_size c.self.inside.setup (lane_index c.args.lane)) c.args.arrival (the_view c.self.inside)
old_left c is =
    let t = told c in
    let came = came_old (last c) (come c) (subst (λ (r : Result Heard Memory). IfOk r (λ h. h ≡ heard_of (last c) (come c))) is t.heard) in
    left c c.hear-heard.new.self c.hear-heard.new.guard c.self.inside.setup (subst (λ (r : Result Heard Memory). OnOk r (AfterIs c)) is t.after) (subst (λ (r : Result Heard Memory). OnOk r (PairsAre c)) is t.pairs) (sym (ap (λ (x : Arrived Arrival). setup_heard c.args.lane c.args.arrival.body x c.self.inside.setup) came))

doubled_left : (c : After-hear-heard) → c.hear-heard.result ≡ Ok heard.Doubled → with_heard c c.hear-heard.new.self c.hear-heard.new.guard c.self.inside.setup ≡ after_hear c.args.lane c.args.number (receive_size c.self.inside.setup (lane_index c.args.lane)) c.args.arrival (the_view c.self.inside)
doubled_left c is =
    let t = told c in
    let came = came_doubled (last c) (come c) (subst (λ (r : Result Heard Memory). IfOk r (λ h. h ≡ heard_of (last c) (come c))) is t.heard) in
    left c c.hear-heard.new.self c.hear-heard.new.guard c.self.inside.setup (subst (λ (r : Result Heard Memory). OnOk r (AfterIs c)) is t.after) (subst (λ (r : Result Heard Memory). OnOk r (PairsAre c)) is t.pairs) (sym (ap (λ (x : Arrived Arrival). setup_heard c.args.lane c.args.arrival.body x c.self.inside.setup) came))

stored_left : (c : After-hear-heard) (up : List ℕ) → c.hear-heard.result ≡ Ok (heard.Stored up)
    → with_heard c c.hear-heard.new.self c.hear-heard.new.guard (record c.self.inside.setup { maps = c.react.new.maps }) ≡ after_hear c.args.lane c.args.number (receive_size c.self.inside.setup (lane_index c.args.lane)) c.args.arrival (the_view c.self.inside)
stored_left c up is =
    let t = told c in
    let came = came_stored (last c) (come c) up (subst (λ (r : Result Heard Memory). IfOk r (λ h. h ≡ heard_of (last c) (come c))) is t.heard) in
    left c c.hear-heard.new.self c.hear-heard.new.guard (record c.self.inside.setup { maps = c.react.new.maps }) (subst (λ (r : Result Heard Memory). OnOk r (AfterIs c)) is t.after) (subst (λ (r : Result Heard Memory). OnOk r (PairsAre c)) is t.pairs)
    (ap (λ (m : MapState). let x : Setup = record c.self.inside.setup { maps = m } in x) (c.in_ok-reply.ensures.maps ∙ ap (λ (b : List ℕ). maps_told c.args.lane b c.self.inside.setup.maps) c.as_slice.ensures) ∙ sym (ap (λ (x : Arrived Arrival). setup_heard c.args.lane c.args.arrival.body x c.self.inside.setup) came.is))

pub invariant_of-self : goal.invariant_of-self
invariant_of-self c = let all = (goal.at.invariant_of-self c).After-hear-heard in record { sound = kept all _ (old_left all (rw c.in-Ok-Old.field-0-is at c.in-Ok-Old.is)); known = c.self.invariant.known }

pub invariant_of-self-in-Ok-Doubled : goal.invariant_of-self-in-Ok-Doubled
invariant_of-self-in-Ok-Doubled c = let all = (goal.at.invariant_of-self-in-Ok-Doubled c).After-hear-heard in record { sound = kept all _ (doubled_left all (rw c.in-Ok-Doubled.field-0-is at c.in-Ok-Doubled.is)); known = c.self.invariant.known }

pub invariant_of-self-in-Ok-Stored : goal.invariant_of-self-in-Ok-Stored
invariant_of-self-in-Ok-Stored c = let all = (goal.at.invariant_of-self-in-Ok-Stored c).After-hear-heard in record { sound = kept all _ (stored_left all c.in-Ok-Stored.up (rw c.in-Ok-Stored.field-0-is at c.in-Ok-Stored.is)); known = c.self.invariant.known }

pub returns-in-Ok-Old-clause-sound : goal.returns-in-Ok-Old-clause-sound
returns-in-Ok-Old-clause-sound c = let all = (goal.at.returns-in-Ok-Old-clause-sound c).After-hear-heard in kept all _ (old_left all (rw c.in-Ok-Old.field-0-is at c.in-Ok-Old.is))

pub returns-in-Ok-Doubled-clause-sound : goal.returns-in-Ok-Doubled-clause-sound
returns-in-Ok-Doubled-clause-sound c = let all = (goal.at.returns-in-Ok-Doubled-clause-sound c).After-hear-heard in kept all _ (doubled_left all (rw c.in-Ok-Doubled.field-0-is at c.in-Ok-Doubled.is))

pub returns-in-Ok-Stored-clause-after : goal.returns-in-Ok-Stored-clause-after
returns-in-Ok-Stored-clause-after c =
    let all = (goal.at.returns-in-Ok-Stored-clause-after c).After-hear-heard in
    stored_left all c.in-Ok-Stored.up (rw c.in-Ok-Stored.field-0-is at c.in-Ok-Stored.is) ∙ ap (λ (s : EndState). after_hear c.args.lane c.args.number (receive_size s.setup (lane_index c.args.lane)) c.args.arrival s) c.self.view_is

pub returns-in-Ok-Stored-clause-sound : goal.returns-in-Ok-Stored-clause-sound
returns-in-Ok-Stored-clause-sound c = let all = (goal.at.returns-in-Ok-Stored-clause-sound c).After-hear-heard in kept all _ (stored_left all c.in-Ok-Stored.up (rw c.in-Ok-Stored.field-0-is at c.in-Ok-Stored.is))
