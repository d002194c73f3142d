use Rattle.std.proofs.Common.{◌≡◌, subst}
use Rattle.std.specs.Prelude.{OnOk, OnErr}
use Rattle.wl_window.specs.Reordering.{requested}
use Rattle.wl_replay.specs.Replay.{last_of}
use Rattle.wl_history.specs.EndState.{LaneState, IsEnd}
use Rattle.wl_end.specs.Listening.{lane_passed, pairs_passed}
use Rattle.wl_end.specs.Parts.{with_lane_of}
use Rattle.wl_end.specs.contracts.end.End.{the_view}
use Rattle.wl_end.proofs.Keeping.{passed_kept, heard_at}
use Rattle.wl_end.proofs.end.End.bar_in.Goals as goal
use Rattle.wl_end.proofs.end.End.bar_in.Goals.{After-request-asked}

kept : (c : After-request-asked) → IsEnd (heard_at (the_view c.self.inside) (with_lane_of c.self.inside.lanes c.args.bar.now.lane c.request-asked.new.self) c.request-asked.new.guard)
kept c =
    let s = the_view c.self.inside in
    let lane = c.args.bar.now.lane in
    let asked = λ (l : LaneState). requested l.window c.args.bar.now.start in
    let own = c.at_mut.ensures.value in
    let told = c.request-asked.ensures in
    let after = subst (λ (l : LaneState). OnOk c.request-asked.result (c.request-asked.new.self ≡ lane_passed (last_of s.last lane) (asked l) l)) own told.after in
    let pairs = subst (λ (l : LaneState). OnOk c.request-asked.result (c.request-asked.new.guard ≡ pairs_passed lane (asked l) s.last)) own told.pairs in
    let unchanged = subst (λ (l : LaneState). OnErr c.request-asked.result (c.request-asked.new.self ≡ l)) own told.unchanged in
    passed_kept c.an_end_keeps.ensures.pass s c.args.bar.now c.request-asked.result c.request-asked.new.self c.request-asked.new.guard c.self.invariant.sound after pairs unchanged told.same_pairs

pub invariant_of-self : goal.invariant_of-self
invariant_of-self c = let all = (goal.at.invariant_of-self c).After-request-asked in record { sound = kept all; known = c.self.invariant.known }

pub returns-clause-sound : goal.returns-clause-sound
returns-clause-sound c = kept (goal.at.returns-clause-sound c).After-request-asked
