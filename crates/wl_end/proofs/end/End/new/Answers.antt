use Rattle.std.proofs.Common.{◌≡◌, ◌≤◌, ℕ, ap, subst, sym, ◌∙◌}
use Rattle.wl_map.specs.Ends.{opened}
use Rattle.wl_history.specs.declared.setup.Setup.{Setup}
use Rattle.wl_history.specs.declared.start.EndStart.{EndStart}
use Rattle.wl_history.specs.EndState.{EndState, IsEnd, started}
use Rattle.wl_history.specs.Ends.{all_on, setup_begun}
use Rattle.wl_end.proofs.end.End.new.Goals as goal
use Rattle.wl_end.proofs.end.End.new.Goals.{After-new-7}

abbrev setup_made : After-new-7 → Setup
setup_made c = record { links = c.links_set_up.result; radios = all_on; window = c.in_ok-start.start.window; keys = c.new-2.result; maps = c.new-3.result; token = 0 }

setup_is : (c : After-new-7) → setup_made c ≡ setup_begun c.in_ok-start.start
setup_is c =
    let opened_as = λ (links : ℕ). opened c.in_ok-start.start.deny links in
    λ i. record { links = c.links_set_up.ensures.value i; radios = all_on; window = c.in_ok-start.start.window; keys = c.new-2.ensures i; maps = (c.new-3.ensures ∙ ap opened_as c.links_set_up-2.ensures.value) i; token = 0 }

abbrev made : After-new-7 → EndState
made c = record { start = c.in_ok-start.start; lanes = c.in_ok-lanes.lanes; hands = c.new-4.result.hands; numbers = c.new-numbers.result; booked = c.new-5.result.lanes; last = c.new-6.result; setup = setup_made c; frames = c.new-7.result }

begun : (c : After-new-7) → made c ≡ started c.in_ok-start.start
begun c = λ i. record {
  start = c.in_ok-start.start;
  lanes = c.in_ok-lanes.ensures i;
  hands = c.new-4.ensures i;
  numbers = c.new-numbers.ensures i;
  booked = (c.new-5.ensures i).lanes;
  last = c.new-6.ensures i;
  setup = setup_is c i;
  frames = c.new-7.ensures i;
}

pub invariant_of-result : goal.invariant_of-result
invariant_of-result c =
    let some = subst (λ (s : EndStart). 1 ≤ s.window) (sym c.in_ok-start.ensures) c.requires.some_window in
    let most = subst (λ (s : EndStart). s.window ≤ 256) (sym c.in_ok-start.ensures) c.requires.window_limit in
    record {
      sound = subst IsEnd (sym (begun c)) (c.an_end_keeps.ensures.start c.in_ok-start.start some most);
      known = c.links_set_up.ensures.known;
    }
