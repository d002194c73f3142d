-- What holds of each scenario that is read.
use Rattle.std.proofs.Common.{◌≡◌, ℕ, ◌≤◌, ◌<◌, ◌^◌, nat_le, Bool, true, false, if◌then◌else◌, List, length, Result, Ok, Err, refl, sym, ap, ◌∙◌, subst, arith}
use Rattle.std.proofs.lemmas.Bool.{and_parts}
use Rattle.serde_json.specs.Data.{Items}
use Rattle.serde_json.specs.View.{items_view}
use Rattle.serde_json.specs.declared.value.Value.{Value}
use Rattle.wl_elem.specs.declared.lane.EndId.{EndId}
use Rattle.wl_elem.specs.declared.lane.EndId.TheVariants.{Ap, Sta}
use Rattle.wl_history.specs.declared.script.Item.{Item}
use Rattle.wl_history.specs.declared.start.Start.{Start}
use Rattle.wl_history.specs.Ends.{IsStart, start_of}
use Rattle.wl_scene.specs.declared.head.Head.{Head}
use Rattle.wl_scene.specs.declared.scenario.Scenario.{Scenario}
use Rattle.wl_scene.specs.declared.fault.SceneFault.{SceneFault}
use Rattle.wl_scene.specs.declared.fault.SceneFault.TheVariants.{Refused, Memory}
use Rattle.wl_scene.specs.Answering.{AnswersOnly}
use Rattle.wl_scene.specs.Items.{items_of, count_all}
use Rattle.wl_scene.specs.Head.{ascend, addresses_of, all_apart}
use Rattle.wl_scene.specs.Scene.{end_start, scripted, with_commands, command_limit}
use Rattle.wl_scene.specs.Scene as scene
use Rattle.wl_scene.specs.Sound.{IsSoundEnd, IsSound, IsSoundHead}
use Rattle.wl_scene.proofs.Found.{tells}
use Rattle.wl_scene.proofs.Fields.{HasLinks}
use Rattle.wl_scene.proofs.Asked.{all_fit}

has_links : (head : Head) → HasLinks (scene.start_of head) head.links
has_links head Ap = refl
has_links head Sta = refl

sound_end : (head : Head) (e : EndId) → IsSoundHead head → IsSoundEnd (end_start e head)
sound_end head e h =
    let links = head.links in
    let some = and_parts (nat_le 1 (length links)) _ h.links.all in
    let few = and_parts (nat_le (length links) 4) _ some.1 in
    let up = and_parts (ascend links) _ few.1 in
    let apart = and_parts (all_apart (addresses_of Ap links)) _ up.1 in
    record {
      ap = h.ap;
      sta = h.sta;
      different = h.different;
      key = h.key;
      some_links = tells 1 (length links) some.0;
      few_links = tells (length links) 4 few.0;
      links = h.links.each;
      ascending = up.0;
      ap_apart = apart.0;
      sta_apart = apart.1;
      accept = h.accept;
      some_window = h.some_window;
      window_limit = h.window_limit;
      held = held head e;
      key_limit = omega (arith, h.firsts.ap.key, h.firsts.sta.key);
    }
  where
    held : (head : Head) (e : EndId) → (end_start e head).first_key ≤ (end_start e head).newest
    held head Ap = omega arith
    held head Sta = omega arith

sound_start : (head : Head) → IsSoundHead head → IsStart (scene.start_of head)
sound_start head h = record {
  ap_end = refl;
  sta_end = refl;
  ap_same = refl;
  sta_same = refl;
  key_same = refl;
  links_same = refl;
  ap_six = h.ap;
  sta_six = h.sta;
  some_window = some_window;
  window_limit = window_limit;
  some_pn = some_pn;
  pn_limit = pn_limit;
}
  where
    some_window : (e : EndId) → 1 ≤ (start_of (scene.start_of head) e).window
    some_window Ap = h.some_window
    some_window Sta = h.some_window

    window_limit : (e : EndId) → (start_of (scene.start_of head) e).window ≤ 256
    window_limit Ap = h.window_limit
    window_limit Sta = h.window_limit

    some_pn : (e : EndId) → 1 ≤ (start_of (scene.start_of head) e).first_pn
    some_pn Ap = h.firsts.ap.some_pn
    some_pn Sta = h.firsts.sta.some_pn

    pn_limit : (e : EndId) → (start_of (scene.start_of head) e).first_pn < 2 ^ 48
    pn_limit Ap = h.firsts.ap.pn_limit
    pn_limit Sta = h.firsts.sta.pn_limit

scripted_sound : (head : Head) (ds : Items) (r : Result (List Item) ℕ) (scenario : Scenario) → IsSoundHead head → count_all ds ≤ 65536 → items_of head.links ds ≡ r → scripted head r ≡ Ok scenario → IsSound scenario
scripted_sound head ds (Err place) scenario h few is same = absurd (cc)
scripted_sound head ds (Ok items) scenario h few is same =
    let all = all_fit (scene.start_of head) head.links ds items (has_links head) is in
    let made : record { start = scene.start_of head; before = items } ≡ scenario = cc in
    subst IsSound made (record { start = sound_start head h; ap = sound_end head Ap h; sta = sound_end head Sta h; ends = (refl, refl); associated = refl; accept = refl; window = refl; newest = refl; few_asked = omega (arith, all.asked, few); fit = all.fit })

counted_sound : (head : Head) (few : Bool) (ds : Items) (scenario : Scenario) → IsSoundHead head → (few ≡ true → count_all ds ≤ 65536) → (if few then scripted head (items_of head.links ds) else Err 0) ≡ Ok scenario → IsSound scenario
counted_sound head true ds scenario h bound same = scripted_sound head ds (items_of head.links ds) scenario h (bound refl) refl same
counted_sound head false ds scenario h bound same = absurd (cc)

pub sound : (head : Head) (ds : Items) (scenario : Scenario) → IsSoundHead head → with_commands head ds ≡ Ok scenario → IsSound scenario
sound head ds scenario h same = counted_sound head (nat_le (count_all ds) command_limit) ds scenario h (tells (count_all ds) 65536) same

-- ---- the count of the commands

pub too_many : (head : Head) (values : List Value) (few : Bool) → few ≡ nat_le (count_all (items_view values)) command_limit → few ≡ false → with_commands head (items_view values) ≡ Err 0
too_many head values few is none = ap (λ (b : Bool). if b then scripted head (items_of head.links (items_view values)) else Err 0) (sym is ∙ none)

pub few_enough : (head : Head) (values : List Value) (few : Bool) → few ≡ nat_le (count_all (items_view values)) command_limit → few ≡ true → with_commands head (items_view values) ≡ scripted head (items_of head.links (items_view values))
few_enough head values few is sure = ap (λ (b : Bool). if b then scripted head (items_of head.links (items_view values)) else Err 0) (sym is ∙ sure)

pub within_limit : (values : List Value) (few : Bool) → few ≡ nat_le (count_all (items_view values)) command_limit → few ≡ true → count_all (items_view values) ≤ command_limit
within_limit values few is sure = tells (count_all (items_view values)) 65536 (sym is ∙ sure)

-- a fault of the commands is one of the scenario
pub same_fault : (head : Head) (fault : SceneFault) (r : Result (List Item) ℕ) → AnswersOnly {V = List Item} (Err fault) r → AnswersOnly {V = Scenario} (Err fault) (scripted head r)
same_fault head (Refused place) r is = ap (scripted head) is
same_fault head Memory r is = tt

pub started : (head : Head) (items : List Item) (start : Start) → start ≡ scene.start_of head → scripted head (Ok items) ≡ Ok (record { start = start; before = items })
started head items start is = let made : Start → Result Scenario ℕ = λ s. Ok (record { start = s; before = items }) in ap made (sym is)
