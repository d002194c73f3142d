-- What holds of each scenario.
use Rattle.std.specs.Prelude.{◌≡◌, ◌≢◌, ℕ, ◌<◌, ◌≤◌, ◌^◌, true, is_some, List, length}
use Rattle.std.specs.List.{AllByRecursion}
use Rattle.wl_elem.specs.declared.lane.EndId.TheVariants.{Ap, Sta}
use Rattle.wl_elem.specs.Links.{link_limit, has_link}
use Rattle.wl_history.specs.declared.command.Command.TheVariants as commands
use Rattle.wl_history.specs.declared.script.Plain.{Plain}
use Rattle.wl_history.specs.declared.script.Plain.TheVariants.{Do, Send}
use Rattle.wl_history.specs.declared.start.LinkStart.{LinkStart}
use Rattle.wl_history.specs.declared.start.EndStart.{EndStart}
use Rattle.wl_history.specs.declared.start.Start.{Start}
use Rattle.wl_history.specs.Ends.{IsStart, link_at}
use Rattle.wl_history.specs.Legal.{Fits}
use Rattle.wl_history.specs.Scripts.{plains}
use Rattle.wl_scene.specs.declared.first.First.{First}
use Rattle.wl_scene.specs.declared.first.Firsts.{Firsts}
use Rattle.wl_scene.specs.declared.head.Head.{Head}
use Rattle.wl_scene.specs.declared.scenario.Scenario.{Scenario}
use Rattle.wl_scene.specs.Head.{ascend, addresses_of, all_apart, are_links}

-- the members of each command that this asks for are those of a scenario with this start
abbrev pub PlainFits : Start → Plain → Type 0
PlainFits start (Do command) = Fits start command
PlainFits start (Send end link lane) = Fits start (commands.Reserve end lane) × Fits start (commands.Put end link)

abbrev pub IsSoundLink : LinkStart → Type 0
IsSoundLink link = (link.id < link_limit) × (length link.ap ≡ 6) × (length link.sta ≡ 6)

-- each link of the set is one of these
abbrev pub AreLinksOf : List LinkStart → ℕ → Type 0
AreLinksOf links set = (id : ℕ) → id < link_limit → has_link set id ≡ true → is_some (link_at id links) ≡ true

pub record IsSoundEnd (start : EndStart) : Type 0 where
  pub ap : length start.ap ≡ 6
  pub sta : length start.sta ≡ 6
  pub different : start.ap ≢ start.sta
  pub key : length start.key ≡ 16
  pub some_links : 1 ≤ length start.links
  pub few_links : length start.links ≤ 4
  pub links : AllByRecursion IsSoundLink start.links
  pub ascending : ascend start.links ≡ true
  pub ap_apart : all_apart (addresses_of Ap start.links) ≡ true
  pub sta_apart : all_apart (addresses_of Sta start.links) ≡ true
  pub accept : AreLinksOf start.links start.accept
  pub some_window : 1 ≤ start.window
  pub window_limit : start.window ≤ 256
  pub held : start.first_key ≤ start.newest
  pub key_limit : start.newest < 2 ^ 16

pub record IsSound (scenario : Scenario) : Type 0 where
  -- two ends that agree
  pub start : IsStart scenario.start
  pub ap : IsSoundEnd scenario.start.ap
  pub sta : IsSoundEnd scenario.start.sta
  pub ends : (scenario.start.ap.end ≡ Ap) × (scenario.start.sta.end ≡ Sta)
  -- both have set up and accept the same links, have the same window, and hold the same keys
  pub associated : scenario.start.sta.associated ≡ scenario.start.ap.associated
  pub accept : scenario.start.sta.accept ≡ scenario.start.ap.accept
  pub window : scenario.start.sta.window ≡ scenario.start.ap.window
  pub newest : scenario.start.sta.newest ≡ scenario.start.ap.newest
  -- what they ask for, loops expanded
  pub few_asked : length (plains scenario.before) ≤ 65536
  pub fit : AllByRecursion (PlainFits scenario.start) (plains scenario.before)

-- an end has a first key number, and a first packet number under it
pub record IsSoundFirst (first : First) : Type 0 where
  pub key : first.key < 2 ^ 16
  pub some_pn : 1 ≤ first.pn
  pub pn_limit : first.pn < 2 ^ 48

pub record AreSoundFirsts (firsts : Firsts) : Type 0 where
  pub ap : IsSoundFirst firsts.ap
  pub sta : IsSoundFirst firsts.sta

-- the links are those of a scenario
pub record AreSoundLinks (links : List LinkStart) : Type 0 where
  pub each : AllByRecursion IsSoundLink links
  pub all : are_links links ≡ true

-- what holds of the members outside the commands
pub record IsSoundHead (head : Head) : Type 0 where
  pub ap : length head.ap ≡ 6
  pub sta : length head.sta ≡ 6
  pub different : head.ap ≢ head.sta
  pub key : length head.key ≡ 16
  pub links : AreSoundLinks head.links
  pub accept : AreLinksOf head.links head.accept
  pub some_window : 1 ≤ head.window
  pub window_limit : head.window ≤ 256
  pub firsts : AreSoundFirsts head.firsts
