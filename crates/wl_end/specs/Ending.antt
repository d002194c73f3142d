-- What holds of each end.
use Rattle.std.specs.Prelude.{◌≡◌, ℕ, ◌<◌, true}
use Rattle.wl_elem.specs.Links.{link_limit}
use Rattle.wl_history.specs.Ends.{is_link, is_set_up}
use Rattle.wl_history.specs.EndState.{EndState, IsEnd}

-- an end is sound, and each link that it has set up is one of its links
pub record IsKept (s : EndState) : Type 0 where
  pub sound : IsEnd s
  pub known : (link : ℕ) → link < link_limit → is_set_up s.setup link ≡ true → is_link s.start link ≡ true
