-- For private contracts alone: what was read of an element.
use Rattle.std.specs.Prelude.{◌≤◌, length}
use Rattle.wl_elem.specs.Element.{body_limit}
use Rattle.wl_mle.specs.declared.basic.BasicSub.{BasicSub}
use Rattle.wl_mle.specs.declared.basic.BasicSub.TheVariants as basics
use Rattle.wl_mle.specs.declared.profile.Profile.{Profile}
use Rattle.wl_mle.specs.MultiLink.{IsProfile, profile_text}

-- a profile that was read of an element
pub record IsRead (p : Profile) : Type 0 where
  pub is_profile : IsProfile p
  pub bound : length (profile_text p) ≤ body_limit

abbrev pub IsReadSub : BasicSub → Type 0
IsReadSub (basics.Profile p) = IsRead p
IsReadSub (basics.Other id body) = Unit {0}
