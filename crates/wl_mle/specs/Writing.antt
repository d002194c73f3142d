-- For private contracts alone: writing, the tests of a value, and how long it is as written.
use Rattle.std.specs.Prelude.{◌≡◌, ℕ, ◌+◌, List, ◌++◌, length, map, IfSome}
use Rattle.wl_elem.specs.declared.kind.ListKind.TheVariants.{Subelements}
use Rattle.wl_elem.specs.declared.item.Item.{Item}
use Rattle.wl_elem.specs.Items.{Items, items_len}
use Rattle.wl_elem.specs.Fields.{Fits}
use Rattle.wl_mle.specs.declared.basic.Basic.{Basic}
use Rattle.wl_mle.specs.declared.profile.Profile.{Profile}
use Rattle.wl_mle.specs.declared.reconf.Reconf.{Reconf}
use Rattle.wl_mle.specs.declared.change.LinkChange.{LinkChange}
use Rattle.wl_mle.specs.declared.multi_link.MultiLink.{MultiLink}
use Rattle.wl_mle.specs.declared.multi_link.MultiLink.TheVariants as elements
use Rattle.wl_mle.specs.Fields.{known_len}
use Rattle.wl_mle.specs.Layout.{basic_fields, reconf_fields}
use Rattle.wl_mle.specs.MultiLink.{IsAddress, basic_sub, reconf_sub}

-- new is old with the pieces of the subelements behind it
abbrev pub AddsSubs : List Item → List ℕ → List ℕ → Type 0
AddsSubs list old new = (octets : List ℕ) × Items Subelements list octets × (new ≡ old ++ octets)

-- what the types of the fields give

pub record BasicTyped (b : Basic) : Type 0 where
  pub mld : IsAddress b.common.mld
  pub link : Fits 1 b.common.link
  pub count : Fits 1 b.common.count
  pub sync : Fits 2 b.common.sync
  pub eml : Fits 2 b.common.eml
  pub caps : Fits 2 b.common.caps
  pub apid : Fits 1 b.common.apid
  pub ext : Fits 2 b.common.ext

pub record ReconfTyped (r : Reconf) : Type 0 where
  pub mld : IfSome r.mld IsAddress
  pub eml : Fits 2 r.eml
  pub caps : Fits 2 r.caps
  pub ext : Fits 2 r.ext

pub record ProfileTyped (p : Profile) : Type 0 where
  pub mac : IfSome p.mac IsAddress
  pub beacon : Fits 2 p.beacon
  pub tsf : Fits 8 p.tsf
  pub dtim : Fits 2 p.dtim
  pub count : Fits 1 p.count

pub record ChangeTyped (c : LinkChange) : Type 0 where
  pub mac : IfSome c.mac IsAddress
  pub timer : Fits 2 c.timer

-- how many octets the value is written in
abbrev pub value_len : MultiLink → ℕ
value_len (elements.Basic b) = 3 + known_len (basic_fields b.common) + length b.common.tail + items_len (map basic_sub b.subs)
value_len (elements.Reconfiguration r) = 3 + known_len (reconf_fields r) + length r.tail + items_len (map reconf_sub r.subs)
value_len (elements.Other control body) = 2 + length body
