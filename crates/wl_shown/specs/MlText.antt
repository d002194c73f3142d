-- The text of a Multi-Link element: the fields of its layouts, in their order.
use Rattle.std.specs.Prelude.{ℕ, List, [], ◌∷◌, ◌++◌, flat_map, codes}
use Rattle.std.specs.Fmt.{decimal}
use Rattle.hex.specs.Hex.{encode_lower}
use Rattle.wl_mle.specs.declared.basic.Basic.{Basic}
use Rattle.wl_mle.specs.declared.basic.Common.{Common}
use Rattle.wl_mle.specs.declared.basic.BasicSub.{BasicSub}
use Rattle.wl_mle.specs.declared.basic.BasicSub.TheVariants as basics
use Rattle.wl_mle.specs.declared.profile.Profile.{Profile}
use Rattle.wl_mle.specs.declared.reconf.Reconf.{Reconf}
use Rattle.wl_mle.specs.declared.reconf.ReconfSub.{ReconfSub}
use Rattle.wl_mle.specs.declared.reconf.ReconfSub.TheVariants as reconfs
use Rattle.wl_mle.specs.declared.change.LinkChange.{LinkChange}
use Rattle.wl_mle.specs.declared.multi_link.MultiLink.{MultiLink}
use Rattle.wl_mle.specs.declared.multi_link.MultiLink.TheVariants as elements
use Rattle.wl_shown.specs.Parts.{named, shown_value, flag_text, optional_text, optional_octets}

-- ---- profiles: the control word, STA Info, and the rest

abbrev pub profile_control : Profile → List (List ℕ)
profile_control p =
    named (codes "link") (decimal p.link)
    ∷ named (codes "complete") (flag_text p.complete)
    ∷ named (codes "pair") (flag_text p.pair)
    ∷ named (codes "wide") (flag_text p.wide)
    ∷ named (codes "spare") (decimal p.spare)
    ∷ []

abbrev pub profile_info : Profile → List (List ℕ)
profile_info p =
    named (codes "mac") (optional_octets p.mac)
    ∷ named (codes "beacon") (optional_text p.beacon)
    ∷ named (codes "tsf") (optional_text p.tsf)
    ∷ named (codes "dtim") (optional_text p.dtim)
    ∷ named (codes "nstr") (optional_text p.nstr)
    ∷ named (codes "count") (optional_text p.count)
    ∷ []

abbrev pub rest_parts : List ℕ → List ℕ → List (List ℕ)
rest_parts tail body = named (codes "tail") (encode_lower tail) ∷ named (codes "body") (encode_lower body) ∷ []

abbrev pub profile_text : Profile → List ℕ
profile_text p = shown_value (codes "sta") (profile_control p ++ profile_info p ++ rest_parts p.tail p.body)

abbrev pub change_control : LinkChange → List (List ℕ)
change_control c =
    named (codes "link") (decimal c.link)
    ∷ named (codes "complete") (flag_text c.complete)
    ∷ named (codes "op") (decimal c.op)
    ∷ named (codes "params") (flag_text c.params)
    ∷ named (codes "spare") (decimal c.spare)
    ∷ []

abbrev pub change_info : LinkChange → List (List ℕ)
change_info c = named (codes "mac") (optional_octets c.mac) ∷ named (codes "timer") (optional_text c.timer) ∷ []

abbrev pub change_text : LinkChange → List ℕ
change_text c = shown_value (codes "chg") (change_control c ++ change_info c ++ rest_parts c.tail c.body)

-- ---- subelements

-- a subelement that stays as octets
abbrev pub other_text : ℕ → List ℕ → List ℕ
other_text id body = codes "s" ++ decimal id ++ codes ":" ++ encode_lower body

abbrev pub basic_sub_text : BasicSub → List ℕ
basic_sub_text (basics.Profile p) = profile_text p
basic_sub_text (basics.Other id body) = other_text id body

abbrev pub reconf_sub_text : ReconfSub → List ℕ
reconf_sub_text (reconfs.Change c) = change_text c
reconf_sub_text (reconfs.Other id body) = other_text id body

-- each subelement behind a semicolon
abbrev pub more_subs : {V : Type 0} → (V → List ℕ) → List V → List ℕ
more_subs text subs = flat_map (λ sub. codes ";" ++ text sub) subs

-- the subelements with semicolons between them
abbrev pub subs_text : {V : Type 0} → (V → List ℕ) → List V → List ℕ
subs_text text [] = []
subs_text text (sub ∷ more) = text sub ++ more_subs text more

-- ---- elements: the control word and Common Info, and the subelements

abbrev pub common_basics : Common → List (List ℕ)
common_basics c =
    named (codes "mld") (encode_lower c.mld)
    ∷ named (codes "link") (optional_text c.link)
    ∷ named (codes "count") (optional_text c.count)
    ∷ named (codes "sync") (optional_text c.sync)
    ∷ []

abbrev pub common_capabilities : Common → List (List ℕ)
common_capabilities c =
    named (codes "eml") (optional_text c.eml)
    ∷ named (codes "caps") (optional_text c.caps)
    ∷ named (codes "apid") (optional_text c.apid)
    ∷ named (codes "ext") (optional_text c.ext)
    ∷ []

abbrev pub common_info : Common → List (List ℕ)
common_info c = common_basics c ++ common_capabilities c

abbrev pub reconf_info : Reconf → List (List ℕ)
reconf_info r =
    named (codes "mld") (optional_octets r.mld)
    ∷ named (codes "eml") (optional_text r.eml)
    ∷ named (codes "caps") (optional_text r.caps)
    ∷ named (codes "ext") (optional_text r.ext)
    ∷ []

-- the type, and the bits of the control word that no field names
abbrev pub type_parts : List ℕ → ℕ → List (List ℕ)
type_parts name spare = name ∷ named (codes "spare") (decimal spare) ∷ []

-- what stands behind the fields of Common Info
abbrev pub subs_parts : List ℕ → List ℕ → List (List ℕ)
subs_parts tail subs = named (codes "tail") (encode_lower tail) ∷ named (codes "subs") (codes "[" ++ subs ++ codes "]") ∷ []

abbrev pub other_parts : ℕ → List ℕ → List (List ℕ)
other_parts control body = codes "other" ∷ named (codes "control") (decimal control) ∷ named (codes "body") (encode_lower body) ∷ []

abbrev pub basic_text : Basic → List ℕ
basic_text b = shown_value (codes "ml") (type_parts (codes "basic") b.spare ++ common_info b.common ++ subs_parts b.common.tail (subs_text basic_sub_text b.subs))

abbrev pub reconf_text : Reconf → List ℕ
reconf_text r = shown_value (codes "ml") (type_parts (codes "reconf") r.spare ++ reconf_info r ++ subs_parts r.tail (subs_text reconf_sub_text r.subs))

abbrev pub ml_text : MultiLink → List ℕ
ml_text (elements.Basic b) = basic_text b
ml_text (elements.Reconfiguration r) = reconf_text r
ml_text (elements.Other control body) = shown_value (codes "ml") (other_parts control body)
