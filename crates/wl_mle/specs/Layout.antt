-- The layouts of the Multi-Link element's Info fields (IEEE Std 802.11be, 9.4.2.312). Each follows a
-- control word of two octets and begins with its length (1), which counts itself. Behind the known
-- fields its `tail` goes on up to the length. Numbers have their lowest octet first.
--
-- | Common Info of Basic                        | there       | octets |
-- |---------------------------------------------|-------------|--------|
-- | MLD MAC address                             | always      | 6      |
-- | Link ID Info, link ID in B0 to B3            | 0x0010      | 1      |
-- | BSS Parameters Change Count                 | 0x0020      | 1      |
-- | Medium Synchronization Delay Information    | 0x0040      | 2      |
-- | EML Capabilities                            | 0x0080      | 2      |
-- | MLD Capabilities and Operations             | 0x0100      | 2      |
-- | AP MLD ID                                   | 0x0200      | 1      |
-- | Extended MLD Capabilities and Operations    | 0x0400      | 2      |
--
-- | Common Info of Reconfiguration              | there       | octets |
-- |---------------------------------------------|-------------|--------|
-- | MLD MAC address                             | 0x0010      | 6      |
-- | EML Capabilities                            | 0x0020      | 2      |
-- | MLD Capabilities and Operations             | 0x0040      | 2      |
-- | Extended MLD Capabilities and Operations    | 0x0080      | 2      |
--
-- | STA Info of a Basic profile                 | there       | octets |
-- |---------------------------------------------|-------------|--------|
-- | STA MAC address                             | 0x0020      | 6      |
-- | Beacon Interval                             | 0x0040      | 2      |
-- | TSF Offset                                  | 0x0080      | 8      |
-- | DTIM Info                                   | 0x0100      | 2      |
-- | NSTR Indication Bitmap                      | 0x0010 and 0x0200 | 2 with 0x0400, else 1 |
-- | BSS Parameters Change Count                 | 0x0800      | 1      |
--
-- | STA Info of a Reconfiguration profile       | there       | octets |
-- |---------------------------------------------|-------------|--------|
-- | STA MAC address                             | 0x0020      | 6      |
-- | AP Removal Timer                            | 0x0040      | 2      |
--
-- Control of an element: type B0 to B2 (0 Basic, 2 Reconfiguration), the bits above, and `spare`,
-- the others in their places (0xf808, 0xff08). Control of a profile: link ID B0 to B3, complete B4,
-- the bits above, `spare` B12 to B15; of a Reconfiguration profile also the operation B7 to B10 and
-- operation parameters present B11.
use Rattle.std.specs.Prelude.{ℕ, ◌+◌, ◌*◌, ◌/◌, ◌%◌, ◌&&◌, is_some, Bool, true, false, List, [], ◌∷◌, length, Option, Some}
use Rattle.wl_mle.specs.declared.basic.Basic.{Basic}
use Rattle.wl_mle.specs.declared.basic.Common.{Common}
use Rattle.wl_mle.specs.declared.profile.Profile.{Profile}
use Rattle.wl_mle.specs.declared.reconf.Reconf.{Reconf}
use Rattle.wl_mle.specs.declared.change.LinkChange.{LinkChange}
use Rattle.wl_elem.specs.Bits.{bit, has_bit}
use Rattle.wl_elem.specs.Fields.{number_field}
use Rattle.wl_mle.specs.Fields.{info}

-- the slots that a control word tells of

abbrev pub basic_slots : ℕ → List (Bool × ℕ)
basic_slots control =
    (true, 6) ∷ (has_bit control 0x10, 1) ∷ (has_bit control 0x20, 1) ∷ (has_bit control 0x40, 2) ∷ (has_bit control 0x80, 2)
    ∷ (has_bit control 0x100, 2) ∷ (has_bit control 0x200, 1) ∷ (has_bit control 0x400, 2) ∷ []

abbrev pub reconf_slots : ℕ → List (Bool × ℕ)
reconf_slots control = (has_bit control 0x10, 6) ∷ (has_bit control 0x20, 2) ∷ (has_bit control 0x40, 2) ∷ (has_bit control 0x80, 2) ∷ []

abbrev pub nstr_width : Bool → ℕ
nstr_width true = 2
nstr_width false = 1

abbrev pub profile_slots : ℕ → List (Bool × ℕ)
profile_slots control =
    (has_bit control 0x20, 6) ∷ (has_bit control 0x40, 2) ∷ (has_bit control 0x80, 8) ∷ (has_bit control 0x100, 2)
    ∷ (has_bit control 0x10 && has_bit control 0x200, nstr_width (has_bit control 0x400)) ∷ (has_bit control 0x800, 1) ∷ []

abbrev pub change_slots : ℕ → List (Bool × ℕ)
change_slots control = (has_bit control 0x20, 6) ∷ (has_bit control 0x40, 2) ∷ []

-- the fields of a value, in the order of the slots

abbrev pub basic_fields : Common → List (Option (List ℕ))
basic_fields c = Some c.mld ∷ number_field 1 c.link ∷ number_field 1 c.count ∷ number_field 2 c.sync ∷ number_field 2 c.eml ∷ number_field 2 c.caps ∷ number_field 1 c.apid ∷ number_field 2 c.ext ∷ []

abbrev pub reconf_fields : Reconf → List (Option (List ℕ))
reconf_fields r = r.mld ∷ number_field 2 r.eml ∷ number_field 2 r.caps ∷ number_field 2 r.ext ∷ []

abbrev pub profile_fields : Profile → List (Option (List ℕ))
profile_fields p = p.mac ∷ number_field 2 p.beacon ∷ number_field 8 p.tsf ∷ number_field 2 p.dtim ∷ number_field (nstr_width p.wide) p.nstr ∷ number_field 1 p.count ∷ []

abbrev pub change_fields : LinkChange → List (Option (List ℕ))
change_fields c = c.mac ∷ number_field 2 c.timer ∷ []

-- the control word of a value

abbrev pub basic_control : Basic → ℕ
basic_control b = b.spare + 0x10 * bit (is_some b.common.link) + 0x20 * bit (is_some b.common.count) + 0x40 * bit (is_some b.common.sync) + 0x80 * bit (is_some b.common.eml)
    + 0x100 * bit (is_some b.common.caps) + 0x200 * bit (is_some b.common.apid) + 0x400 * bit (is_some b.common.ext)

abbrev pub reconf_control : Reconf → ℕ
reconf_control r = 2 + r.spare + 0x10 * bit (is_some r.mld) + 0x20 * bit (is_some r.eml) + 0x40 * bit (is_some r.caps) + 0x80 * bit (is_some r.ext)

abbrev pub profile_control : Profile → ℕ
profile_control p = p.link + 0x10 * bit p.complete + 0x20 * bit (is_some p.mac) + 0x40 * bit (is_some p.beacon) + 0x80 * bit (is_some p.tsf) + 0x100 * bit (is_some p.dtim)
    + 0x200 * bit p.pair + 0x400 * bit p.wide + 0x800 * bit (is_some p.count) + 0x1000 * p.spare

abbrev pub change_control : LinkChange → ℕ
change_control c = c.link + 0x10 * bit c.complete + 0x20 * bit (is_some c.mac) + 0x40 * bit (is_some c.timer) + 0x80 * c.op + 0x800 * bit c.params + 0x1000 * c.spare

-- the bits 0xf808 of a word, and 0xff08

abbrev pub basic_spare : ℕ → ℕ
basic_spare word = 8 * (word / 8 % 2) + 0x800 * (word / 0x800)

abbrev pub reconf_spare : ℕ → ℕ
reconf_spare word = 8 * (word / 8 % 2) + 0x100 * (word / 0x100)

-- where a profile's body begins in the joined subelement, behind the control word and STA Info
abbrev pub body_place : Profile → ℕ
body_place p = 2 + length (info (profile_fields p) p.tail)
