-- For private contracts alone: what is read at each field, for the contracts of the readers.
use Rattle.std.specs.Prelude.{◌≡◌, ℕ, zero, suc, ◌/◌, ◌%◌, ◌==◌, ◌⊎◌, nat_lt, if◌then◌else◌, Bool, true, false, List, [], ◌∷◌, length, drop, map, Option, Some, None, Result, Ok, Err}
use Rattle.wl_elem.specs.declared.why.Why.TheVariants.{ControlShort}
use Rattle.wl_elem.specs.declared.fault.Refusal.{Refusal}
use Rattle.wl_elem.specs.declared.fault.Fault.{Fault}
use Rattle.wl_elem.specs.declared.fault.Fault.TheVariants.{Refused, Memory}
use Rattle.wl_elem.specs.declared.kind.ListKind.TheVariants.{Subelements}
use Rattle.wl_elem.specs.declared.item.Item.{Item}
use Rattle.wl_elem.specs.Answers.{refusal_at}
use Rattle.wl_elem.specs.Bits.{has_bit}
use Rattle.wl_elem.specs.Fields.{octets_in, field_at, after_field, number_in}
use Rattle.wl_elem.specs.Items.{Items}
use Rattle.wl_mle.specs.declared.basic.Basic.{Basic}
use Rattle.wl_mle.specs.declared.basic.Common.{Common}
use Rattle.wl_mle.specs.declared.basic.BasicSub.{BasicSub}
use Rattle.wl_mle.specs.declared.basic.BasicSub.TheVariants as basics
use Rattle.wl_mle.specs.declared.profile.Profile.{Profile}
use Rattle.wl_mle.specs.declared.reconf.Reconf.{Reconf}
use Rattle.wl_mle.specs.declared.reconf.ReconfSub.{ReconfSub}
use Rattle.wl_mle.specs.declared.reconf.ReconfSub.TheVariants as reconfs
use Rattle.wl_mle.specs.declared.change.LinkChange.{LinkChange}
use Rattle.wl_mle.specs.declared.multi_link.MultiLink.{MultiLink}
use Rattle.wl_mle.specs.declared.multi_link.MultiLink.TheVariants as elements
use Rattle.wl_mle.specs.Fields.{area_of, behind_info, word_of}
use Rattle.wl_mle.specs.Layout.{basic_slots, reconf_slots, profile_slots, change_slots, basic_spare, reconf_spare}
use Rattle.wl_mle.specs.MultiLink.{subs_refusal, basic_fault, reconf_fault, CutRefused}

-- ---- fields

-- the fields of some slots, and what follows them
abbrev pub fields_at : List (Bool × ℕ) → List ℕ → List (Option (List ℕ))
fields_at [] octets = []
fields_at (slot ∷ slots) octets = field_at slot.0 slot.1 octets ∷ fields_at slots (after_field slot.0 slot.1 octets)

abbrev pub after_fields : List (Bool × ℕ) → List ℕ → List ℕ
after_fields [] octets = octets
after_fields (slot ∷ slots) octets = after_fields slots (after_field slot.0 slot.1 octets)

-- the field at an index
abbrev pub nth : ℕ → List (Option (List ℕ)) → Option (List ℕ)
nth i [] = None
nth zero (field ∷ fields) = field
nth (suc i) (field ∷ fields) = nth i fields

-- ---- values

abbrev pub common_of : List (Option (List ℕ)) → List ℕ → Common
common_of fields tail = record {
  mld = octets_in (nth 0 fields);
  link = number_in (nth 1 fields);
  count = number_in (nth 2 fields);
  sync = number_in (nth 3 fields);
  eml = number_in (nth 4 fields);
  caps = number_in (nth 5 fields);
  apid = number_in (nth 6 fields);
  ext = number_in (nth 7 fields);
  tail = tail;
}

abbrev pub basic_of : ℕ → Common → List BasicSub → Basic
basic_of control common subs = record { spare = basic_spare control; common = common; subs = subs }

abbrev pub reconf_of : ℕ → List (Option (List ℕ)) → List ℕ → List ReconfSub → Reconf
reconf_of control fields tail subs = record {
  spare = reconf_spare control;
  mld = nth 0 fields;
  eml = number_in (nth 1 fields);
  caps = number_in (nth 2 fields);
  ext = number_in (nth 3 fields);
  tail = tail;
  subs = subs;
}

abbrev pub profile_of : ℕ → List (Option (List ℕ)) → List ℕ → List ℕ → Profile
profile_of control fields tail body = record {
  link = control % 16;
  complete = has_bit control 0x10;
  pair = has_bit control 0x200;
  wide = has_bit control 0x400;
  spare = control / 0x1000;
  mac = nth 0 fields;
  beacon = number_in (nth 1 fields);
  tsf = number_in (nth 2 fields);
  dtim = number_in (nth 3 fields);
  nstr = number_in (nth 4 fields);
  count = number_in (nth 5 fields);
  tail = tail;
  body = body;
}

abbrev pub change_of : ℕ → List (Option (List ℕ)) → List ℕ → List ℕ → LinkChange
change_of control fields tail body = record {
  link = control % 16;
  complete = has_bit control 0x10;
  op = control / 0x80 % 16;
  params = has_bit control 0x800;
  spare = control / 0x1000;
  mac = nth 0 fields;
  timer = number_in (nth 1 fields);
  tail = tail;
  body = body;
}

-- the value whose Info field stands here, behind its control word
abbrev pub common_at : ℕ → List ℕ → Common
common_at control rest = common_of (fields_at (basic_slots control) (area_of rest)) (after_fields (basic_slots control) (area_of rest))

abbrev pub reconf_at : ℕ → List ℕ → List ReconfSub → Reconf
reconf_at control rest subs = reconf_of control (fields_at (reconf_slots control) (area_of rest)) (after_fields (reconf_slots control) (area_of rest)) subs

-- the profile behind a control word, of these slots and made so
abbrev pub made_behind : {V : Type 0} → (ℕ → List (Bool × ℕ)) → (ℕ → List (Option (List ℕ)) → List ℕ → List ℕ → V) → ℕ → List ℕ → V
made_behind slots made control rest = made control (fields_at (slots control) (area_of rest)) (after_fields (slots control) (area_of rest)) (behind_info rest)

abbrev pub profile_behind : ℕ → List ℕ → Profile
profile_behind control rest = made_behind profile_slots profile_of control rest

abbrev pub change_behind : ℕ → List ℕ → LinkChange
change_behind control rest = made_behind change_slots change_of control rest

-- ---- answers

-- the answer where this is refused, or else has this value
abbrev pub Reads : {V : Type 0} → Option Refusal → V → Result V Fault → Type 0
Reads found value (Ok v) = (found ≡ None) × (v ≡ value)
Reads found value (Err (Refused refusal)) = found ≡ Some refusal
Reads found value (Err Memory) = Unit {0}

-- ---- subelements

abbrev pub basic_sub_at : Item → BasicSub
basic_sub_at s = if s.id == 0 then basics.Profile (profile_behind (word_of s.octets) (drop 2 s.octets)) else basics.Other s.id s.octets

abbrev pub reconf_sub_at : Item → ReconfSub
reconf_sub_at s = if s.id == 0 then reconfs.Change (change_behind (word_of s.octets) (drop 2 s.octets)) else reconfs.Other s.id s.octets

-- ---- the element

-- the value, unless a profile is refused
abbrev pub unless_refused : Option Refusal → MultiLink → Result MultiLink Refusal
unless_refused (Some refusal) value = Err refusal
unless_refused None value = Ok value

-- what is read where these are the subelements
abbrev pub basic_with : ℕ → List ℕ → List Item → Result MultiLink Refusal
basic_with control rest list = unless_refused (subs_refusal profile_slots 0 list) (elements.Basic (basic_of control (common_at control rest) (map basic_sub_at list)))

abbrev pub reconf_with : ℕ → List ℕ → List Item → Result MultiLink Refusal
reconf_with control rest list = unless_refused (subs_refusal change_slots 0 list) (elements.Reconfiguration (reconf_at control rest (map reconf_sub_at list)))

-- what is read of the subelements behind Common Info: the first piece that is refused, or else what
-- is made of them
abbrev pub ReadsSubs : (List Item → Result MultiLink Refusal) → List ℕ → Result MultiLink Refusal → Type 0
ReadsSubs make rest reading = ((refusal : Refusal) × (reading ≡ Err refusal) × CutRefused rest refusal) ⊎ ((list : List Item) × Items Subelements list (behind_info rest) × (reading ≡ make list))

-- what is read, unless Common Info is refused
abbrev pub ReadsBehind : Option Refusal → (List Item → Result MultiLink Refusal) → List ℕ → Result MultiLink Refusal → Type 0
ReadsBehind (Some refusal) make rest reading = reading ≡ Err refusal
ReadsBehind None make rest reading = ReadsSubs make rest reading

abbrev pub ReadsType : Bool → Bool → ℕ → List ℕ → Result MultiLink Refusal → Type 0
ReadsType true reconf control rest reading = ReadsBehind (basic_fault control rest) (basic_with control rest) rest reading
ReadsType false true control rest reading = ReadsBehind (reconf_fault control rest) (reconf_with control rest) rest reading
ReadsType false false control rest reading = reading ≡ Ok (elements.Other control rest)

abbrev pub ReadsWord : ℕ → List ℕ → Result MultiLink Refusal → Type 0
ReadsWord control rest reading = ReadsType (control % 8 == 0) (control % 8 == 2) control rest reading

abbrev pub ReadsLong : Bool → List ℕ → Result MultiLink Refusal → Type 0
ReadsLong true body reading = reading ≡ Err (refusal_at 0 ControlShort)
ReadsLong false body reading = ReadsWord (word_of body) (drop 2 body) reading

abbrev pub ReadsBody : List ℕ → Result MultiLink Refusal → Type 0
ReadsBody body reading = ReadsLong (nat_lt (length body) 2) body reading
