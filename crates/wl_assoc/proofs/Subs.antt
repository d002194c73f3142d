-- The subelements of a body: how many and how long they are, and that they are octets.
use Rattle.std.proofs.Common.{◌≡◌, ℕ, ◌+◌, ◌*◌, ◌%◌, ◌<◌, ◌≤◌, leb, Bool, true, false, List, [], ◌∷◌, ◌++◌, length, refl, ap, subst, arith, length-append}
use Rattle.std.specs.Prelude.{map}
use Rattle.std.proofs.lemmas.List.{length-map}
use Rattle.std.specs.List.{AllByRecursion}
use Rattle.std.proofs.lemmas.Bool.{leb-false}
use Rattle.wl_elem.specs.declared.kind.ListKind.{ListKind}
use Rattle.wl_elem.specs.declared.kind.ListKind.TheVariants.{Subelements}
use Rattle.wl_elem.specs.declared.item.Item.{Item}
use Rattle.wl_elem.specs.Items.{Items, IsOfOctets, written_len, items_len}
use Rattle.wl_elem.specs.Element.{ElementValue, body_limit}
use Rattle.wl_elem.specs.ElementList.{Elems}
use Rattle.wl_elem.specs.Octets.{octets_of}
use Rattle.wl_elem.proofs.Octets.{IsOctets, IsOctets-back}
use Rattle.wl_mle.specs.declared.basic.Basic.{Basic}
use Rattle.wl_mle.specs.declared.basic.BasicSub.{BasicSub}
use Rattle.wl_mle.specs.declared.basic.BasicSub.TheVariants as basics
use Rattle.wl_mle.specs.declared.multi_link.MultiLink.{MultiLink}
use Rattle.wl_mle.specs.declared.multi_link.MultiLink.TheVariants as elements
use Rattle.wl_mle.specs.Fields.{info, word_of}
use Rattle.wl_mle.specs.Layout.{basic_fields, basic_control, profile_fields, profile_control}
use Rattle.wl_mle.specs.MultiLink.{basic_sub, IsBasicSub, MlOf}
use Rattle.wl_assoc.specs.Reading.{IsReadSub}

-- what the laws of cutting say

abbrev pub ItemsHaveLength : Type 0
ItemsHaveLength = (kind : ListKind) (list : List Item) (octets : List ℕ) → Items kind list octets → length octets ≡ items_len list

abbrev pub ItemsAreOctets : Type 0
ItemsAreOctets = (kind : ListKind) (list : List Item) (octets : List ℕ) → IsOctets octets → Items kind list octets → AllByRecursion IsOfOctets list

abbrev pub AreOctets : List ElementValue → Type 0
AreOctets list = AllByRecursion (λ e. AllByRecursion (λ octet. octet < 256) e.body) list

abbrev pub BodiesAreOctets : Type 0
BodiesAreOctets = (list : List ElementValue) (octets : List ℕ) → IsOctets octets → Elems list octets → AreOctets list

-- ---- lengths

-- a piece has its ID and its Length besides
longer : (n : ℕ) → n + 2 ≤ written_len n
longer n = by (leb n 255) refl
  where
    by : (b : Bool) → leb n 255 ≡ b → n + 2 ≤ written_len n
    by true e = rw e (omega arith)
    by false e = rw e (let above = leb-false n 255 e in omega arith)

counted : (list : List Item) → 2 * length list ≤ items_len list
counted [] = omega arith
counted (s ∷ list) = omega (arith, longer (length s.octets), counted list)

read_sub : (sub : BasicSub) → IsBasicSub sub → length (basic_sub sub).octets ≤ body_limit → IsReadSub sub
read_sub (basics.Profile p) is le = record { is_profile = is; bound = le }
read_sub (basics.Other id body) is le = tt

subs_read : (subs : List BasicSub) → AllByRecursion IsBasicSub subs → items_len (map basic_sub subs) ≤ body_limit → AllByRecursion IsReadSub subs
subs_read [] each le = tt
subs_read (sub ∷ subs) each le =
    let more = longer (length (basic_sub sub).octets) in
    (read_sub sub each.0 (omega (arith, le, more)), subs_read subs each.1 (omega (arith, le, more)))

-- the subelements are shorter than the body
subs_within : ItemsHaveLength → (b : Basic) (body : List ℕ) → MlOf (elements.Basic b) body → items_len (map basic_sub b.subs) ≤ length body
subs_within lengths b body of = omega (arith, ap length of.text, length-append (info (basic_fields b.common) b.common.tail) of.subs, lengths Subelements (map basic_sub b.subs) of.subs of.cut)

pub basic_counted : ItemsHaveLength → (b : Basic) (body : List ℕ) → MlOf (elements.Basic b) body → length body ≤ body_limit → length b.subs < 4294967296
basic_counted lengths b body of le = omega (arith, le, subs_within lengths b body of, counted (map basic_sub b.subs), length-map b.subs basic_sub)

pub basic_read : ItemsHaveLength → (b : Basic) (body : List ℕ) → MlOf (elements.Basic b) body → length body ≤ body_limit → AllByRecursion IsReadSub b.subs
basic_read lengths b body of le = subs_read b.subs of.is_value.subs (omega (arith, le, subs_within lengths b body of))

-- ---- octets

abbrev pub HasOctets : BasicSub → Type 0
HasOctets (basics.Profile p) = IsOctets p.body
HasOctets (basics.Other id body) = Unit {0}

has_octets : (sub : BasicSub) → IsOctets (basic_sub sub).octets → HasOctets sub
has_octets (basics.Profile p) is = IsOctets-back (info (profile_fields p) p.tail) p.body (IsOctets-back (octets_of 2 (profile_control p)) (info (profile_fields p) p.tail ++ p.body) is)
has_octets (basics.Other id body) is = tt

each_octets : (subs : List BasicSub) → AllByRecursion IsOfOctets (map basic_sub subs) → AllByRecursion HasOctets subs
each_octets [] is = tt
each_octets (sub ∷ subs) is = (has_octets sub is.0.1, each_octets subs is.1)

pub subs_octets : ItemsAreOctets → (b : Basic) (body : List ℕ) → MlOf (elements.Basic b) body → IsOctets body → AllByRecursion HasOctets b.subs
subs_octets items b body of is =
    let text = subst (λ (x : List ℕ). IsOctets x) of.text is in
    let behind = IsOctets-back (octets_of 2 (basic_control b)) (info (basic_fields b.common) b.common.tail ++ of.subs) text in
    each_octets b.subs (items Subelements (map basic_sub b.subs) of.subs (IsOctets-back (info (basic_fields b.common) b.common.tail) of.subs behind) of.cut)

-- ---- the type

abbrev pub IsABasic : MultiLink → Type 0
IsABasic value = (b : Basic) × (value ≡ elements.Basic b)

-- a body whose control word has type 0 is that of a Basic element
pub type_basic : (value : MultiLink) (body : List ℕ) → MlOf value body → word_of body % 8 ≡ 0 → IsABasic value
type_basic (elements.Basic b) body of zeroed = (b, refl)
type_basic (elements.Reconfiguration r) body of zeroed =
    let spare = of.is_value.spare in
    absurd (omega (arith, ap word_of of.text, zeroed, spare))
type_basic (elements.Other control other) body of zeroed = absurd (of.is_value.not_basic (omega (arith, ap word_of of.text, zeroed, of.is_value.word)))
