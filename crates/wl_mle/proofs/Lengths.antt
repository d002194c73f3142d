-- How long values are as written, and that each has a body.
use Rattle.std.proofs.Common.{◌≡◌, ℕ, zero, suc, ◌<◌, ◌≤◌, ◌+◌, ◌*◌, ◌/◌, List, [], ◌∷◌, ◌++◌, length, take, get_or, Option, refl, sym, ap, ◌∙◌, arith, length-append}
use Rattle.std.specs.Prelude.{map}
use Rattle.std.specs.List.{AllByRecursion}
use Rattle.std.proofs.lemmas.Bool.{le-leb, lt-leb}
use Rattle.std.proofs.Math.Seq.{take-suc}
use Rattle.wl_elem.specs.declared.kind.ListKind.TheVariants.{Subelements}
use Rattle.wl_elem.specs.declared.item.Item.{Item}
use Rattle.wl_elem.specs.Element.{body_limit}
use Rattle.wl_elem.specs.Octets.{octets_of}
use Rattle.wl_elem.specs.Items.{IsItem, Items, written_len, items_len}
use Rattle.wl_mle.specs.declared.basic.BasicSub.{BasicSub}
use Rattle.wl_mle.specs.declared.basic.BasicSub.TheVariants as basics
use Rattle.wl_mle.specs.declared.reconf.ReconfSub.{ReconfSub}
use Rattle.wl_mle.specs.declared.reconf.ReconfSub.TheVariants as reconfs
use Rattle.wl_mle.specs.declared.profile.Profile.{Profile}
use Rattle.wl_mle.specs.declared.change.LinkChange.{LinkChange}
use Rattle.wl_mle.specs.declared.multi_link.MultiLink.{MultiLink}
use Rattle.wl_mle.specs.declared.multi_link.MultiLink.TheVariants as elements
use Rattle.wl_mle.specs.Fields.{known, info, info_text, known_len}
use Rattle.wl_mle.specs.Layout.{basic_fields, reconf_fields, profile_fields, change_fields, basic_control, reconf_control, profile_control, change_control}
use Rattle.wl_mle.specs.MultiLink.{basic_sub, IsBasicSub, reconf_sub, IsReconfSub, IsMultiLink, subs_of, spelling, profile_text, change_text, IsWritable}
use Rattle.wl_mle.specs.Writing.{value_len}
use Rattle.wl_mle.proofs.Subelements.{SpellsAll, SpellsSoLong}
use Rattle.wl_mle.proofs.Writing.{known_length}
use Rattle.wl_elem.proofs.Numbers.{length-octets_of}

-- ---- pieces

pub written_short : (len : ℕ) → len ≤ 255 → written_len len ≡ len + 2
written_short len le = rw (le-leb len 255 le) refl

pub written_long : (len : ℕ) → 255 < len → written_len len ≡ len + 2 * ((len + 254) / 255)
written_long len lt = rw (lt-leb len 255 lt) refl

-- ---- each value has a text

basic_fresh : (list : List BasicSub) → AllByRecursion IsBasicSub list → AllByRecursion (IsItem Subelements) (map basic_sub list)
basic_fresh [] each = tt
basic_fresh (basics.Profile p ∷ list) each = (record { fresh = λ e. omega (arith, e); extended = λ e. absurd (cc e) }, basic_fresh list each.1)
basic_fresh (basics.Other id body ∷ list) each = (record { fresh = each.0.1; extended = λ e. absurd (cc e) }, basic_fresh list each.1)

reconf_fresh : (list : List ReconfSub) → AllByRecursion IsReconfSub list → AllByRecursion (IsItem Subelements) (map reconf_sub list)
reconf_fresh [] each = tt
reconf_fresh (reconfs.Change c ∷ list) each = (record { fresh = λ e. omega (arith, e); extended = λ e. absurd (cc e) }, reconf_fresh list each.1)
reconf_fresh (reconfs.Other id body ∷ list) each = (record { fresh = each.0.1; extended = λ e. absurd (cc e) }, reconf_fresh list each.1)

-- ---- values

info_length : (control : ℕ) (fields : List (Option (List ℕ))) (tail rest : List ℕ) → length (info_text control fields tail rest) ≡ 3 + known_len fields + length tail + length rest
info_length control fields tail rest =
    omega (arith, length-append (octets_of 2 control) (info fields tail ++ rest), length-octets_of 2 control, length-append (info fields tail) rest, length-append (known fields) tail, known_length fields)

pub profile_length : (p : Profile) → length (profile_text p) ≡ 3 + known_len (profile_fields p) + length p.tail + length p.body
profile_length p = info_length (profile_control p) (profile_fields p) p.tail p.body

pub change_length : (c : LinkChange) → length (change_text c) ≡ 3 + known_len (change_fields c) + length c.tail + length c.body
change_length c = info_length (change_control c) (change_fields c) c.tail c.body

spelling_length : SpellsSoLong → (value : MultiLink) (subs : List ℕ) → Items Subelements (subs_of value) subs → length (spelling value subs) ≡ value_len value
spelling_length law (elements.Basic b) subs cut = omega (arith, info_length (basic_control b) (basic_fields b.common) b.common.tail subs, law Subelements (map basic_sub b.subs) subs cut)
spelling_length law (elements.Reconfiguration r) subs cut = omega (arith, info_length (reconf_control r) (reconf_fields r) r.tail subs, law Subelements (map reconf_sub r.subs) subs cut)
spelling_length law (elements.Other control body) subs cut = omega (arith, length-append (octets_of 2 control) body, length-octets_of 2 control)

value_exists : SpellsAll → (value : MultiLink) → IsMultiLink value → (subs : List ℕ) × Items Subelements (subs_of value) subs
value_exists law (elements.Basic b) is = law Subelements (map basic_sub b.subs) (basic_fresh b.subs is.subs)
value_exists law (elements.Reconfiguration r) is = law Subelements (map reconf_sub r.subs) (reconf_fresh r.subs is.subs)
value_exists law (elements.Other control body) is = ([], refl)

-- a value that isn't too long is written
pub is_writable : SpellsAll → SpellsSoLong → (value : MultiLink) → IsMultiLink value → value_len value ≤ body_limit → IsWritable value
is_writable all long value is fits =
    let subs = value_exists all value is in
    (spelling value subs.0, omega (arith, fits, spelling_length long value subs.0 subs.1), record { is_value = is; subs = subs.0; cut = subs.1; text = refl })

pub is_not_too_long : SpellsSoLong → (value : MultiLink) → IsWritable value → value_len value ≤ body_limit
is_not_too_long long value (body, fits, of) = omega (arith, fits, ap length of.text, spelling_length long value of.subs of.cut)

-- ---- the loops

len_append : {V : Type 0} (to : V → Item) (list : List V) (v : V) → items_len (map to (list ++ v ∷ [])) ≡ items_len (map to list) + written_len (length (to v).octets)
len_append to [] v = omega arith
len_append to (x ∷ list) v = omega (arith, len_append to list v)

-- one subelement more
pub len_more : {V : Type 0} (to : V → Item) (list : List V) (i : ℕ) (v : V) → i < length list → v ≡ get_or list i v
    → items_len (map to (take (i + 1) list)) ≡ items_len (map to (take i list)) + written_len (length (to v).octets)
len_more {V} to list i v lt is =
    let next : i + 1 ≡ suc i = omega arith in
    ap (λ (n : ℕ). items_len (map to (take n list))) next ∙ ap (λ (x : List V). items_len (map to x)) (take-suc list i v lt ∙ ap (λ (x : V). take i list ++ x ∷ []) (sym is)) ∙ len_append to (take i list) v

-- a front is no longer than the whole
pub len_front : {V : Type 0} (to : V → Item) (list : List V) (i : ℕ) → items_len (map to (take i list)) ≤ items_len (map to list)
len_front to list zero = omega arith
len_front to [] (suc i) = omega arith
len_front to (x ∷ list) (suc i) = omega (arith, len_front to list i)
