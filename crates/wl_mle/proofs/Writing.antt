-- Writing: the loop over subelements, and the parts of a text put together.
use Rattle.std.proofs.Common.{◌≡◌, ℕ, suc, ◌<◌, ◌≤◌, ◌+◌, List, [], ◌∷◌, ◌++◌, length, Option, None, Some, take, get_or, refl, sym, ap, subst, ◌∙◌, append_assoc, arith, length-append}
use Rattle.std.specs.Prelude.{map}
use Rattle.std.proofs.Math.Seq.{take-suc}
use Rattle.std.proofs.lemmas.List.{append-nil}
use Rattle.wl_elem.specs.declared.kind.ListKind.TheVariants.{Subelements}
use Rattle.wl_elem.specs.declared.item.Item.{Item}
use Rattle.wl_elem.specs.Element.{body_limit}
use Rattle.wl_elem.specs.Octets.{octets_of}
use Rattle.wl_elem.specs.Items.{Items, AddsItem}
use Rattle.wl_mle.specs.declared.basic.Basic.{Basic}
use Rattle.wl_mle.specs.declared.reconf.Reconf.{Reconf}
use Rattle.wl_mle.specs.declared.multi_link.MultiLink.{MultiLink}
use Rattle.wl_mle.specs.declared.multi_link.MultiLink.TheVariants as elements
use Rattle.wl_mle.specs.Fields.{known, info, known_len}
use Rattle.wl_mle.specs.Layout.{basic_fields, reconf_fields, basic_control, reconf_control}
use Rattle.wl_mle.specs.MultiLink.{basic_sub, reconf_sub, IsBasic, IsReconf, IsOther, IsMultiLink, MlOf, IsWritable}
use Rattle.wl_mle.specs.Writing.{AddsSubs}

-- ---- lists

Subs-append : (xs ys : List Item) (a b : List ℕ) → Items Subelements xs a → Items Subelements ys b → Items Subelements (xs ++ ys) (a ++ b)
Subs-append [] ys a b p q = subst (λ (x : List ℕ). Items Subelements ys x) (ap (λ (x : List ℕ). x ++ b) (sym p)) q
Subs-append (x ∷ xs) ys a b (front, rest, split, s, more) q = (front, rest ++ b, ap (λ (t : List ℕ). t ++ b) split ∙ append_assoc front rest b, s, Subs-append xs ys rest b more q)

map-append : {A B : Type 0} (f : A → B) (xs ys : List A) → map f (xs ++ ys) ≡ map f xs ++ map f ys
map-append f [] ys = refl
map-append {A} {B} f (x ∷ xs) ys = ap (λ (t : List B). f x ∷ t) (map-append f xs ys)

-- one subelement more
pub subs_more : {V : Type 0} (to : V → Item) (list : List V) (i : ℕ) (v : V) (old new newer : List ℕ) → i < length list → v ≡ get_or list i v
    → AddsSubs (map to (take i list)) old new → AddsItem Subelements (to v) new newer → AddsSubs (map to (take (i + 1) list)) old newer
subs_more {V} to list i v old new newer lt is (octets, cut, so_far) (one, s, added) =
    let next : i + 1 ≡ suc i = omega arith in
    let more : map to (take (i + 1) list) ≡ map to (take i list) ++ to v ∷ []
    = ap (λ (n : ℕ). map to (take n list)) next ∙ ap (map to) (take-suc list i v lt) ∙ map-append to (take i list) (get_or list i v ∷ []) ∙ ap (λ (x : V). map to (take i list) ++ to x ∷ []) (sym is) in
    let last : Items Subelements (to v ∷ []) one = (one, [], sym (append-nil one), s, refl) in
    let all : Items Subelements (map to (take i list) ++ to v ∷ []) (octets ++ one) = Subs-append (map to (take i list)) (to v ∷ []) octets one cut last in
    (octets ++ one, subst (λ (x : List Item). Items Subelements x (octets ++ one)) (sym more) all, added ∙ ap (λ (x : List ℕ). x ++ one) so_far ∙ append_assoc old octets one)

-- ---- texts

pub known_length : (fields : List (Option (List ℕ))) → length (known fields) ≡ known_len fields
known_length [] = refl
known_length (None ∷ fields) = omega (arith, known_length fields)
known_length (Some octets ∷ fields) = omega (arith, length-append octets (known fields), known_length fields)

-- a control word and an Info field put one after the other
pub info_put : (old : List ℕ) (word control len : ℕ) (fields : List (Option (List ℕ))) (tail shown a b c d : List ℕ) → control ≡ word → shown ≡ tail → len ≡ suc (length (known fields) + length tail)
    → a ≡ old ++ octets_of 2 control → b ≡ a ++ len ∷ [] → c ≡ b ++ known fields → d ≡ c ++ shown → d ≡ old ++ (octets_of 2 word ++ info fields tail)
info_put old word control len fields tail shown a b c d same seen counted p q r s = rw (s, r, q, p, same, seen, counted) (simp append_assoc)

-- the head and the subelements are the body
pub basic_made : (b : Basic) (head body : List ℕ) → IsBasic b → head ≡ octets_of 2 (basic_control b) ++ info (basic_fields b.common) b.common.tail → AddsSubs (map basic_sub b.subs) head body → MlOf (elements.Basic b) body
basic_made b head body is text (subs, cut, added) =
    record { is_value = is; subs = subs; cut = cut; text = added ∙ ap (λ (x : List ℕ). x ++ subs) text ∙ append_assoc (octets_of 2 (basic_control b)) (info (basic_fields b.common) b.common.tail) subs }

pub reconf_made : (r : Reconf) (head body : List ℕ) → IsReconf r → head ≡ octets_of 2 (reconf_control r) ++ info (reconf_fields r) r.tail → AddsSubs (map reconf_sub r.subs) head body → MlOf (elements.Reconfiguration r) body
reconf_made r head body is text (subs, cut, added) =
    record { is_value = is; subs = subs; cut = cut; text = added ∙ ap (λ (x : List ℕ). x ++ subs) text ∙ append_assoc (octets_of 2 (reconf_control r)) (info (reconf_fields r) r.tail) subs }

pub other_made : (control : ℕ) (octets body : List ℕ) → IsOther control → body ≡ octets_of 2 control ++ octets → MlOf (elements.Other control octets) body
other_made control octets body is text = record { is_value = is; subs = []; cut = refl; text = text }

pub is_multi_link : (value : MultiLink) → IsWritable value → IsMultiLink value
is_multi_link value (body, fits, of) = of.is_value

-- a value has one body
abbrev pub OneBody : Type 0
OneBody = (value : MultiLink) (body other : List ℕ) → MlOf value body → MlOf value other → body ≡ other

-- no other body is longer than an element's may be
pub is_within : OneBody → (value : MultiLink) (body : List ℕ) → IsWritable value → MlOf value body → length body ≤ body_limit
is_within one value body (other, fits, of) is = omega (arith, fits, ap length (one value body other is of))
