-- A nonce tells its lane and its packet number.
use Rattle.std.proofs.Common.{◌≡◌, ℕ, ◌+◌, ◌*◌, ◌/◌, ◌%◌, ◌^◌, ◌<◌, cond, eqb, List, [], ◌∷◌, ◌++◌, length, drop, get_or, refl, sym, ap, ◌∙◌, arith}
use Rattle.std.proofs.Math.Seq.{drop-append_seam}
use Rattle.std.proofs.lemmas.Bool.{ne_eqb}
use Rattle.wl_elem.specs.declared.lane.Lane.{Lane}
use Rattle.wl_elem.specs.declared.lane.Lane.TheVariants as lanes
use Rattle.wl_frame.specs.declared.header.Kind.{Kind}
use Rattle.wl_frame.specs.declared.header.Kind.TheVariants.{Qos, Action, AssocAsk, AssocReply}
use Rattle.wl_frame.specs.Frame.{IsKind}
use Rattle.wl_frame.specs.Nonce.{highest_first, nonce_flags, nonce, lane_of}

-- the number that octets spell, the highest first, behind those of a number
abbrev spelled : ℕ → List ℕ → ℕ
spelled before [] = before
spelled before (octet ∷ octets) = spelled (256 * before + octet) octets

step : (n : ℕ) → 256 * (n / 256) + n % 256 ≡ n
step n = omega arith

number_again : (pn : ℕ) → pn < 2 ^ 48 → spelled 0 (highest_first 6 pn) ≡ pn
number_again pn small =
    let top : 256 * 0 + pn / 256 / 256 / 256 / 256 / 256 % 256 ≡ pn / 256 / 256 / 256 / 256 / 256 = omega arith in
    rw (top, step (pn / 256 / 256 / 256 / 256), step (pn / 256 / 256 / 256), step (pn / 256 / 256), step (pn / 256), step pn) refl

last_six : (flags : ℕ) (a2 tail : List ℕ) → length a2 ≡ 6 → drop 7 (flags ∷ (a2 ++ tail)) ≡ tail
last_six flags a2 tail six = ap (λ (n : ℕ). drop n (a2 ++ tail)) (sym six) ∙ drop-append_seam a2 tail

pub same_number : (kind other : Kind) (a2 : List ℕ) (pn number : ℕ) → length a2 ≡ 6 → pn < 2 ^ 48 → number < 2 ^ 48 → nonce kind a2 pn ≡ nonce other a2 number → pn ≡ number
same_number kind other a2 pn number six p q e =
    let tails : highest_first 6 pn ≡ highest_first 6 number = sym (last_six (nonce_flags kind) a2 (highest_first 6 pn) six) ∙ ap (drop 7) e ∙ last_six (nonce_flags other) a2 (highest_first 6 number) six in
    sym (number_again pn p) ∙ ap (spelled 0) tails ∙ number_again number q

same_flags : (kind other : Kind) (a2 : List ℕ) (pn number : ℕ) → nonce kind a2 pn ≡ nonce other a2 number → nonce_flags kind ≡ nonce_flags other
same_flags kind other a2 pn number e = ap (λ (octets : List ℕ). get_or octets 0 0) e

-- the lane that the flags octet tells of
abbrev lane_at : ℕ → Lane
lane_at n = cond (eqb n 0x10) lanes.Management (lanes.Tid n)

lane_is : (kind : Kind) → IsKind kind → lane_at (nonce_flags kind) ≡ lane_of kind
lane_is (Qos to_ap tid rest) is = rw (ne_eqb tid 0x10 (λ e. omega (arith, e, is.tid_fits))) refl
lane_is Action is = refl
lane_is AssocAsk is = refl
lane_is AssocReply is = refl

same_lane : (kind other : Kind) → IsKind kind → IsKind other → nonce_flags kind ≡ nonce_flags other → lane_of kind ≡ lane_of other
same_lane kind other is known e = sym (lane_is kind is) ∙ ap lane_at e ∙ lane_is other known

pub tells_lane : (kind other : Kind) (a2 : List ℕ) (pn number : ℕ) → IsKind kind → IsKind other → length a2 ≡ 6 → pn < 2 ^ 48 → number < 2 ^ 48 → nonce kind a2 pn ≡ nonce other a2 number → (lane_of kind ≡ lane_of other) × (pn ≡ number)
tells_lane kind other a2 pn number is known six p q e = (same_lane kind other is known (same_flags kind other a2 pn number e), same_number kind other a2 pn number six p q e)
