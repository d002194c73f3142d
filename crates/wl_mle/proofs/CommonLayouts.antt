-- The layouts of Common Info: what is read is what was written, and what was written is read again.
use Rattle.std.proofs.Common.{◌≡◌, ◌≢◌, ℕ, ◌%◌, ◌<◌, true, List, [], ◌∷◌, ◌++◌, drop, get_or, Option, Some, None, refl, sym, ap, subst, ◌∙◌, arith}
use Rattle.std.specs.Prelude.{is_some, IfSome}
use Rattle.wl_elem.specs.declared.why.Why.{Why}
use Rattle.wl_elem.specs.declared.why.Why.TheVariants.{CommonShort, CommonLong}
use Rattle.wl_elem.specs.declared.fault.Refusal.{Refusal}
use Rattle.wl_elem.specs.Octets.{octets_of}
use Rattle.std.specs.List.{AllByRecursion}
use Rattle.wl_mle.specs.declared.basic.Basic.{Basic}
use Rattle.wl_mle.specs.declared.basic.BasicSub.{BasicSub}
use Rattle.wl_mle.specs.declared.reconf.Reconf.{Reconf}
use Rattle.wl_mle.specs.declared.reconf.ReconfSub.{ReconfSub}
use Rattle.wl_mle.specs.Fields.{info, info_text, need, info_fault, behind_info, IsShort, at_info, area_of}
use Rattle.wl_mle.specs.Layout.{basic_slots, reconf_slots, basic_fields, reconf_fields, basic_control, reconf_control}
use Rattle.wl_mle.specs.MultiLink.{IsBasicSub, IsReconfSub, IsBasic, IsReconf, own_link_fault, basic_fault, reconf_fault}
use Rattle.wl_mle.specs.Reading.{fields_at, after_fields, common_of, basic_of, reconf_of, common_at, reconf_at}
use Rattle.wl_mle.proofs.Infos.{IsFilled, Filled, AllIn, fields_filled, fields_in, field_filled, mac_filled, number_again, number_read, mac_some, mac_read, sound_read, sound_again}
use Rattle.wl_mle.proofs.Bits.{IsBasicWord, basic_bits, basic_made, IsReconfWord, reconf_bits, reconf_made}
use Rattle.wl_mle.proofs.Shared.{filled_at, read_again, free_again, free_read}
use Rattle.wl_elem.specs.Bits.{has_bit}
use Rattle.wl_elem.specs.Fields.{number_field, number_in}
use Rattle.wl_elem.proofs.Octets.{IsOctets}

two_pass : (info_test : Option Why) (own : Option Refusal) → info_test ≡ None → own ≡ None → at_info info_test own ≡ None
two_pass info_test own p q = rw (p, q) refl

both_pass : (info_test : Option Why) (own : Option Refusal) → at_info info_test own ≡ None → (info_test ≡ None) × (own ≡ None)
both_pass (Some why) own h = absurd (cc h)
both_pass None own h = (refl, h)

-- ---- Basic

pub basic_word_of : (b : Basic) → IsBasic b → IsBasicWord (basic_control b) b.spare (is_some b.common.link) (is_some b.common.count) (is_some b.common.sync) (is_some b.common.eml) (is_some b.common.caps) (is_some b.common.apid) (is_some b.common.ext)
basic_word_of b is = basic_bits b.spare (is_some b.common.link) (is_some b.common.count) (is_some b.common.sync) (is_some b.common.eml) (is_some b.common.caps) (is_some b.common.apid) (is_some b.common.ext) is.word is.spare

basic_filled : (b : Basic) → IsBasic b → Filled (basic_slots (basic_control b)) (basic_fields b.common)
basic_filled b is =
    let w = basic_word_of b is in
    let c = b.common in
    let s0 : IsFilled true 6 (Some c.mld) = (refl, is.mld) in
    let s1 = filled_at _ (is_some c.link) 1 (number_field 1 c.link) w.b4 (field_filled 1 c.link) in
    let s2 = filled_at _ (is_some c.count) 1 (number_field 1 c.count) w.b5 (field_filled 1 c.count) in
    let s3 = filled_at _ (is_some c.sync) 2 (number_field 2 c.sync) w.b6 (field_filled 2 c.sync) in
    let s4 = filled_at _ (is_some c.eml) 2 (number_field 2 c.eml) w.b7 (field_filled 2 c.eml) in
    let s5 = filled_at _ (is_some c.caps) 2 (number_field 2 c.caps) w.b8 (field_filled 2 c.caps) in
    let s6 = filled_at _ (is_some c.apid) 1 (number_field 1 c.apid) w.b9 (field_filled 1 c.apid) in
    let s7 = filled_at _ (is_some c.ext) 2 (number_field 2 c.ext) w.b10 (field_filled 2 c.ext) in
    (s0, (s1, (s2, (s3, (s4, (s5, (s6, (s7, tt))))))))

common_same : (b : Basic) → IsBasic b → common_of (basic_fields b.common) b.common.tail ≡ b.common
common_same b is =
    let c = b.common in
    rw (
      number_again 1 c.link is.link,
      number_again 1 c.count is.count,
      number_again 2 c.sync is.sync,
      number_again 2 c.eml is.eml,
      number_again 2 c.caps is.caps,
      number_again 1 c.apid is.apid,
      number_again 2 c.ext is.ext,
    )
    refl

-- what is written passes the tests, and is read again
pub basic_again : (b : Basic) → IsBasic b → (subs : List ℕ)
    → (basic_fault (basic_control b) (info (basic_fields b.common) b.common.tail ++ subs) ≡ None) × (common_at (basic_control b) (info (basic_fields b.common) b.common.tail ++ subs) ≡ b.common)
basic_again b is subs =
    let w = basic_word_of b is in
    let c = b.common in
    let filled = basic_filled b is in
    let rest = info (basic_fields c) c.tail ++ subs in
    let free : IfSome (number_in (number_field 1 c.link)) (λ n. n % 16 ≢ 15) = subst (λ (o : Option ℕ). IfSome o (λ n. n % 16 ≢ 15)) (sym (number_again 1 c.link is.link)) is.free in (
      two_pass (info_fault CommonShort CommonLong (need (basic_slots (basic_control b))) rest) (own_link_fault (has_bit (basic_control b) 0x10) (get_or rest 7 0))
          (sound_again CommonShort CommonLong (basic_slots (basic_control b)) (basic_fields c) c.tail subs filled)
          (free_again (has_bit (basic_control b) 0x10) c.mld (number_field 1 c.link) (drop 2 (basic_fields c)) c.tail subs is.mld filled.1.0 free),
      read_again (basic_slots (basic_control b)) (basic_fields c) c.tail subs (λ fields tail _. common_of fields tail) filled ∙ common_same b is,
    )

record IsBasicMade (word : ℕ) (fields : List (Option (List ℕ))) (b : Basic) : Type 0 where
  is : AllByRecursion IsBasicSub b.subs → IsBasic b
  control : basic_control b ≡ word
  all : basic_fields b.common ≡ fields

basic_from : (word : ℕ) (mld : List ℕ) (f1 f2 f3 f4 f5 f6 f7 : Option (List ℕ)) (tail : List ℕ) (subs : List BasicSub) → word < 65536 → word % 8 ≡ 0
    → Filled (basic_slots word) (Some mld ∷ f1 ∷ f2 ∷ f3 ∷ f4 ∷ f5 ∷ f6 ∷ f7 ∷ []) → AllIn (Some mld ∷ f1 ∷ f2 ∷ f3 ∷ f4 ∷ f5 ∷ f6 ∷ f7 ∷ []) → IsShort (Some mld ∷ f1 ∷ f2 ∷ f3 ∷ f4 ∷ f5 ∷ f6 ∷ f7 ∷ []) tail
    → IfSome (number_in f1) (λ n. n % 16 ≢ 15)
    → IsBasicMade word (Some mld ∷ f1 ∷ f2 ∷ f3 ∷ f4 ∷ f5 ∷ f6 ∷ f7 ∷ []) (basic_of word (common_of (Some mld ∷ f1 ∷ f2 ∷ f3 ∷ f4 ∷ f5 ∷ f6 ∷ f7 ∷ []) tail) subs)
basic_from word mld f1 f2 f3 f4 f5 f6 f7 tail subs lt kind filled octets fits free =
    let n1 = number_read _ 1 f1 filled.1.0 octets.1.0 in
    let n2 = number_read _ 1 f2 filled.1.1.0 octets.1.1.0 in
    let n3 = number_read _ 2 f3 filled.1.1.1.0 octets.1.1.1.0 in
    let n4 = number_read _ 2 f4 filled.1.1.1.1.0 octets.1.1.1.1.0 in
    let n5 = number_read _ 2 f5 filled.1.1.1.1.1.0 octets.1.1.1.1.1.0 in
    let n6 = number_read _ 1 f6 filled.1.1.1.1.1.1.0 octets.1.1.1.1.1.1.0 in
    let n7 = number_read _ 2 f7 filled.1.1.1.1.1.1.1.0 octets.1.1.1.1.1.1.1.0 in
    let fields = Some mld ∷ f1 ∷ f2 ∷ f3 ∷ f4 ∷ f5 ∷ f6 ∷ f7 ∷ [] in
    let all : basic_fields (common_of (Some mld ∷ f1 ∷ f2 ∷ f3 ∷ f4 ∷ f5 ∷ f6 ∷ f7 ∷ []) tail) ≡ Some mld ∷ f1 ∷ f2 ∷ f3 ∷ f4 ∷ f5 ∷ f6 ∷ f7 ∷ []
    = rw (n1.same, n2.same, n3.same, n4.same, n5.same, n6.same, n7.same) refl in
    record {
      is = λ each. record {
        word = omega (arith, lt);
        spare = omega arith;
        mld = filled.0.1;
        link = n1.fits;
        free = free;
        count = n2.fits;
        sync = n3.fits;
        eml = n4.fits;
        caps = n5.fits;
        apid = n6.fits;
        ext = n7.fits;
        short = subst (λ (fs : List (Option (List ℕ))). IsShort fs tail) (sym all) fits;
        subs = each;
      };
      control = rw (n1.some, n2.some, n3.some, n4.some, n5.some, n6.some, n7.some) (basic_made word kind);
      all = all;
    }

-- what passed the tests is what was written
pub basic_read : (word : ℕ) (rest : List ℕ) (subs : List BasicSub) → word < 65536 → word % 8 ≡ 0 → IsOctets rest → basic_fault word rest ≡ None → AllByRecursion IsBasicSub subs
    → IsBasic (basic_of word (common_at word rest) subs)
    × (info_text (basic_control (basic_of word (common_at word rest) subs)) (basic_fields (common_at word rest)) (common_at word rest).tail (behind_info rest) ≡ octets_of 2 word ++ rest)
basic_read word rest subs lt kind is none each =
    let tests = both_pass (info_fault CommonShort CommonLong (need (basic_slots word)) rest) (own_link_fault (has_bit word 0x10) (get_or rest 7 0)) none in
    let i = sound_read CommonShort CommonLong (basic_slots word) rest tests.0 in
    let area = area_of rest in
    let fields = fields_at (basic_slots word) area in
    let tail = after_fields (basic_slots word) area in
    let filled = fields_filled (basic_slots word) area i.enough in
    let own : own_link_fault (has_bit word 0x10) (get_or (info fields tail ++ behind_info rest) 7 0) ≡ None = subst (λ (x : List ℕ). own_link_fault (has_bit word 0x10) (get_or x 7 0) ≡ None) i.text tests.1 in
    let free = free_read (has_bit word 0x10) _ _ (drop 2 fields) tail (behind_info rest) filled.0.1 filled.1.0 own in
    let made : IsBasicMade word fields (basic_of word (common_of fields tail) subs) = basic_from word _ _ _ _ _ _ _ _ tail subs lt kind filled (fields_in (basic_slots word) area (i.octets is)) (i.short is) free in
    let text : info_text word fields tail (behind_info rest) ≡ octets_of 2 word ++ rest = ap (λ (x : List ℕ). octets_of 2 word ++ x) (sym i.text) in (
      made.is each,
      ap (λ (n : ℕ). info_text n (basic_fields (common_of fields tail)) tail (behind_info rest)) made.control ∙ ap (λ (fs : List (Option (List ℕ))). info_text word fs tail (behind_info rest)) made.all ∙ text,
    )

-- ---- Reconfiguration

pub reconf_word_of : (r : Reconf) → IsReconf r → IsReconfWord (reconf_control r) r.spare (is_some r.mld) (is_some r.eml) (is_some r.caps) (is_some r.ext)
reconf_word_of r is = reconf_bits r.spare (is_some r.mld) (is_some r.eml) (is_some r.caps) (is_some r.ext) is.word is.spare

reconf_filled : (r : Reconf) → IsReconf r → Filled (reconf_slots (reconf_control r)) (reconf_fields r)
reconf_filled r is =
    let w = reconf_word_of r is in
    let s0 = filled_at _ (is_some r.mld) 6 r.mld w.b4 (mac_filled r.mld is.mld) in
    let s1 = filled_at _ (is_some r.eml) 2 (number_field 2 r.eml) w.b5 (field_filled 2 r.eml) in
    let s2 = filled_at _ (is_some r.caps) 2 (number_field 2 r.caps) w.b6 (field_filled 2 r.caps) in
    let s3 = filled_at _ (is_some r.ext) 2 (number_field 2 r.ext) w.b7 (field_filled 2 r.ext) in
    (s0, (s1, (s2, (s3, tt))))

reconf_same : (r : Reconf) → IsReconf r → reconf_of (reconf_control r) (reconf_fields r) r.tail r.subs ≡ r
reconf_same r is =
    let w = reconf_word_of r is in
    rw (w.spared, number_again 2 r.eml is.eml, number_again 2 r.caps is.caps, number_again 2 r.ext is.ext) refl

-- what is written passes the tests, and is read again
pub reconf_again : (r : Reconf) → IsReconf r → (subs : List ℕ)
    → (reconf_fault (reconf_control r) (info (reconf_fields r) r.tail ++ subs) ≡ None) × (reconf_at (reconf_control r) (info (reconf_fields r) r.tail ++ subs) r.subs ≡ r)
reconf_again r is subs =
    let filled = reconf_filled r is in
    let rest = info (reconf_fields r) r.tail ++ subs in (
      two_pass (info_fault CommonShort CommonLong (need (reconf_slots (reconf_control r))) rest) None (sound_again CommonShort CommonLong (reconf_slots (reconf_control r)) (reconf_fields r) r.tail subs filled) refl,
      read_again (reconf_slots (reconf_control r)) (reconf_fields r) r.tail subs (λ fields tail _. reconf_of (reconf_control r) fields tail r.subs) filled ∙ reconf_same r is,
    )

record IsReconfMade (word : ℕ) (fields : List (Option (List ℕ))) (r : Reconf) : Type 0 where
  is : AllByRecursion IsReconfSub r.subs → IsReconf r
  control : reconf_control r ≡ word
  all : reconf_fields r ≡ fields

reconf_from : (word : ℕ) (f0 f1 f2 f3 : Option (List ℕ)) (tail : List ℕ) (subs : List ReconfSub) → word < 65536 → word % 8 ≡ 2 → Filled (reconf_slots word) (f0 ∷ f1 ∷ f2 ∷ f3 ∷ [])
    → AllIn (f0 ∷ f1 ∷ f2 ∷ f3 ∷ []) → IsShort (f0 ∷ f1 ∷ f2 ∷ f3 ∷ []) tail → IsReconfMade word (f0 ∷ f1 ∷ f2 ∷ f3 ∷ []) (reconf_of word (f0 ∷ f1 ∷ f2 ∷ f3 ∷ []) tail subs)
reconf_from word f0 f1 f2 f3 tail subs lt kind filled octets fits =
    let n1 = number_read _ 2 f1 filled.1.0 octets.1.0 in
    let n2 = number_read _ 2 f2 filled.1.1.0 octets.1.1.0 in
    let n3 = number_read _ 2 f3 filled.1.1.1.0 octets.1.1.1.0 in
    let all : reconf_fields (reconf_of word (f0 ∷ f1 ∷ f2 ∷ f3 ∷ []) tail subs) ≡ f0 ∷ f1 ∷ f2 ∷ f3 ∷ [] = rw (n1.same, n2.same, n3.same) refl in
    record {
      is = λ each. record {
        word = omega (arith, lt);
        spare = omega arith;
        mld = mac_read _ f0 filled.0;
        eml = n1.fits;
        caps = n2.fits;
        ext = n3.fits;
        short = subst (λ (fs : List (Option (List ℕ))). IsShort fs tail) (sym all) fits;
        subs = each;
      };
      control = rw (mac_some _ f0 filled.0, n1.some, n2.some, n3.some) (reconf_made word kind);
      all = all;
    }

-- what passed the tests is what was written
pub reconf_read : (word : ℕ) (rest : List ℕ) (subs : List ReconfSub) → word < 65536 → word % 8 ≡ 2 → IsOctets rest → reconf_fault word rest ≡ None → AllByRecursion IsReconfSub subs
    → IsReconf (reconf_at word rest subs)
    × (info_text (reconf_control (reconf_at word rest subs)) (reconf_fields (reconf_at word rest subs)) (reconf_at word rest subs).tail (behind_info rest) ≡ octets_of 2 word ++ rest)
reconf_read word rest subs lt kind is none each =
    let tests = both_pass (info_fault CommonShort CommonLong (need (reconf_slots word)) rest) None none in
    let i = sound_read CommonShort CommonLong (reconf_slots word) rest tests.0 in
    let area = area_of rest in
    let fields = fields_at (reconf_slots word) area in
    let tail = after_fields (reconf_slots word) area in
    let made : IsReconfMade word fields (reconf_of word fields tail subs)
    = reconf_from word _ _ _ _ tail subs lt kind (fields_filled (reconf_slots word) area i.enough) (fields_in (reconf_slots word) area (i.octets is)) (i.short is) in (
      made.is each,
      ap (λ (n : ℕ). info_text n (reconf_fields (reconf_of word fields tail subs)) tail (behind_info rest)) made.control
          ∙ ap (λ (fs : List (Option (List ℕ))). info_text word fs tail (behind_info rest)) made.all
          ∙ ap (λ (x : List ℕ). octets_of 2 word ++ x) (sym i.text),
    )
