-- The groups of tests, in order, are the table.
use Rattle.std.proofs.Common.{◌≡◌, ℕ, ◌%◌, ◌≤◌, List, ◌∷◌, ◌++◌, length, get_or, Some, refl, sym, ◌∙◌}
use Rattle.std.specs.Prelude.{not, ◌==◌}
use Rattle.std.proofs.lemmas.Bool.{le-ltb}
use Rattle.wl_elem.specs.declared.fault.Refusal.{Refusal}
use Rattle.wl_elem.specs.declared.why.Why.TheVariants.{Fragmented}
use Rattle.wl_frame.specs.Refusals.{Test, test, is_data, has_ccmp, header_end, first_holding, refusal_of}
use Rattle.wl_frame.specs.Reading.{control_tests, qos_tests, ccmp_tests}
use Rattle.wl_frame.proofs.Table.{holds_before}

abbrev control : List ℕ → List Test
control octets = control_tests (get_or octets 0 0) (get_or octets 1 0)

abbrev qos : List ℕ → List Test
qos octets = qos_tests (is_data (get_or octets 0 0)) octets

abbrev ccmp : List ℕ → List Test
ccmp octets = ccmp_tests (has_ccmp (get_or octets 0 0)) octets (header_end (get_or octets 0 0))

abbrev sequence : List ℕ → Test
sequence octets = test (not (get_or octets 22 0 % 16 == 0)) 22 Fragmented

in_groups : (octets : List ℕ) → 24 ≤ length octets → refusal_of octets ≡ first_holding (control octets ++ sequence octets ∷ (qos octets ++ ccmp octets))
unfolding refusal_of
in_groups octets long = rw (le-ltb _ _ long) refl

pub control_refused : (octets : List ℕ) (refusal : Refusal) → 24 ≤ length octets → Some refusal ≡ first_holding (control octets) → refusal_of octets ≡ Some refusal
control_refused octets refusal long e = in_groups octets long ∙ holds_before (control octets) (sequence octets ∷ (qos octets ++ ccmp octets)) refusal (sym e)
