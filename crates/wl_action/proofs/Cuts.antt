-- The first of fields that isn't whole.
use Rattle.std.proofs.Common.{◌≡◌, ℕ, zero, suc, ◌*◌, ◌-◌, ◌%◌, ◌<◌, ◌≤◌, ◌∷◌, Some, None, refl, ap, ◌∙◌, arith, inl, inr}
use Rattle.std.proofs.lemmas.Bool.{cases_lt}
use Rattle.wl_elem.specs.Fields.{first_cut, total}
use Rattle.wl_elem.proofs.Numbers.{passes, stops_at, all_whole}
use Rattle.wl_action.specs.Action.{entry_widths}

pub total_entries : (count : ℕ) → total (entry_widths count) ≡ 3 * count
total_entries zero = refl
total_entries (suc count) = let more = total_entries count in omega (arith, more)

pub entries_whole : (count len : ℕ) → 3 * count ≤ len → first_cut (entry_widths count) len ≡ None
entries_whole count len le = all_whole (entry_widths count) len (omega (arith, total_entries count))

pub entries_short : (count len : ℕ) → len < 3 * count → first_cut (entry_widths count) len ≡ Some (len % 3 - 1)
entries_short zero len lt = absurd (omega arith)
entries_short (suc count) len lt =
    elim (cases_lt len 1) [
      | inl none ↦ let e : len ≡ len % 3 - 1 = omega arith in stops_at 1 (2 ∷ entry_widths count) len none ∙ ap (λ (n : ℕ). Some n) e
      | inr one ↦
          elim (cases_lt (len - 1) 2) [
            | inl short ↦ let e : len - 1 ≡ len % 3 - 1 = omega arith in passes 1 (2 ∷ entry_widths count) len one ∙ stops_at 2 (entry_widths count) (len - 1) short ∙ ap (λ (n : ℕ). Some n) e
            | inr more ↦
                let e : (len - 1 - 2) % 3 - 1 ≡ len % 3 - 1 = omega arith in
                passes 1 (2 ∷ entry_widths count) len one ∙ passes 2 (entry_widths count) (len - 1) more ∙ entries_short count (len - 1 - 2) (omega arith) ∙ ap (λ (n : ℕ). Some n) e
          ]
    ]
