-- The table of kinds, and when the fields of a kind are whole.
use Rattle.std.proofs.Common.{◌≡◌, ◌≢◌, ℕ, zero, suc, ◌+◌, ◌*◌, ◌≤◌, Bool, true, false, cond, eqb, leb, List, ◌++◌, length, get_or, Option, Some, None, refl, subst, arith}
use Rattle.std.proofs.lemmas.Bool.{cond_both, eqb-true, eqb-false, leb-true}
use Rattle.wl_elem.specs.declared.fault.Refusal.{Refusal}
use Rattle.wl_elem.proofs.Numbers.{all_whole, room_for}
use Rattle.wl_elem.specs.declared.why.Why.TheVariants.{EmlmrLeftOut}
use Rattle.wl_elem.specs.Answers.{refusal_at}
use Rattle.wl_elem.specs.Fields.{first_cut, total}
use Rattle.wl_action.specs.declared.code.Code.{Code}
use Rattle.wl_action.specs.declared.code.Code.TheVariants as kinds
use Rattle.wl_action.specs.Action.{protected_code, block_ack_code, code_of, widths, more_widths, is_emlmr, cut_fault, field_fault}
use Rattle.wl_action.proofs.Cuts.{total_entries}

-- ---- the two octets of a kind

abbrev pub IsCoded : Code → ℕ → ℕ → Type 0
IsCoded kinds.MapAsk category action = (category ≡ 37) × (action ≡ 0)
IsCoded kinds.MapReply category action = (category ≡ 37) × (action ≡ 1)
IsCoded kinds.MapTeardown category action = (category ≡ 37) × (action ≡ 2)
IsCoded kinds.Epcs category action = (category ≡ 37) × (3 ≤ action) × (action ≤ 5)
IsCoded kinds.Eml category action = (category ≡ 37) × (action ≡ 6)
IsCoded kinds.ReconfAsk category action = (category ≡ 37) × (action ≡ 11)
IsCoded kinds.ReconfReply category action = (category ≡ 37) × (action ≡ 12)
IsCoded kinds.AddBaAsk category action = (category ≡ 3) × (action ≡ 0)
IsCoded kinds.AddBaReply category action = (category ≡ 3) × (action ≡ 1)
IsCoded kinds.DelBa category action = (category ≡ 3) × (action ≡ 2)

abbrev MayBe : ℕ → ℕ → Option Code → Type 0
MayBe category action None = Unit {0}
MayBe category action (Some code) = IsCoded code category action

next : (m n : ℕ) (x y : Option Code) (P : Option Code → Type 0) → (m ≡ n → P x) → (m ≢ n → P y) → P (cond (eqb m n) x y)
next m n x y P same apart = cond_both (eqb m n) x y P (λ e. same (eqb-true m n e)) (λ e. apart (eqb-false m n e))

is_protected : (category action : ℕ) → category ≡ 37 → MayBe category action (protected_code action)
is_protected category action c =
    let P : Option Code → Type 0 = MayBe category action in
    next action 0 _ _ P (λ e. (c, e))
    (λ n0. next action 1 _ _ P (λ e. (c, e))
    (λ n1. next action 2 _ _ P (λ e. (c, e))
    (λ n2. cond_both (leb action 5) _ _ P (λ e. let most = leb-true action 5 e in (c, omega arith, most))
    (λ _. next action 6 _ _ P (λ e. (c, e))
    (λ _. next action 11 _ _ P (λ e. (c, e))
    (λ _. next action 12 _ _ P (λ e. (c, e)) (λ _. tt)))))))

is_block_ack : (category action : ℕ) → category ≡ 3 → MayBe category action (block_ack_code action)
is_block_ack category action c =
    let P : Option Code → Type 0 = MayBe category action in
    next action 0 _ _ P (λ e. (c, e)) (λ _. next action 1 _ _ P (λ e. (c, e)) (λ _. next action 2 _ _ P (λ e. (c, e)) (λ _. tt)))

pub is_coded : (category action : ℕ) (code : Code) → code_of category action ≡ Some code → IsCoded code category action
is_coded category action code e =
    let P : Option Code → Type 0 = MayBe category action in
    let all : P (code_of category action) = next category 37 _ _ P (is_protected category action) (λ _. next category 3 _ _ P (is_block_ack category action) (λ _. tt)) in
    subst P e all

pub epcs_coded : (action : ℕ) → 3 ≤ action → action ≤ 5 → protected_code action ≡ Some kinds.Epcs
epcs_coded zero low high = absurd (omega arith)
epcs_coded (suc zero) low high = absurd (omega arith)
epcs_coded (suc (suc zero)) low high = absurd (omega arith)
epcs_coded (suc (suc (suc zero))) low high = refl
epcs_coded (suc (suc (suc (suc zero)))) low high = refl
epcs_coded (suc (suc (suc (suc (suc zero))))) low high = refl
epcs_coded (suc (suc (suc (suc (suc (suc n)))))) low high = absurd (omega arith)

-- ---- whole fields

pub record IsWhole (code : Code) (rest : List ℕ) : Type 0 where
  pub fixed : total (widths code) ≤ length rest
  pub no_emlmr : is_emlmr code rest ≡ false
  pub all : total (widths code ++ more_widths code rest) ≤ length rest

pub whole_free : (code : Code) (rest : List ℕ) → IsWhole code rest → field_fault code rest ≡ None
whole_free code rest is =
    let first = all_whole (widths code) (length rest) is.fixed in
    let second = all_whole (widths code ++ more_widths code rest) (length rest) is.all in
    rw (first, is.no_emlmr, second) refl

not_cut : (len : ℕ) (cut : Option ℕ) (other : Option Refusal) → cut_fault len cut other ≡ None → (cut ≡ None) × (other ≡ None)
not_cut len (Some left) other e = absurd (cc)
not_cut len None other e = (refl, e)

not_emlmr : (b : Bool) (r : Refusal) (other : Option Refusal) → cond b (Some r) other ≡ None → (b ≡ false) × (other ≡ None)
not_emlmr true r other e = absurd (cc)
not_emlmr false r other e = (refl, e)

pub free_whole : (code : Code) (rest : List ℕ) → field_fault code rest ≡ None → IsWhole code rest
free_whole code rest free =
    let second = cut_fault (2 + length rest) (first_cut (widths code ++ more_widths code rest) (length rest)) None in
    let a = not_cut (2 + length rest) (first_cut (widths code) (length rest)) (cond (is_emlmr code rest) (Some (refusal_at 3 EmlmrLeftOut)) second) free in
    let b = not_emlmr (is_emlmr code rest) (refusal_at 3 EmlmrLeftOut) second a.1 in
    let c = not_cut (2 + length rest) (first_cut (widths code ++ more_widths code rest) (length rest)) None b.1 in
    record {
      fixed = room_for (widths code) (length rest) a.0;
      no_emlmr = b.0;
      all = room_for (widths code ++ more_widths code rest) (length rest) c.0;
    }

-- the links of a reply are whole
pub reply_whole : (rest : List ℕ) → field_fault kinds.ReconfReply rest ≡ None → 2 + 3 * get_or rest 1 0 ≤ length rest
reply_whole rest free = let is = free_whole kinds.ReconfReply rest free in omega (arith, is.all, total_entries (get_or rest 1 0))
