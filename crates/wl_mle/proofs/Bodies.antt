-- What is read of a body, behind its control word.
use Rattle.std.proofs.Common.{◌≡◌, ℕ, ◌+◌, ◌-◌, ◌≤◌, false, eqb, get_or, List, [], ◌∷◌, length, Option, None, Result, Err, refl, sym, ap, subst, arith, length-append, length-drop, inl, inr}
use Rattle.std.specs.Prelude.{◌&&◌, ◌%◌}
use Rattle.wl_elem.specs.declared.why.Why.{Why}
use Rattle.wl_elem.specs.declared.why.Why.TheVariants.{CommonShort, CommonLong}
use Rattle.wl_elem.specs.declared.fault.Refusal.{Refusal}
use Rattle.wl_elem.specs.declared.fault.Fault.{Fault}
use Rattle.wl_elem.specs.declared.kind.ListKind.TheVariants.{Subelements}
use Rattle.wl_elem.specs.declared.block.Stop.{Stop}
use Rattle.wl_elem.specs.declared.block.Stop.TheVariants as stops
use Rattle.wl_elem.specs.declared.item.Item.{Item}
use Rattle.wl_elem.specs.Answers.{refusal_at, Answers}
use Rattle.wl_elem.specs.Row.{row_text, IsCutOff}
use Rattle.wl_elem.specs.Block.{IsStopped, IsStoppedAs}
use Rattle.wl_elem.specs.Items.{Items}
use Rattle.wl_mle.specs.declared.multi_link.MultiLink.{MultiLink}
use Rattle.wl_mle.specs.Fields.{need, info_fault, behind_info}
use Rattle.wl_mle.specs.Layout.{basic_slots}
use Rattle.wl_mle.specs.MultiLink.{basic_fault, CutRefused}
use Rattle.wl_mle.specs.Reading.{ReadsSubs, ReadsBehind}
use Rattle.wl_elem.specs.Bits.{has_bit}

abbrev failed : Fault → Result MultiLink Fault
failed fault = Err fault

pub behind_within : (rest : List ℕ) → length (behind_info rest) ≤ length rest
behind_within [] = omega arith
behind_within (len ∷ rest) = omega (arith, length-drop (len - 1) rest)

-- no more is left than there was
pub left_within : (octets : List ℕ) (left : ℕ) (why : Why) → IsCutOff Subelements false octets left why → left ≤ length octets
left_within octets left why h = omega (arith, h.counted, ap length h.split, length-append (row_text h.row) h.rest)

-- the subelements are refused
pub stopped_at : (found : Option Refusal) (make : List Item → Result MultiLink Refusal) (rest : List ℕ) (stop : Stop) (fault : Fault) → found ≡ None
    → IsStopped Subelements (behind_info rest) stop → IsStoppedAs (length rest + 2) stop fault → Answers (failed fault) (ReadsBehind found make rest)
stopped_at found make rest (stops.CutOff left why) fault none stopped same =
    let within = left_within (behind_info rest) left why stopped in
    let refusal = refusal_at (length rest + 2 - left) why in
    let refused : CutRefused rest refusal = record { place = length rest + 2 - left; left = left; split = omega (arith, within, behind_within rest); cut_off = stopped; is_at = refl } in
    let here : ReadsSubs make rest (Err refusal) = inl (refusal, refl, refused) in
    subst (λ (f : Fault). Answers (failed f) (ReadsBehind found make rest)) (sym same) (subst (λ (o : Option Refusal). ReadsBehind o make rest (Err refusal)) (sym none) here)
stopped_at found make rest stops.Memory fault none stopped same = subst (λ (f : Fault). Answers (failed f) (ReadsBehind found make rest)) (sym same) tt

-- they are read
pub made_of : (found : Option Refusal) (make : List Item → Result MultiLink Refusal) (rest : List ℕ) (list : List Item) (reading : Result MultiLink Refusal) → found ≡ None
    → Items Subelements list (behind_info rest) → reading ≡ make list → ReadsBehind found make rest reading
made_of found make rest list reading none cut same = subst (λ (o : Option Refusal). ReadsBehind o make rest reading) (sym none) (inr (list, cut, same))

-- Common Info passes its tests
pub basic_sound : (control : ℕ) (rest : List ℕ) → info_fault CommonShort CommonLong (need (basic_slots control)) rest ≡ None → (has_bit control 0x10 && eqb (get_or rest 7 0 % 16) 15) ≡ false → basic_fault control rest ≡ None
basic_sound control rest h k = rw (h, k) refl
