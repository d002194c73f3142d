-- The loop that reads a list of elements.
use Rattle.std.proofs.Common.{◌≡◌, ℕ, ◌≤◌, ◌*◌, ◌-◌, List, [], ◌∷◌, ◌++◌, length, Result, Ok, Err, refl, sym, ap, subst, ◌∙◌, arith, length-append}
use Rattle.std.specs.List.{AllByRecursion}
use Rattle.std.proofs.lemmas.List.{length-map, map-append}
use Rattle.wl_elem.specs.declared.fault.Refusal.{Refusal}
use Rattle.wl_elem.specs.declared.fault.Fault.{Fault}
use Rattle.wl_elem.specs.declared.fault.Fault.TheVariants as faults
use Rattle.wl_elem.specs.declared.block.Stop.{Stop}
use Rattle.wl_elem.specs.declared.block.Stop.TheVariants as stops
use Rattle.wl_elem.specs.declared.kind.ListKind.TheVariants.{Elements}
use Rattle.wl_elem.specs.declared.item.Item.{Item}
use Rattle.wl_elem.specs.Answers.{Answers, AnswersOnly}
use Rattle.wl_elem.specs.Block.{IsTaken, IsStopped, IsStoppedAs, IsWithin}
use Rattle.wl_elem.specs.Element.{ElementValue, information}
use Rattle.wl_elem.specs.ElementList.{Elems, ReadAs}
use Rattle.wl_elem.proofs.Cutting.{item, Reads, begins, one_more, is_read, stops_all, left_within, is_within}
use Rattle.wl_elem.proofs.Lists.{IsShaped, item_of, items_of, elems_of, one_reading}

-- the elements read so far, and the rest of the input
pub record ReadsElements (list : List ElementValue) (input rest : List ℕ) : Type 0 where
  pub shaped : AllByRecursion IsShaped list
  pub reads : Reads Elements (items_of list) input rest

pub begins_elements : (input : List ℕ) → ReadsElements [] input input
begins_elements input = record { shaped = tt; reads = begins Elements input }

shaped_more : (list : List ElementValue) (e : ElementValue) → AllByRecursion IsShaped list → IsShaped e → AllByRecursion IsShaped (list ++ e ∷ [])
shaped_more [] e shaped shape = (shape, tt)
shaped_more (x ∷ list) e shaped shape = (shaped.0, shaped_more list e shaped.1 shape)

same_item : (id : ℕ) (info : List ℕ) (e : ElementValue) → e.id ≡ id → information e ≡ info → item id info ≡ item_of e
same_item id info e same_id same = ap (λ (i : ℕ). item i info) (sym same_id) ∙ ap (item e.id) (sym same)

pub one_element_more : (list : List ElementValue) (input rest : List ℕ) (id : ℕ) (info after : List ℕ) (e : ElementValue) → ReadsElements list input rest → IsTaken Elements id info after rest
    → IsShaped e → e.id ≡ id → information e ≡ info → ReadsElements (list ++ e ∷ []) input after
one_element_more list input rest id info after e so_far taken shape same_id same =
    let more = one_more Elements (items_of list) input rest id info after so_far.reads taken in
    let items : items_of list ++ item id info ∷ [] ≡ items_of (list ++ e ∷ [])
    = ap (λ (x : Item). items_of list ++ x ∷ []) (same_item id info e same_id same) ∙ sym (map-append item_of list (e ∷ [])) in
    record { shaped = shaped_more list e so_far.shaped shape; reads = subst (λ (x : List Item). Reads Elements x input after) items more }

-- nothing is left
pub is_list : (list : List ElementValue) (input rest : List ℕ) → ReadsElements list input rest → rest ≡ [] → Elems list input
is_list list input rest so_far nil = elems_of list input so_far.shaped (is_read Elements (items_of list) input rest so_far.reads nil)

pub is_counted : (list : List ElementValue) (input rest : List ℕ) → ReadsElements list input rest → 2 * length list ≤ length input
is_counted list input rest so_far = omega (arith, so_far.reads.counted, length-map list item_of, ap length so_far.reads.split, length-append so_far.reads.front rest)

pub stop_within : (list : List ElementValue) (input rest : List ℕ) (stop : Stop) → ReadsElements list input rest → IsStopped Elements rest stop → IsWithin (length input) stop
stop_within list input rest stop so_far stopped = is_within Elements input stop (stops_all Elements (items_of list) input rest stop so_far.reads stopped)

abbrev failed : Fault → Result (List ElementValue) Fault
failed fault = Err fault

refused_as : (input : List ℕ) (stop : Stop) (fault : Fault) → IsStopped Elements input stop → IsStoppedAs (length input) stop fault → Answers (failed fault) (ReadAs input)
refused_as input (stops.CutOff left why) fault stopped same =
    let within = left_within Elements input left why stopped in
    subst (λ (f : Fault). Answers (failed f) (ReadAs input)) (sym same) (record { place = length input - left; left = left; split = omega arith; cut_off = stopped; is_at = refl })
refused_as input stops.Memory fault stopped same = subst (λ (f : Fault). Answers (failed f) (ReadAs input)) (sym same) tt

pub is_refused : (list : List ElementValue) (input rest : List ℕ) (stop : Stop) (fault : Fault) → ReadsElements list input rest → IsStopped Elements rest stop → IsStoppedAs (length input) stop fault → Answers (failed fault) (ReadAs input)
is_refused list input rest stop fault so_far stopped same = refused_as input stop fault (stops_all Elements (items_of list) input rest stop so_far.reads stopped) same

-- what reads so is the only answer
pub only_reading : (answer : Result (List ElementValue) Fault) (input : List ℕ) → Answers answer (ReadAs input) → (reading : Result (List ElementValue) Refusal) → ReadAs input reading → AnswersOnly answer reading
only_reading (Ok list) input answered reading read = one_reading input reading (Ok list) read answered
only_reading (Err (faults.Refused refusal)) input answered reading read = one_reading input reading (Err refusal) read answered
only_reading (Err faults.Memory) input answered reading read = tt
