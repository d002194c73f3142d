-- What a decoder answers. A reading of an input is a value, or the refusal of the input; want of
-- memory says nothing of it.
use Rattle.std.specs.Prelude.{◌≡◌, ℕ, ◌+◌, Some, None, Result, Ok, Err}
use Rattle.wl_elem.specs.declared.why.Why.{Why}
use Rattle.wl_elem.specs.declared.fault.Refusal.{Refusal}
use Rattle.wl_elem.specs.declared.fault.Fault.{Fault}
use Rattle.wl_elem.specs.declared.fault.Fault.TheVariants.{Refused, Memory}

-- the refusal at this place of the input, with no index
abbrev pub refusal_at : ℕ → Why → Refusal
refusal_at place why = record { element = None; sub = None; inner = None; place = place; why = why }

-- the refusal with the index of an element, of a subelement, or of an element of a profile's list

abbrev pub in_element : ℕ → Refusal → Refusal
in_element index refusal = record refusal { element = Some index }

abbrev pub in_sub : ℕ → Refusal → Refusal
in_sub index refusal = record refusal { sub = Some index }

abbrev pub in_inner : ℕ → Refusal → Refusal
in_inner index refusal = record refusal { inner = Some index }

-- the refusal with its place counted from so many octets further in front
abbrev pub moved : ℕ → Refusal → Refusal
moved offset refusal = record refusal { place = offset + refusal.place }

-- what holds of a refusal; want of memory says nothing
abbrev pub IfRefused : Fault → (Refusal → Type 0) → Type 0
IfRefused (Refused refusal) P = P refusal
IfRefused Memory P = Unit {0}

-- the fault with its refusal changed so
abbrev pub with_refusal : (Refusal → Refusal) → Fault → Fault
with_refusal change (Refused refusal) = Refused (change refusal)
with_refusal change Memory = Memory

-- what was answered is such a reading
abbrev pub Answers : {V : Type 0} → Result V Fault → (Result V Refusal → Type 0) → Type 0
Answers (Ok value) IsReading = IsReading (Ok value)
Answers (Err (Refused refusal)) IsReading = IsReading (Err refusal)
Answers (Err Memory) IsReading = Unit {0}

-- nothing but this reading was answered
abbrev pub AnswersOnly : {V : Type 0} → Result V Fault → Result V Refusal → Type 0
AnswersOnly (Ok value) reading = reading ≡ Ok value
AnswersOnly (Err (Refused refusal)) reading = reading ≡ Err refusal
AnswersOnly (Err Memory) reading = Unit {0}
