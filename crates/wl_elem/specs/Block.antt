-- For private contracts alone, but for `IsStopped`, `CutAs` and `CutOnly`: one item of a list, its pieces joined.
use Rattle.std.specs.Global.{Vec}
use Rattle.std.specs.Prelude.{◌≡◌, ◌≢◌, ℕ, ◌<◌, ◌≤◌, ◌-◌, ◌==◌, Bool, true, false, List, [], ◌∷◌, ◌++◌, length, Result, Ok, Err}
use Rattle.wl_elem.specs.declared.item.Item.{Item}
use Rattle.wl_elem.specs.Items.{Items}
use Rattle.wl_elem.specs.declared.why.Why.{Why}
use Rattle.wl_elem.specs.declared.kind.ListKind.{ListKind}
use Rattle.wl_elem.specs.declared.block.Stop.{Stop}
use Rattle.wl_elem.specs.declared.block.Stop.TheVariants.{CutOff, Memory}
use Rattle.wl_elem.specs.declared.fault.Fault.{Fault}
use Rattle.wl_elem.specs.declared.fault.Fault.TheVariants.{Refused, Memory as NoMemory}
use Rattle.wl_elem.specs.Answers.{refusal_at}
use Rattle.wl_elem.specs.Cutting.{fragment_id, IsWritten}
use Rattle.wl_elem.specs.Row.{is_extended, IsCutOff}

-- whether the octets begin with a header of a Fragment
abbrev pub begins_with_fragment : ListKind → List ℕ → Bool
begins_with_fragment kind [] = false
begins_with_fragment kind (id ∷ []) = false
begins_with_fragment kind (id ∷ len ∷ rest) = id == fragment_id kind

-- The input is the pieces of an item and a rest. What is refused in the rest is refused in the whole.
pub record IsTaken (kind : ListKind) (id : ℕ) (information rest input : List ℕ) : Type 0 where
  pub front : List ℕ
  pub split : input ≡ front ++ rest
  pub written : IsWritten kind id information front
  pub fresh : id ≢ fragment_id kind
  pub extended : is_extended kind id ≡ true → 0 < length information
  pub goes_on : (left : ℕ) (why : Why) → IsCutOff kind false rest left why → IsCutOff kind false input left why

-- why no item was read
abbrev pub IsStopped : ListKind → List ℕ → Stop → Type 0
IsStopped kind input (CutOff left why) = IsCutOff kind false input left why
IsStopped kind input Memory = Unit {0}

-- no more octets are left than there were
abbrev pub IsWithin : ℕ → Stop → Type 0
IsWithin len (CutOff left why) = left ≤ len
IsWithin len Memory = Unit {0}

-- the fault of an input of this length whose reading stopped so
abbrev pub IsStoppedAs : ℕ → Stop → Fault → Type 0
IsStoppedAs len (CutOff left why) fault = fault ≡ Refused (refusal_at (len - left) why)
IsStoppedAs len Memory fault = fault ≡ NoMemory

-- octets cut into items, or cut off at a piece
abbrev pub CutAs : ListKind → List ℕ → Result (List Item) Stop → Type 0
CutAs kind octets (Ok list) = Items kind list octets
CutAs kind octets (Err (CutOff left why)) = IsCutOff kind false octets left why
CutAs kind octets (Err Memory) = ⊥

-- nothing but this was answered; want of memory says nothing of the octets
abbrev pub CutOnly : Result (Vec Item) Stop → Result (List Item) Stop → Type 0
CutOnly (Ok list) cutting = cutting ≡ Ok list.items
CutOnly (Err (CutOff left why)) cutting = cutting ≡ Err (CutOff left why)
CutOnly (Err Memory) cutting = Unit {0}
