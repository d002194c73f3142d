-- Reading a source to its end.
use Rattle.std.specs.Prelude.{◌≡◌, ℕ, ◌+◌, ◌<◌, List, [], length, drop, Option, Some, None}
use Rattle.wl_io.specs.Faults.{Rose}
use Rattle.wl_io.specs.Seen.{Seen, IsUnharmed}
use Rattle.wl_io.specs.declared.read.ReadFault.{ReadFault}
use Rattle.wl_io.specs.declared.read.ReadFault.TheVariants.{Failed, TooLong, Memory}

-- at most so many bytes are read
abbrev pub read_limit : ℕ
read_limit = 16777216

-- these bytes are all that were left, and none are left now
abbrev pub AreAll : Option (List ℕ) → Option (List ℕ) → List ℕ → Type 0
AreAll (Some left) new bytes = (bytes ≡ left) × (new ≡ Some [])
AreAll None new bytes = Unit {0}

-- more bytes were left than may be read: the limit and one more were read
abbrev pub IsTooLong : Option (List ℕ) → Option (List ℕ) → Type 0
IsTooLong (Some left) new = (read_limit < length left) × (new ≡ Some (drop (read_limit + 1) left))
IsTooLong None new = Unit {0}

-- Why no bytes were answered. The count of faults rose where a read failed, and only there. Want of
-- memory has no cause.
abbrev pub IsReadFault : Seen → ReadFault → Type 0
IsReadFault source Failed = Rose source.faults source.faults'
IsReadFault source (TooLong count) = (count ≡ read_limit + 1) × IsTooLong source.bytes source.bytes' × IsUnharmed source
IsReadFault source Memory = IsUnharmed source
