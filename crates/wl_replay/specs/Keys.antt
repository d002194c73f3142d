-- The keys that a receiver holds: the newest and the one before it. A frame names its key by a key ID
-- of two bits (IEEE Std 802.11, 12.5.3.2), here the key number modulo 2.
use Rattle.std.specs.Prelude.{◌≡◌, ℕ, ◌+◌, ◌-◌, ◌%◌, ◌==◌, ◌&&◌, ◌⊎◌, nat_lt, if◌then◌else◌, Option, Some, None}

-- with this newest key the end holds that key
abbrev pub Holds : ℕ → ℕ → Type 0
Holds newest key = (key ≡ newest) ⊎ (key + 1 ≡ newest)

abbrev pub key_id_of : ℕ → ℕ
key_id_of key = key % 2

-- the held key of this key ID
abbrev pub held : ℕ → ℕ → Option ℕ
held newest key_id =
    if key_id_of newest == key_id then Some newest
    else (if nat_lt 0 newest && key_id_of (newest - 1) == key_id then Some (newest - 1) else None)
