-- What a sealer means: the text that it makes of a key, a nonce, an AAD and a body. Of what can be
-- sealed the text tells the body, and it is little longer.
use Rattle.std.specs.Prelude.{◌≡◌, ℕ, ◌+◌, ◌<◌, ◌≤◌, ◌⊎◌, ◌^◌, List, length}
use Rattle.std.specs.List.{AllByRecursion}
use Rattle.wl_frame.specs.declared.key.Key.{Key}

-- of a key, a nonce, an AAD and a body
abbrev pub Sealing : Type 0
Sealing = Key → List ℕ → List ℕ → List ℕ → List ℕ

-- ---- what can be sealed

abbrev pub IsOctets : List ℕ → Type 0
IsOctets octets = AllByRecursion (λ octet. octet < 256) octets

-- What CCMP seals under (IEEE Std 802.11, 12.5.2.3): a key, here 16 octets and a number of 16 bits, a
-- nonce of 13 octets, and the AAD of an Action or a data frame.
pub record IsUnder (key : Key) (nonce aad : List ℕ) : Type 0 where
  pub base_octets : IsOctets key.base
  pub base_len : length key.base ≡ 16
  pub number_fits : key.number < 2 ^ 16
  pub nonce_octets : IsOctets nonce
  pub nonce_len : length nonce ≡ 13
  pub aad_octets : IsOctets aad
  pub aad_len : (length aad ≡ 22) ⊎ (length aad ≡ 24)

-- CCMP writes a body's length in two octets (L = 2)
abbrev pub sealed_limit : ℕ
sealed_limit = 65535

-- a body that CCMP can seal under these
pub record CanSeal (key : Key) (nonce aad body : List ℕ) : Type 0 where
  pub under : IsUnder key nonce aad
  pub octets : IsOctets body
  pub limit : length body ≤ sealed_limit

-- ---- what is asked of the texts

-- nothing is said of what can't be sealed
pub record IsSealing (text : Sealing) : Type 0 where
  pub one_body : (key : Key) (nonce aad body other : List ℕ) → CanSeal key nonce aad body → CanSeal key nonce aad other → text key nonce aad body ≡ text key nonce aad other → body ≡ other
  pub longer : (key : Key) (nonce aad body : List ℕ) → CanSeal key nonce aad body → length (text key nonce aad body) ≤ length body + 64
