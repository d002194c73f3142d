-- The TID-To-Link Mapping element (IEEE Std 802.11be, 9.4.2.314), as its body.
--
-- | field             | there                        | octets             |
-- |-------------------|------------------------------|--------------------|
-- | control           | always                       | 1                  |
-- | presence          | default clear                | 1, bit n for TID n |
-- | switch time       | B3 of control                | 2                  |
-- | expected duration | B4 of control                | 3                  |
-- | mapping of TID n  | default clear, presence bit n | 1 where narrow, else 2; lowest TID first |
-- | tail              | always                       | the rest           |
--
-- Control: direction B0 and B1 (0 downlink, 1 uplink, 2 both, 3 reserved), default B2, switch time
-- present B3, expected duration present B4, narrow B5, spare B6 and B7. Numbers have their lowest
-- octet first.
use Rattle.std.specs.Prelude.{◌≡◌, ◌≢◌, ℕ, zero, suc, ◌+◌, ◌*◌, ◌/◌, ◌%◌, ◌<◌, ◌≤◌, ◌==◌, ◌⊎◌, not, Bool, true, false, is_some, List, [], ◌∷◌, ◌++◌, length, slice_index, Option, Some, None, Result, Ok, Err}
use Rattle.std.specs.List.{AllByRecursion, flat_map}
use Rattle.wl_elem.specs.declared.fault.Refusal.{Refusal}
use Rattle.wl_elem.specs.declared.why.Why.TheVariants.{Truncated, ReservedDirection}
use Rattle.wl_elem.specs.Answers.{refusal_at}
use Rattle.wl_elem.specs.Bits.{bit, has_bit}
use Rattle.wl_elem.specs.Element.{body_limit}
use Rattle.wl_elem.specs.Fields.{field, Fits, first_cut, width_if}
use Rattle.wl_ttlm.specs.declared.ttlm.Ttlm.{Ttlm}

abbrev pub control : Ttlm → ℕ
control t = t.direction + 4 * bit t.default + 8 * bit (is_some t.switch) + 16 * bit (is_some t.duration) + 32 * bit t.narrow + 64 * t.spare

-- bit n says whether TID n has a mapping
abbrev pub presence : List (Option ℕ) → ℕ
presence [] = 0
presence (map ∷ maps) = bit (is_some map) + 2 * presence maps

-- the presence octet, unless the default mapping stands for it
abbrev pub presence_in : Bool → List (Option ℕ) → Option ℕ
presence_in true maps = None
presence_in false maps = Some (presence maps)

abbrev pub map_width : Bool → ℕ
map_width true = 1
map_width false = 2

abbrev pub mappings : ℕ → List (Option ℕ) → List ℕ
mappings width maps = flat_map (field width) maps

-- the body that the value is written in
abbrev pub spelling : Ttlm → List ℕ
spelling t = control t ∷ (field 1 (presence_in t.default t.maps) ++ (field 2 t.switch ++ (field 3 t.duration ++ (mappings (map_width t.narrow) t.maps ++ t.tail))))

-- what has a body
pub record IsTtlm (t : Ttlm) : Type 0 where
  pub direction : t.direction < 3
  pub spare : t.spare < 4
  pub switch : Fits 2 t.switch
  pub duration : Fits 3 t.duration
  pub eight : length t.maps ≡ 8
  pub fit : AllByRecursion (Fits (map_width t.narrow)) t.maps
  -- with default set no TID has a mapping of its own
  pub none : t.default ≡ true → AllByRecursion (λ map. map ≡ None) t.maps

-- the body is this value's
pub record TtlmOf (t : Ttlm) (body : List ℕ) : Type 0 where
  pub is_value : IsTtlm t
  pub text : body ≡ spelling t

-- some body, no longer than an element's may be, is this value's
abbrev pub IsWritable : Ttlm → Type 0
IsWritable t = (body : List ℕ) × (length body ≤ body_limit) × TtlmOf t body

-- the bits of the TIDs that have a mapping, where the octet behind the control octet is `first`
abbrev pub mapped : Bool → ℕ → ℕ
mapped true first = 0
mapped false first = first

-- the widths of so many mappings, by these bits
unfoldable pub map_widths : ℕ → ℕ → ℕ → List ℕ
map_widths zero present width = []
map_widths (suc count) present width = width_if (present % 2 == 1) width ∷ map_widths count (present / 2) width

-- the widths of the fields behind the control octet
abbrev pub widths : ℕ → ℕ → List ℕ
widths control present = width_if (not (has_bit control 4)) 1 ∷ width_if (has_bit control 8) 2 ∷ width_if (has_bit control 16) 3 ∷ map_widths 8 present (map_width (has_bit control 32))

-- a field behind the control octet isn't whole, at this place of the body
pub record IsCutAt (control : ℕ) (rest : List ℕ) (place : ℕ) : Type 0 where
  pub left : ℕ
  pub cut : first_cut (widths control (mapped (has_bit control 4) (slice_index rest 0))) (length rest) ≡ Some left
  pub counted : place + left ≡ suc (length rest)

-- The body is refused: it has no control octet, the direction is 3, or a field isn't whole.
abbrev pub TtlmRefused : List ℕ → Refusal → Type 0
TtlmRefused [] refusal = refusal ≡ refusal_at 0 Truncated
TtlmRefused (control ∷ rest) refusal =
    ((control % 4 ≡ 3) × (refusal ≡ refusal_at 0 ReservedDirection))
    ⊎ ((control % 4 ≢ 3) × (place : ℕ) × IsCutAt control rest place × (refusal ≡ refusal_at place Truncated))

-- the body read as a value, or as refused
abbrev pub ReadAs : List ℕ → Result Ttlm Refusal → Type 0
ReadAs body (Ok t) = TtlmOf t body
ReadAs body (Err refusal) = TtlmRefused body refusal
