-- The text of a TID-To-Link Mapping element.
use Rattle.std.specs.Prelude.{ℕ, suc, Bool, if◌then◌else◌, List, [], ◌∷◌, ◌++◌, Option, Some, None, codes}
use Rattle.std.specs.Fmt.{decimal}
use Rattle.hex.specs.Hex.{encode_lower}
use Rattle.wl_ttlm.specs.declared.ttlm.Ttlm.{Ttlm}
use Rattle.wl_shown.specs.Parts.{named, shown_value, flag_text, optional_text}

-- `TID:NUMBER` for each TID that has a mapping, the TIDs counted from the first
abbrev pub map_items : ℕ → List (Option ℕ) → List (List ℕ)
map_items tid [] = []
map_items tid (Some n ∷ maps) = (decimal tid ++ codes ":" ++ decimal n) ∷ map_items (suc tid) maps
map_items tid (None ∷ maps) = map_items (suc tid) maps

-- each item behind a `+`
abbrev pub more_text : List (List ℕ) → List ℕ
more_text [] = []
more_text (item ∷ items) = codes "+" ++ item ++ more_text items

-- the items joined by `+`, or `-` where there is none
abbrev pub sum_text : List (List ℕ) → List ℕ
sum_text [] = codes "-"
sum_text (item ∷ items) = item ++ more_text items

-- the control octet, the times, the mappings and the rest
abbrev pub ttlm_parts : Ttlm → List (List ℕ)
ttlm_parts t =
    named (codes "dir") (decimal t.direction)
    ∷ named (codes "default") (flag_text t.default)
    ∷ named (codes "spare") (decimal t.spare)
    ∷ named (codes "narrow") (flag_text t.narrow)
    ∷ named (codes "switch") (optional_text t.switch)
    ∷ named (codes "duration") (optional_text t.duration)
    ∷ []

abbrev pub ttlm_rest : Ttlm → List (List ℕ)
ttlm_rest t = named (codes "map") (sum_text (map_items 0 t.maps)) ∷ named (codes "tail") (encode_lower t.tail) ∷ []

abbrev pub ttlm_text : Ttlm → List ℕ
ttlm_text t = shown_value (codes "ttlm") (ttlm_parts t ++ ttlm_rest t)

-- one TID's part of the mappings, and whether another stands before it
abbrev pub map_text : Bool → ℕ → Option ℕ → List ℕ
map_text some tid None = []
map_text some tid (Some n) = (if some then codes "+" else []) ++ decimal tid ++ codes ":" ++ decimal n
