-- Texts of refusals and elements: numbers in decimal, octets in hex.
use Rattle.std.specs.Prelude.{ℕ, List, [], ◌++◌, Option, Some, None, codes}
use Rattle.std.specs.Fmt.{decimal}
use Rattle.hex.specs.Hex.{encode_lower}
use Rattle.wl_elem.specs.declared.fault.Refusal.{Refusal}
use Rattle.wl_elem.specs.Why.{why_name}
use Rattle.wl_elem.specs.Element.{ElementValue}

-- an index of a refusal, where it is there
abbrev pub index_text : List ℕ → Option ℕ → List ℕ
index_text name (Some i) = name ++ decimal i
index_text name None = []

-- a refused line
abbrev pub refused_text : Refusal → List ℕ
refused_text r = codes "refused" ++ index_text (codes " element=") r.element ++ index_text (codes " sub=") r.sub ++ index_text (codes " inner=") r.inner
    ++ codes " place=" ++ decimal r.place ++ codes " " ++ why_name r.why

-- the name of an element: its ID, and its extension where there is one
abbrev pub name_text : ℕ → Option ℕ → List ℕ
name_text id (Some ext) = codes "e" ++ decimal id ++ codes "." ++ decimal ext
name_text id None = codes "e" ++ decimal id

-- an element as octets
abbrev pub element_text : ElementValue → List ℕ
element_text e = name_text e.id e.ext ++ codes ":" ++ encode_lower e.body
