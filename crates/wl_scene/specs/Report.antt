-- The report: what each end has sent, holds and has released, as one line of JSON.
use Rattle.std.specs.Prelude.{ℕ, zero, suc, ◌==◌, if◌then◌else◌, List, [], ◌∷◌, ◌++◌, Option, Some, None, codes}
use Rattle.serde_json.specs.Data.{Data, array, Items, no_items, item}
use Rattle.serde_json.specs.Written.{compact_text}
use Rattle.wl_elem.specs.Links.{link_limit, has_link}
use Rattle.wl_scene.specs.declared.totals.Totals.{Totals}
use Rattle.wl_scene.specs.Objects.{Named, object_of, whole, listed, wholes}

-- positions that rise by one, from the first to the last
pub record Run : Type 0 where
  pub first : ℕ
  pub last : ℕ

abbrev pub run : ℕ → ℕ → Run
run first last = record { first = first; last = last }

-- the run that has come so far, with what follows
abbrev pub runs_from : ℕ → ℕ → List ℕ → List Run
runs_from first last [] = run first last ∷ []
runs_from first last (p ∷ ps) = if suc last == p then runs_from first p ps else run first last ∷ runs_from p p ps

-- The maximal runs of a list of positions, in order.
abbrev pub runs : List ℕ → List Run
runs [] = []
runs (p ∷ ps) = runs_from p p ps

abbrev pub run_data : Run → Data
run_data r = array (item (whole r.first) (item (whole r.last) no_items))

abbrev pub runs_data : List Run → Items
runs_data rs = listed run_data rs

-- so many links from this ID on, those that are in the set
abbrev pub chosen : ℕ → ℕ → ℕ → List ℕ
chosen set zero id = []
chosen set (suc count) id = if has_link set id then id ∷ chosen set count (suc id) else chosen set count (suc id)

-- the IDs of a set of links, ascending
unfoldable pub ids_of : ℕ → List ℕ
ids_of set = chosen set link_limit 0

-- the lanes in order
abbrev pub lane_names : List (List ℕ)
lane_names = codes "0" ∷ codes "1" ∷ codes "2" ∷ codes "3" ∷ codes "4" ∷ codes "5" ∷ codes "6" ∷ codes "7" ∷ codes "m" ∷ []

-- a count is shown where it isn't 0
abbrev pub count_shown : ℕ → Option Data
count_shown n = if n == 0 then None else Some (whole n)

-- positions are shown where there are any
abbrev pub runs_shown : List ℕ → Option Data
runs_shown [] = None
runs_shown (p ∷ ps) = Some (array (runs_data (runs (p ∷ ps))))

-- a member where it is shown, and the others
abbrev pub named_if : List ℕ → Option Data → List Named → List Named
named_if name None rest = rest
named_if name (Some d) rest = (name, d) ∷ rest

-- each lane by its name, where it is shown
abbrev pub by_lane : {A : Type 0} → (A → Option Data) → List (List ℕ) → List A → List Named
by_lane shown [] values = []
by_lane shown (name ∷ names) [] = []
by_lane shown (name ∷ names) (value ∷ values) = named_if name (shown value) (by_lane shown names values)

abbrev pub map_data : Totals → Data
map_data t = object_of ((codes "dl", array (wholes t.dl)) ∷ (codes "ul", array (wholes t.ul)) ∷ [])

-- one end's part
unfoldable pub totals_data : Totals → Data
totals_data t =
    object_of ((codes "aired", whole t.aired) ∷ (codes "booked", whole t.booked) ∷ (codes "emlsr", whole t.emlsr) ∷ (codes "key", whole t.key)
    ∷ (codes "links", array (wholes (ids_of t.links))) ∷ (codes "map", map_data t) ∷ (codes "newest", whole t.newest)
    ∷ (codes "queued", object_of (by_lane count_shown lane_names t.queued)) ∷ (codes "released", object_of (by_lane runs_shown lane_names t.released)) ∷ [])

abbrev pub report_data : Totals → Totals → ℕ → Data
report_data ap sta steps = object_of ((codes "ap", totals_data ap) ∷ (codes "sta", totals_data sta) ∷ (codes "steps", whole steps) ∷ (codes "version", whole 1) ∷ [])

unfoldable pub report_text : Totals → Totals → ℕ → List ℕ
report_text ap sta steps = compact_text (report_data ap sta steps) ++ 10 ∷ []
