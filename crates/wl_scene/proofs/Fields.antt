-- The members of commands are in their ranges.
use Rattle.std.proofs.Common.{◌≡◌, ℕ, ◌-◌, ◌≤◌, ◌<◌, ◌^◌, nat_le, Bool, true, false, if◌then◌else◌, is_some, List, length, Some, None, option_map, codes, refl, ap, ◌∙◌, subst, arith}
use Rattle.std.proofs.lemmas.Bool.{and_parts}
use Rattle.serde_json.specs.Data.{Data, Items}
use Rattle.serde_json.specs.Events.{items_len}
use Rattle.wl_elem.specs.declared.lane.EndId.{EndId}
use Rattle.wl_elem.specs.declared.lane.Lane.{Lane}
use Rattle.wl_elem.specs.declared.lane.Lane.TheVariants.{Tid, Management}
use Rattle.wl_elem.specs.Element.{msdu_limit}
use Rattle.wl_elem.specs.Lanes.{IsLane}
use Rattle.wl_history.specs.declared.start.LinkStart.{LinkStart}
use Rattle.wl_history.specs.declared.start.Start.{Start}
use Rattle.wl_history.specs.Ends.{is_link, link_at as link_start_at, start_of}
use Rattle.wl_history.specs.Legal.{octets_limit}
use Rattle.wl_message.specs.declared.changes.MapEntry.{MapEntry}
use Rattle.wl_scene.specs.Entries.{entry_of, entries_of, entries_at}
use Rattle.wl_scene.specs.Fields.{tid_at, lane_at, if_link, link_in, pn_at, sized, body_at, limited, injected_at, sequence_at}
use Rattle.wl_scene.specs.Members.{has_text, in_range, number_at, list_at, whole_at, hex_at, each_of}
use Rattle.wl_scene.proofs.Found.{never, either, mapped, followed, passed, tells, below_fits, each_length}

-- both ends have these links
abbrev pub HasLinks : Start → List LinkStart → Type 0
HasLinks start links = (e : EndId) → (start_of start e).links ≡ links

-- ---- octets

abbrev IsBody : List ℕ → Type 0
IsBody body = (1 ≤ length body) × (length body ≤ msdu_limit)

pub body_fits : (d : Data) (body : List ℕ) → body_at d ≡ Some body → IsBody body
body_fits d body =
    followed sized (hex_at (codes "body") d) body (IsBody body)
    (λ octets. passed IsBody _ octets body
    (λ h. let both = and_parts (nat_le 1 (length octets)) (nat_le (length octets) msdu_limit) h in (tells 1 (length octets) both.0, tells (length octets) msdu_limit both.1)))

pub injected_fits : (d : Data) (octets : List ℕ) → injected_at d ≡ Some octets → length octets ≤ octets_limit
injected_fits d octets =
    followed limited (hex_at (codes "hex") d) octets (length octets ≤ octets_limit)
    (λ all. passed (λ (x : List ℕ). length x ≤ octets_limit) (nat_le (length all) octets_limit) all octets (tells (length all) octets_limit))

-- ---- numbers

pub tid_fits : (d : Data) (tid : ℕ) → tid_at d ≡ Some tid → tid < 8
tid_fits d tid = below_fits 8 (whole_at (codes "tid") d) tid

pub lane_fits : (d : Data) (lane : Lane) → lane_at d ≡ Some lane → IsLane lane
lane_fits d lane =
    either (has_text (codes "lane") (codes "m") d) (Some Management) (option_map Tid (number_at (codes "lane") 8 d)) lane (IsLane lane)
    (λ same. let is : Management ≡ lane = cc in subst IsLane is tt)
    (mapped Tid (number_at (codes "lane") 8 d) lane (IsLane lane) (λ n found is. subst IsLane is (below_fits 8 (whole_at (codes "lane") d) n found)))

pub sequence_fits : (d : Data) (number : ℕ) → sequence_at d ≡ Some number → number < 4096
sequence_fits d number = below_fits 4096 (whole_at (codes "number") d) number

abbrev IsNumber : ℕ → Type 0
IsNumber pn = (1 ≤ pn) × (pn < 2 ^ 48)

in_word : (pn : ℕ) → 1 ≤ pn → pn ≤ 2 ^ 48 - 1 → IsNumber pn
in_word pn some few = (some, omega arith)

pub pn_fits : (d : Data) (pn : ℕ) → pn_at d ≡ Some pn → IsNumber pn
pn_fits d pn =
    followed (in_range 1 (2 ^ 48 - 1)) (whole_at (codes "pn") d) pn (IsNumber pn)
    (λ n. passed IsNumber _ n pn (λ h. let both = and_parts (nat_le 1 n) (nat_le n (2 ^ 48 - 1)) h in in_word n (tells 1 n both.0) (tells n (2 ^ 48 - 1) both.1)))

-- ---- links

pub known : (links : List LinkStart) (n id : ℕ) → if_link links n ≡ Some id → is_some (link_start_at id links) ≡ true
known links n id = passed (λ (x : ℕ). is_some (link_start_at x links) ≡ true) (is_some (link_start_at n links)) n id (λ h. h)

pub link_fits : (start : Start) (links : List LinkStart) (d : Data) (link : ℕ) (end : EndId) → HasLinks start links → link_in links d ≡ Some link → is_link (start_of start end) link ≡ true
link_fits start links d link end has same =
    ap (λ (x : List LinkStart). is_some (link_start_at link x)) (has end)
    ∙ followed (if_link links) (whole_at (codes "link") d) link (is_some (link_start_at link links) ≡ true) (λ n. known links n link) same

-- ---- entries

few_entries : (b : Bool) (ds : Items) (entries : List MapEntry) → (b ≡ true → items_len ds ≤ 2) → (if b then each_of entry_of ds else None) ≡ Some entries → length entries ≤ 2
few_entries true ds entries few same = let long = each_length entry_of ds entries same in let bound = few refl in omega (arith, long, bound)
few_entries false ds entries few same = never entries (length entries ≤ 2) same

pub entries_fit : (d : Data) (entries : List MapEntry) → entries_at d ≡ Some entries → length entries ≤ 2
entries_fit d entries = followed entries_of (list_at (codes "entries") d) entries (length entries ≤ 2) (λ ds. few_entries (nat_le (items_len ds) 2) ds entries (tells (items_len ds) 2))
