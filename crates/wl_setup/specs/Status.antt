-- The statuses of multi-link setup (IEEE Std 802.11, table of status codes; IEEE Std 802.11be, 35.3.5).
use Rattle.std.specs.Prelude.{ℕ, Bool, false, ◌==◌, ◌&&◌, Option, Some, None, if◌then◌else◌}

-- SUCCESS
abbrev pub success : ℕ
success = 0

-- REFUSED, UNSPECIFIED_FAILURE
abbrev pub unspecified_failure : ℕ
unspecified_failure = 1

-- REQUEST_DECLINED
abbrev pub request_declined : ℕ
request_declined = 37

-- REFUSED, INVALID_PARAMETERS
abbrev pub invalid_parameters : ℕ
invalid_parameters = 38

-- what an asked link deserves: by whether the address asked with is the station's there, whether the AP accepts
-- the link, and whether its radio is on there
abbrev pub status_of : Bool → Bool → Bool → ℕ
status_of known accepted powered =
    if known then (if accepted && powered then success else request_declined) else invalid_parameters

-- the status that the link gets, by whether the carrying link succeeds: where it doesn't, no link does
abbrev pub status_beside : Bool → ℕ → ℕ
status_beside carried status = if carried then status else (if status == success then unspecified_failure else status)

-- a link's status is there, and it is success
abbrev pub is_success : Option ℕ → Bool
is_success None = false
is_success (Some status) = status == success
