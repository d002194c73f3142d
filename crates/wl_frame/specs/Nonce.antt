-- The nonce of CCMP (IEEE Std 802.11, 12.5.2.3.4): flags (1: priority B0 to B3, management B4),
-- A2 (6), PN5 to PN0. It tells the lanes of one sender apart, and the frames of a lane.
use Rattle.std.specs.Prelude.{ℕ, zero, suc, ◌/◌, ◌%◌, List, [], ◌∷◌, ◌++◌}
use Rattle.wl_elem.specs.declared.lane.Lane.{Lane}
use Rattle.wl_elem.specs.declared.lane.Lane.TheVariants as lanes
use Rattle.wl_frame.specs.declared.header.Kind.{Kind}
use Rattle.wl_frame.specs.declared.header.Kind.TheVariants.{Qos, Action, AssocAsk, AssocReply}

-- a number in so many octets, the highest first
abbrev pub highest_first : ℕ → ℕ → List ℕ
highest_first zero n = []
highest_first (suc width) n = highest_first width (n / 256) ++ n % 256 ∷ []

-- the TID of data; management has priority 0 and its own bit
abbrev pub nonce_flags : Kind → ℕ
nonce_flags (Qos to_ap tid rest) = tid
nonce_flags Action = 0x10
nonce_flags AssocAsk = 0x10
nonce_flags AssocReply = 0x10

-- of a frame of this kind, A2 and packet number
abbrev pub nonce : Kind → List ℕ → ℕ → List ℕ
nonce kind a2 pn = nonce_flags kind ∷ (a2 ++ highest_first 6 pn)

-- what a frame of this kind is numbered with
abbrev pub lane_of : Kind → Lane
lane_of (Qos to_ap tid rest) = lanes.Tid tid
lane_of Action = lanes.Management
lane_of AssocAsk = lanes.Management
lane_of AssocReply = lanes.Management
