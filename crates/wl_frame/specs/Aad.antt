-- The additional authentication data of CCMP (IEEE Std 802.11, 12.5.2.3.3), which are sealed with
-- the body without being in it: they say what kind of frame it is, and between which MLDs.
--
-- | field            | there  | octets                                                             |
-- |------------------|--------|--------------------------------------------------------------------|
-- | frame control    | always | 2: for data without the subtype's B4 to B6 and without order; without retry, power management and more data; protected set |
-- | A1, A2, A3       | always | 6 each: the MLD addresses of receiver and sender, that of the AP MLD |
-- | sequence control | always | 2: without the number, so 0                                        |
-- | QoS control      | data   | 2: the TID alone                                                   |
use Rattle.std.specs.Prelude.{ℕ, ◌+◌, List, [], ◌∷◌, ◌++◌}
use Rattle.wl_frame.specs.declared.header.Kind.{Kind}
use Rattle.wl_frame.specs.declared.header.Kind.TheVariants.{Qos, Action, AssocAsk, AssocReply}
use Rattle.wl_frame.specs.Frame.{direction_bits}

-- the AAD of a frame of this kind between these addresses; association frames aren't sealed
abbrev pub aad : Kind → List ℕ → List ℕ → List ℕ → List ℕ
aad (Qos to_ap tid rest) a1 a2 a3 = 0x88 ∷ (direction_bits (Qos to_ap tid rest) + 0x40) ∷ (a1 ++ (a2 ++ (a3 ++ (0 ∷ 0 ∷ tid ∷ 0 ∷ []))))
aad Action a1 a2 a3 = 0xd0 ∷ 0x40 ∷ (a1 ++ (a2 ++ (a3 ++ (0 ∷ 0 ∷ []))))
aad AssocAsk a1 a2 a3 = []
aad AssocReply a1 a2 a3 = []
