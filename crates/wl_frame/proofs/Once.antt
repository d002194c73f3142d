-- Octets are read in one way.
use Rattle.std.proofs.Common.{◌≡◌, ℕ, List, Option, Some, None, Ok, Err, refl}
use Rattle.wl_elem.specs.declared.fault.Refusal.{Refusal}
use Rattle.wl_elem.proofs.Octets.{IsOctets}
use Rattle.wl_frame.specs.Frame.{FrameValue}
use Rattle.wl_frame.specs.Refusals.{refusal_of, ReadAs}
use Rattle.wl_frame.specs.Reading.{frame_at, read, reading}
use Rattle.wl_frame.proofs.Spelled.{is_frame_of}

pub read_frame : (octets : List ℕ) (f : FrameValue) → refusal_of octets ≡ None → f ≡ frame_at octets → Ok f ≡ reading octets
unfolding reading
read_frame octets f passed e = rw (passed, e) refl

pub read_refusal : (octets : List ℕ) (refusal : Refusal) → refusal_of octets ≡ Some refusal → Err refusal ≡ reading octets
unfolding reading
read_refusal octets refusal e = rw e refl

by_refusal : (octets : List ℕ) (r : Option Refusal) → refusal_of octets ≡ r → IsOctets octets → ReadAs octets (read r octets)
by_refusal octets (Some refusal) e is = e
by_refusal octets None e is = is_frame_of octets is e

-- what is read is a reading
pub is_reading : (octets : List ℕ) → IsOctets octets → ReadAs octets (reading octets)
unfolding reading
is_reading octets is = by_refusal octets (refusal_of octets) refl is
