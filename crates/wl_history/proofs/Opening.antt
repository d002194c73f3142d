-- What is to be opened has its numbers in their ranges.
use Rattle.std.proofs.Common.{◌≡◌, ℕ, ◌<◌, ◌^◌, Bool, true, false, List, Option, None, Some, Result, Ok, Err, subst}
use Rattle.std.specs.Prelude.{not, if◌then◌else◌, IfSome, bytes_eq}
use Rattle.wl_elem.specs.declared.fault.Refusal.{Refusal}
use Rattle.wl_elem.specs.declared.why.Why.TheVariants.{WrongAddress}
use Rattle.wl_elem.specs.declared.lane.EndId.{EndId}
use Rattle.wl_elem.specs.declared.lane.Lane.{Lane}
use Rattle.wl_elem.specs.declared.lane.Lane.TheVariants as lanes
use Rattle.wl_elem.specs.Lanes.{peer_of, IsLane}
use Rattle.wl_frame.specs.declared.header.Kind.{Kind}
use Rattle.wl_frame.specs.declared.header.Kind.TheVariants.{Qos, Action, AssocAsk, AssocReply}
use Rattle.wl_frame.specs.declared.header.Protection.{Protection}
use Rattle.wl_frame.specs.Frame.{FrameValue, IsKind, IsProtection}
use Rattle.wl_frame.specs.Refusals.{ReadAs}
use Rattle.wl_replay.specs.Keys.{held}
use Rattle.wl_history.specs.declared.outcome.Outcome.{Outcome}
use Rattle.wl_history.specs.declared.outcome.Outcome.TheVariants as outcomes
use Rattle.wl_history.specs.declared.setup.Setup.{Setup}
use Rattle.wl_history.specs.declared.start.EndStart.{EndStart}
use Rattle.wl_history.specs.Ends.{link_address}
use Rattle.wl_history.specs.Hearing.{is_down, Closed, IsClosed, Judged, Answered, ToOpen, is_own_way, with_key, judged_protected, judged_kind, judged}

abbrev Fits : Judged → Type 0
Fits (Answered outcome) = Unit {0}
Fits (ToOpen c) = IsClosed c

fits_key : (lane : Lane) (f : FrameValue) (p : Protection) (k : Option ℕ) → IsLane lane → f.header.number < 4096 → p.pn < 2 ^ 48 → Fits (with_key lane f p k)
fits_key lane f p None is_lane number pn = tt
fits_key lane f p (Some key) is_lane number pn = record { of_lane = is_lane; number_fits = number; pn_fits = pn }

fits_protected : (newest : ℕ) (lane : Lane) (f : FrameValue) (p : Option Protection) → IsLane lane → f.header.number < 4096 → IfSome p IsProtection → Fits (judged_protected newest lane f p)
fits_protected newest lane f None is_lane number h = tt
fits_protected newest lane f (Some p) is_lane number h = fits_key lane f p (held newest p.key_id) is_lane number h.pn

fits_kind : (newest : ℕ) (f : FrameValue) (k : Kind) → IsKind k → f.header.number < 4096 → IfSome f.protection IsProtection → Fits (judged_kind newest f k)
fits_kind newest f (Qos to_ap tid rest) k number p = fits_protected newest (lanes.Tid tid) f f.protection k.tid_fits number p
fits_kind newest f Action k number p = fits_protected newest lanes.Management f f.protection tt number p
fits_kind newest f AssocAsk k number p = tt
fits_kind newest f AssocReply k number p = tt

fits_after : (a b c d : Bool) (w x y z : Outcome) (j : Judged) → Fits j → Fits (if a then Answered w else if b then Answered x else if c then Answered y else if d then Answered z else j)
fits_after true b c d w x y z j h = tt
fits_after false true c d w x y z j h = tt
fits_after false false true d w x y z j h = tt
fits_after false false false true w x y z j h = tt
fits_after false false false false w x y z j h = h

fits : (start : EndStart) (setup : Setup) (e : EndId) (link : ℕ) (octets : List ℕ) (reading : Result FrameValue Refusal) → ReadAs octets reading → Fits (judged start setup e link reading)
fits start setup e link octets (Err refusal) read = tt
fits start setup e link octets (Ok f) read =
    fits_after (is_down setup link f.header.kind) (not (bytes_eq f.header.a1 (link_address start link e))) (not (bytes_eq f.header.a2 (link_address start link (peer_of e)))) (is_own_way e f.header.kind)
    outcomes.LinkDown (outcomes.BadFrame WrongAddress 4) (outcomes.BadFrame WrongAddress 10) (outcomes.BadFrame WrongAddress 1) (judged_kind setup.keys f f.header.kind)
    (fits_kind setup.keys f f.header.kind read.is_frame.header.kind read.is_frame.header.number read.is_frame.protection)

pub to_open_fits : (start : EndStart) (setup : Setup) (e : EndId) (link : ℕ) (octets : List ℕ) (reading : Result FrameValue Refusal) (c : Closed) → ReadAs octets reading → judged start setup e link reading ≡ ToOpen c → IsClosed c
to_open_fits start setup e link octets reading c read is = subst Fits is (fits start setup e link octets reading read)
