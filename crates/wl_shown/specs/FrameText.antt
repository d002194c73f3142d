-- The text of a frame: its kind, the header's fields in their order, the CCMP header's, the payload.
use Rattle.std.specs.Prelude.{ℕ, true, false, List, [], ◌∷◌, ◌++◌, Option, Some, None, codes}
use Rattle.std.specs.Fmt.{decimal}
use Rattle.hex.specs.Hex.{encode_lower}
use Rattle.wl_frame.specs.declared.header.Kind.{Kind}
use Rattle.wl_frame.specs.declared.header.Kind.TheVariants.{Qos, Action, AssocAsk, AssocReply}
use Rattle.wl_frame.specs.declared.header.Header.{Header}
use Rattle.wl_frame.specs.declared.header.Protection.{Protection}
use Rattle.wl_frame.specs.Frame.{FrameValue}
use Rattle.wl_shown.specs.Parts.{named, shown_value, flag_text, optional_text}

abbrev pub kind_text : Kind → List ℕ
kind_text (Qos to_ap tid rest) = codes "qos"
kind_text Action = codes "action"
kind_text AssocAsk = codes "assoc-ask"
kind_text AssocReply = codes "assoc-reply"

-- where data goes
abbrev pub to_text : Kind → List ℕ
to_text (Qos true tid rest) = codes "ap"
to_text (Qos false tid rest) = codes "sta"
to_text Action = codes "-"
to_text AssocAsk = codes "-"
to_text AssocReply = codes "-"

-- the fields of the QoS control, which data has

abbrev pub tid_of : Kind → Option ℕ
tid_of (Qos to_ap tid rest) = Some tid
tid_of Action = None
tid_of AssocAsk = None
tid_of AssocReply = None

abbrev pub rest_of : Kind → Option ℕ
rest_of (Qos to_ap tid rest) = Some rest
rest_of Action = None
rest_of AssocAsk = None
rest_of AssocReply = None

abbrev pub kind_parts : Kind → List (List ℕ)
kind_parts kind =
    kind_text kind
    ∷ named (codes "to") (to_text kind)
    ∷ named (codes "tid") (optional_text (tid_of kind))
    ∷ named (codes "rest") (optional_text (rest_of kind))
    ∷ []

abbrev pub flag_parts : Header → List (List ℕ)
flag_parts h =
    named (codes "retry") (flag_text h.retry)
    ∷ named (codes "power") (flag_text h.power)
    ∷ named (codes "more") (flag_text h.more)
    ∷ named (codes "duration") (decimal h.duration)
    ∷ []

abbrev pub address_parts : Header → List (List ℕ)
address_parts h =
    named (codes "a1") (encode_lower h.a1)
    ∷ named (codes "a2") (encode_lower h.a2)
    ∷ named (codes "a3") (encode_lower h.a3)
    ∷ named (codes "number") (decimal h.number)
    ∷ []

abbrev pub protection_parts : Option Protection → List (List ℕ)
protection_parts None =
    named (codes "key") (codes "-") ∷ named (codes "pn") (codes "-") ∷ named (codes "spare") (codes "-") ∷ named (codes "bits") (codes "-") ∷ []
protection_parts (Some p) =
    named (codes "key") (decimal p.key_id) ∷ named (codes "pn") (decimal p.pn) ∷ named (codes "spare") (decimal p.spare) ∷ named (codes "bits") (decimal p.bits) ∷ []

abbrev pub payload_parts : List ℕ → List (List ℕ)
payload_parts payload = named (codes "payload") (encode_lower payload) ∷ []

abbrev pub frame_text : FrameValue → List ℕ
frame_text f = shown_value (codes "frame") (kind_parts f.header.kind ++ flag_parts f.header ++ address_parts f.header ++ protection_parts f.protection ++ payload_parts f.payload)
