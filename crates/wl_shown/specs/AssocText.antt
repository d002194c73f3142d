-- The texts of association bodies: their fields, and of each profile's link what it says.
use Rattle.std.specs.Prelude.{ℕ, List, [], ◌∷◌, ◌++◌, flat_map, drop, codes}
use Rattle.std.specs.Fmt.{decimal}
use Rattle.wl_elem.specs.Element.{ElementValue}
use Rattle.wl_assoc.specs.declared.association.AssocAsk.{AssocAsk}
use Rattle.wl_assoc.specs.declared.association.AssocReply.{AssocReply}
use Rattle.wl_assoc.specs.declared.links.LinkAsk.{LinkAsk}
use Rattle.wl_assoc.specs.declared.links.LinkState.{LinkState}
use Rattle.wl_shown.specs.Parts.{named, shown_value, optional_octets}
use Rattle.wl_shown.specs.Text.{element_text}

unfoldable pub ask_text : AssocAsk → List ℕ
ask_text ask = shown_value (codes "assoc-ask") (named (codes "capability") (decimal ask.capability) ∷ named (codes "listen") (decimal ask.listen) ∷ [])

unfoldable pub reply_text : AssocReply → List ℕ
reply_text reply =
    shown_value (codes "assoc-reply")
    (named (codes "capability") (decimal reply.capability) ∷ named (codes "status") (decimal reply.status) ∷ named (codes "aid") (decimal reply.aid) ∷ [])

-- elements as octets, each behind a space
abbrev pub raw_items : List ElementValue → List ℕ
raw_items list = flat_map (λ e. codes " " ++ element_text e) list

-- a link that is asked for: behind a slash its fields, and its elements

abbrev pub link_fields : LinkAsk → List ℕ
link_fields a = (codes " / link=" ++ decimal a.link) ++ ((codes " mac=" ++ optional_octets a.mac) ++ (codes " capability=" ++ decimal a.capability))

unfoldable pub link_ask_text : LinkAsk → List ℕ
link_ask_text a = link_fields a ++ raw_items a.elements

abbrev pub asks_text : List LinkAsk → List ℕ
asks_text asks = flat_map link_ask_text asks

-- what a link was answered
unfoldable pub link_state_text : LinkState → List ℕ
link_state_text s = (codes " / link=" ++ decimal s.link) ++ ((codes " capability=" ++ decimal s.capability) ++ (codes " status=" ++ decimal s.status))

-- the states behind that of the link that carries the frame
abbrev pub states_text : List LinkState → List ℕ
states_text states = flat_map link_state_text (drop 1 states)
