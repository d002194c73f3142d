-- The texts of action bodies, without their elements.
use Rattle.std.specs.Prelude.{ℕ, Option, List, [], ◌∷◌, ◌++◌, flat_map, codes}
use Rattle.std.specs.Fmt.{decimal}
use Rattle.hex.specs.Hex.{encode_lower}
use Rattle.wl_action.specs.declared.action.Action.{Action}
use Rattle.wl_action.specs.declared.action.Action.TheVariants.{MapAsk, MapReply, MapTeardown, Epcs, Eml, ReconfAsk, ReconfReply, AddBaAsk, AddBaReply, DelBa}
use Rattle.wl_action.specs.declared.statuses.LinkStatus.{LinkStatus}
use Rattle.wl_shown.specs.Parts.{named, shown_value, optional_text}
use Rattle.wl_shown.specs.declared.item.ShownElements.{ShownElements}
use Rattle.wl_shown.specs.declared.item.ShownElements.TheVariants as which
use Rattle.wl_elem.specs.declared.known.Known.TheVariants as knowns

abbrev pub status_text : LinkStatus → List ℕ
status_text s = decimal s.link ++ codes ":" ++ decimal s.status

abbrev pub more_statuses : List LinkStatus → List ℕ
more_statuses list = flat_map (λ s. codes "+" ++ status_text s) list

-- the statuses joined by `+`, or `-` where there is none
abbrev pub statuses_text : List LinkStatus → List ℕ
statuses_text [] = codes "-"
statuses_text (s ∷ list) = status_text s ++ more_statuses list

abbrev pub token_part : ℕ → List ℕ
token_part token = named (codes "token") (decimal token)

abbrev pub rest_part : List ℕ → List ℕ
rest_part rest = named (codes "rest") (encode_lower rest)

-- the text of each kind

unfoldable pub map_ask_text : ℕ → List ℕ
map_ask_text token = shown_value (codes "map-ask") (token_part token ∷ [])

unfoldable pub map_reply_text : ℕ → ℕ → List ℕ
map_reply_text token status = shown_value (codes "map-reply") (token_part token ∷ named (codes "status") (decimal status) ∷ [])

unfoldable pub teardown_text : List ℕ → List ℕ
teardown_text rest = shown_value (codes "map-teardown") (rest_part rest ∷ [])

unfoldable pub epcs_text : ℕ → List ℕ → List ℕ
epcs_text action rest = shown_value (codes "epcs") (named (codes "action") (decimal action) ∷ rest_part rest ∷ [])

unfoldable pub eml_text : ℕ → ℕ → Option ℕ → Option ℕ → List ℕ → List ℕ
eml_text token control links update rest =
    shown_value (codes "eml")
    (token_part token ∷ named (codes "control") (decimal control) ∷ named (codes "links") (optional_text links) ∷ named (codes "update") (optional_text update) ∷ rest_part rest ∷ [])

unfoldable pub reconf_ask_text : ℕ → List ℕ
reconf_ask_text token = shown_value (codes "reconf-ask") (token_part token ∷ [])

unfoldable pub reconf_reply_text : ℕ → List LinkStatus → List ℕ → List ℕ
reconf_reply_text token list rest = shown_value (codes "reconf-reply") (token_part token ∷ named (codes "list") (statuses_text list) ∷ rest_part rest ∷ [])

unfoldable pub addba_ask_text : ℕ → ℕ → ℕ → ℕ → List ℕ
addba_ask_text token params timeout start =
    shown_value (codes "addba-ask")
    (token_part token ∷ named (codes "params") (decimal params) ∷ named (codes "timeout") (decimal timeout) ∷ named (codes "start") (decimal start) ∷ [])

unfoldable pub addba_reply_text : ℕ → ℕ → ℕ → ℕ → List ℕ
addba_reply_text token status params timeout =
    shown_value (codes "addba-reply")
    (token_part token ∷ named (codes "status") (decimal status) ∷ named (codes "params") (decimal params) ∷ named (codes "timeout") (decimal timeout) ∷ [])

unfoldable pub delba_text : ℕ → ℕ → List ℕ → List ℕ
delba_text params reason rest = shown_value (codes "delba") (named (codes "params") (decimal params) ∷ named (codes "reason") (decimal reason) ∷ rest_part rest ∷ [])

abbrev pub action_text : Action → List ℕ
action_text (MapAsk token elements) = map_ask_text token
action_text (MapReply token status elements) = map_reply_text token status
action_text (MapTeardown rest) = teardown_text rest
action_text (Epcs action rest) = epcs_text action rest
action_text (Eml token control links update rest) = eml_text token control links update rest
action_text (ReconfAsk token elements) = reconf_ask_text token
action_text (ReconfReply token list rest) = reconf_reply_text token list rest
action_text (AddBaAsk token params timeout start elements) = addba_ask_text token params timeout start
action_text (AddBaReply token status params timeout elements) = addba_reply_text token status params timeout
action_text (DelBa params reason rest) = delba_text params reason rest

-- which of its elements are shown as their values
abbrev pub decoded_in : Action → ShownElements
decoded_in (MapAsk token elements) = which.Only knowns.TidToLinkMapping
decoded_in (MapReply token status elements) = which.Only knowns.TidToLinkMapping
decoded_in (MapTeardown rest) = which.Nothing
decoded_in (Epcs action rest) = which.Nothing
decoded_in (Eml token control links update rest) = which.Nothing
decoded_in (ReconfAsk token elements) = which.Only knowns.MultiLink
decoded_in (ReconfReply token list rest) = which.Nothing
decoded_in (AddBaAsk token params timeout start elements) = which.Nothing
decoded_in (AddBaReply token status params timeout elements) = which.Nothing
decoded_in (DelBa params reason rest) = which.Nothing
