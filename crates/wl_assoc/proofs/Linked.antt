-- The links that are said something of are those of the profiles.
use Rattle.std.proofs.Common.{◌≡◌, ℕ, List, [], ◌∷◌, Bool, true, false, Ok, refl, sym, ap, subst, ◌∙◌}
use Rattle.std.specs.Prelude.{map}
use Rattle.wl_elem.specs.Element.{ElementValue}
use Rattle.wl_assoc.specs.declared.association.AssocAsk.{AssocAsk}
use Rattle.wl_assoc.specs.declared.association.AssocReply.{AssocReply}
use Rattle.wl_assoc.specs.declared.links.LinkAsk.{LinkAsk}
use Rattle.wl_assoc.specs.declared.links.LinkState.{LinkState}
use Rattle.wl_assoc.specs.declared.profiles.LinkEntry.{LinkEntry}
use Rattle.wl_assoc.specs.Profiles.{ProfileAt, links_in, AreDifferent, SaidBy, EntriesAs, ask_of, state_of, AsksAs, StatesAs, AreProfileLinks}

abbrev entry_links : List LinkEntry → List ℕ
entry_links entries = map (λ e. e.link) entries

said_links : (response : Bool) (outer : List ElementValue) (profiles : List ProfileAt) (entries : List LinkEntry) → SaidBy response outer profiles entries → entry_links entries ≡ links_in profiles
said_links response outer [] [] said = refl
said_links response outer [] (e ∷ entries) said = absurd said
said_links response outer (x ∷ profiles) [] said = absurd said
said_links response outer (x ∷ profiles) (e ∷ entries) (says, is, more) =
    ap (λ (v : LinkEntry). v.link ∷ entry_links entries) is ∙ ap (λ (v : List ℕ). x.profile.link ∷ v) (said_links response outer profiles entries more)

entries_linked : (response : Bool) (list : List ElementValue) (entries : List LinkEntry) → EntriesAs response list (Ok entries) → AreProfileLinks list (entry_links entries)
entries_linked response list entries (i, e, only, b, of, passed) =
    let same = said_links response list _ entries passed.each in
    record { index = i; element = e; only = only; basic = b; value = of; same = same; different = subst AreDifferent (sym same) passed.different }

asked_links : (entries : List LinkEntry) → map (λ (a : LinkAsk). a.link) (map ask_of entries) ≡ entry_links entries
asked_links [] = refl
asked_links (e ∷ entries) = ap (λ (v : List ℕ). e.link ∷ v) (asked_links entries)

answered_links : (entries : List LinkEntry) → map (λ (s : LinkState). s.link) (map state_of entries) ≡ entry_links entries
answered_links [] = refl
answered_links (e ∷ entries) = ap (λ (v : List ℕ). e.link ∷ v) (answered_links entries)

pub asks_linked : (ask : AssocAsk) (asks : List LinkAsk) → AsksAs ask (Ok asks) → AreProfileLinks ask.elements (map (λ a. a.link) asks)
asks_linked ask asks (entries, are, same) =
    subst (AreProfileLinks ask.elements) (sym (ap (map (λ (a : LinkAsk). a.link)) same ∙ asked_links entries)) (entries_linked false ask.elements entries are)

pub states_linked : (reply : AssocReply) (on : ℕ) (states : List LinkState) → StatesAs reply on (Ok states)
    → (own : LinkState) × (others : List LinkState) × (states ≡ own ∷ others) × (own.link ≡ on) × AreProfileLinks reply.elements (map (λ s. s.link) others)
states_linked reply on states (entries, are, same) =
    (_, map state_of entries, same, refl, subst (AreProfileLinks reply.elements) (sym (answered_links entries)) (entries_linked true reply.elements entries are))
