-- A written request is read as it was.
use Rattle.std.proofs.Common.{◌≡◌, ℕ, ◌+◌, ◌<◌, ◌≤◌, Bool, true, false, cond, List, [], ◌∷◌, ◌++◌, length, map, Option, Some, None, Ok, refl, sym, ap, subst, ◌∙◌, arith, inl, inr}
use Rattle.std.specs.Prelude.{◌==◌, ◌&&◌, not, is_some}
use Rattle.std.specs.List.{AllByRecursion, list_all}
use Rattle.std.proofs.lemmas.Bool.{cases_eq, eq-eqb, ne_eqb, le-leb}
use Rattle.std.proofs.lemmas.List.{length-append}
use Rattle.wl_elem.specs.Element.{ElementValue}
use Rattle.wl_elem.specs.ElementList.{Elems}
use Rattle.wl_mle.specs.declared.multi_link.MultiLink.TheVariants as elements
use Rattle.wl_mle.specs.MultiLink.{MlOf}
use Rattle.wl_assoc.specs.declared.links.LinkAsk.{LinkAsk}
use Rattle.wl_assoc.specs.Association.{AskOf}
use Rattle.wl_assoc.specs.Profiles.{is_basic, ask_of, AreDifferent, AsksAs, IsOnlyBasic, AllPass, profiles_from}
use Rattle.wl_setup.specs.declared.message.SetupAsk.{SetupAsk}
use Rattle.wl_setup.specs.Table.{entry_for, is_named}
use Rattle.wl_joining.specs.Joining.{other_links, for_each, mac_in, mac_on, basic_element, ask_basic, ask_body, AskFrom, AskIn}
use Rattle.wl_joining.specs.Written.{IsAsk, HaveNoMultiLink, link_profiles, ask_link_body, ask_multi_link, multi_link_element, ask_value}
use Rattle.wl_joining.proofs.Tables.{filled_all}
use Rattle.wl_joining.proofs.Links.{others_among, others_different, others_short, others_each}
use Rattle.wl_joining.proofs.Profiles.{IsLink, IsFixed, link_octets, items, are_subs, octets_short, same_links, entries_for, said, mac_found}
use Rattle.wl_joining.proofs.Elements.{elements_spelled, only_basic, info_same, where_there}

-- ---- what each profile says

all_addressed : (mac : ℕ → Option (List ℕ)) (body : ℕ → List ℕ) (outer : List ElementValue) (links : List ℕ) → AllByRecursion (λ link. is_some (mac link) ≡ true) links
    → list_all (λ a. is_some a.mac) (map ask_of (entries_for mac body false outer links)) ≡ true
all_addressed mac body outer [] are = refl
all_addressed mac body outer (link ∷ links) (is, are) =
    ap (λ (b : Bool). b && list_all (λ a. is_some a.mac) (map ask_of (entries_for mac body false outer links))) is ∙ all_addressed mac body outer links are

all_elsewhere : (mac : ℕ → Option (List ℕ)) (body : ℕ → List ℕ) (outer : List ElementValue) (on : ℕ) (links : List ℕ) → AllByRecursion (λ link. not (link == on) ≡ true) links
    → list_all (λ a. not (a.link == on)) (map ask_of (entries_for mac body false outer links)) ≡ true
all_elsewhere mac body outer on [] are = refl
all_elsewhere mac body outer on (link ∷ links) (is, are) =
    ap (λ (b : Bool). b && list_all (λ a. not (a.link == on)) (map ask_of (entries_for mac body false outer links))) is ∙ all_elsewhere mac body outer on links are

-- ---- the links that are asked for

module _ (ask : SetupAsk) (is : IsAsk ask) where
  abbrev links : List ℕ
  links = other_links ask.macs ask.on

  abbrev mac : ℕ → Option (List ℕ)
  mac = entry_for ask.macs

  are_links : AllByRecursion (IsLink mac ask_link_body) links
  are_links = others_each (IsLink mac ask_link_body) ask.macs ask.on (λ link low named other. record { low = low; address = is.addresses link; short = omega arith })

  are_fixed : AllByRecursion (IsFixed mac ask_link_body false) links
  are_fixed = others_each (IsFixed mac ask_link_body false) ask.macs ask.on (λ link low named other. record { whole = omega arith; empty = refl })

  -- ---- the Multi-Link element

  pub ask_short : length (ask_basic ask) ≤ 254
  ask_short = omega (arith, length-append ask.mld (for_each (link_octets mac ask_link_body) links), is.mld, octets_short mac ask_link_body links are_links, others_short ask.macs ask.on)

  pub ask_element : MlOf (elements.Basic (ask_multi_link ask)) (ask_basic ask)
  ask_element = record {
    is_value = record {
      word = omega arith;
      spare = refl;
      mld = is.mld;
      link = tt;
      free = tt;
      count = tt;
      sync = tt;
      eml = tt;
      caps = tt;
      apid = tt;
      ext = tt;
      short = omega (arith, is.mld, length-append ask.mld []);
      subs = are_subs mac ask_link_body links are_links;
    };
    subs = for_each (link_octets mac ask_link_body) links;
    cut = items mac ask_link_body links are_links;
    text = ap (λ (x : List ℕ). 0 ∷ 0 ∷ x) (sym (info_same ask.mld (for_each (link_octets mac ask_link_body) links) is.mld));
  }

  basic_here : is_basic (multi_link_element (ask_basic ask)) ≡ true
  basic_here = ap (λ (b : Bool). b && true) (le-leb 2 (length (ask_basic ask)) (omega arith))

  -- ---- the body

  pub ask_written : (list : List ElementValue) (octets : List ℕ) → Elems list octets → AskOf (ask_value list ask) (ask_body ask octets)
  ask_written list octets of = record {
    capability = omega arith;
    listen = omega arith;
    elems = octets ++ basic_element (ask_basic ask);
    list = elements_spelled list octets (ask_basic ask) of ask_short;
    text = refl;
  }

  -- ---- what is taken of it

  module _ (list : List ElementValue) where
    abbrev outer : List ElementValue
    outer = list ++ multi_link_element (ask_basic ask) ∷ []

    abbrev asks : List LinkAsk
    asks = map ask_of (entries_for mac ask_link_body false outer links)

    all_pass : AllPass false outer (profiles_from 0 (link_profiles mac ask_link_body links)) (entries_for mac ask_link_body false outer links)
    all_pass = record {
      each = said mac ask_link_body false outer 0 links are_fixed;
      different = subst AreDifferent (sym (same_links mac ask_link_body 0 links)) (others_different ask.macs ask.on);
    }

    module _ (none : HaveNoMultiLink list) where
      only : IsOnlyBasic outer (length list) (multi_link_element (ask_basic ask))
      only = only_basic list (multi_link_element (ask_basic ask)) none basic_here

      asks_said : AsksAs (ask_value list ask) (Ok asks)
      asks_said = (entries_for mac ask_link_body false outer links, (length list, multi_link_element (ask_basic ask), only, ask_multi_link ask, ask_element, all_pass), refl)

      same_entry : (address : List ℕ) → entry_for ask.macs ask.on ≡ Some address → (link : ℕ) → link < 15 → entry_for ask.macs link ≡ mac_on ask.on address asks link
      same_entry address there link low =
          elim (cases_eq link ask.on) [
            | inl same ↦ ap (entry_for ask.macs) same ∙ there ∙ sym (ap (λ (b : Bool). cond b (Some address) (mac_in asks link)) (eq-eqb link ask.on same))
            | inr other ↦
                let not_on = ne_eqb link ask.on other in
                sym (
                ap (λ (b : Bool). cond b (Some address) (mac_in asks link)) not_on
                ∙ mac_found mac ask_link_body outer links link
                ∙ ap (λ (b : Bool). cond b (entry_for ask.macs link) None) (others_among ask.macs ask.on link low)
                ∙ where_there (entry_for ask.macs link) (link == ask.on) not_on
                )
          ]

      pub ask_taken : (address : List ℕ) → entry_for ask.macs ask.on ≡ Some address → AskFrom ask.on address (ask_value list ask) ask
      ask_taken address there = record {
        asks = asks;
        said = asks_said;
        addressed = all_addressed mac ask_link_body outer links (others_each (λ link. is_named ask.macs link ≡ true) ask.macs ask.on (λ link low named other. named));
        elsewhere = all_elsewhere mac ask_link_body outer ask.on links (others_each (λ link. not (link == ask.on) ≡ true) ask.macs ask.on (λ link low named other. other));
        over = refl;
        mld = record { index = length list; element = multi_link_element (ask_basic ask); only = only; basic = ask_multi_link ask; value = ask_element; same = refl };
        macs = filled_all (mac_on ask.on address asks) ask.macs (record { whole = is.whole; below = same_entry address there });
      }

pub ask_again : (ask : SetupAsk) (list : List ElementValue) (octets address : List ℕ) → IsAsk ask → Elems list octets → HaveNoMultiLink list → entry_for ask.macs ask.on ≡ Some address → AskIn ask.on address (ask_body ask octets) ask
ask_again ask list octets address is of none there = (ask_value list ask, ask_written ask is list octets of, ask_taken ask is list none address there)

pub ask_bounded : (ask : SetupAsk) (octets : List ℕ) → IsAsk ask → length (ask_body ask octets) ≤ length octets + 261
ask_bounded ask octets is = omega (arith, length-append octets (basic_element (ask_basic ask)), ask_short ask is)
