-- A written response is read as it was.
use Rattle.std.proofs.Common.{◌≡◌, ℕ, suc, ◌+◌, ◌/◌, ◌%◌, ◌<◌, ◌≤◌, Bool, true, false, cond, List, [], ◌∷◌, ◌++◌, length, map, Option, Some, None, Ok, IfSome, refl, sym, ap, subst, ◌∙◌, arith, inl, inr, append_assoc}
use Rattle.std.specs.Prelude.{◌==◌, ◌&&◌, not, is_some}
use Rattle.std.specs.List.{AllByRecursion, list_all}
use Rattle.std.proofs.lemmas.Bool.{cases_eq, eq-eqb, ne_eqb, le-leb}
use Rattle.std.proofs.lemmas.List.{append-nil, length-append}
use Rattle.wl_elem.specs.Element.{ElementValue}
use Rattle.wl_mle.specs.declared.multi_link.MultiLink.TheVariants as elements
use Rattle.wl_mle.specs.MultiLink.{MlOf}
use Rattle.wl_assoc.specs.declared.links.LinkState.{LinkState}
use Rattle.wl_assoc.specs.Association.{ReplyOf}
use Rattle.wl_assoc.specs.Profiles.{is_basic, status_of, state_of, AreDifferent, StatesAs, IsOnlyBasic, AllPass, profiles_from}
use Rattle.wl_setup.specs.declared.message.SetupReply.{SetupReply}
use Rattle.wl_setup.specs.Table.{entry_for}
use Rattle.wl_joining.specs.Joining.{other_links, for_each, number_of, status_for, status_in, basic_element, reply_basic, reply_body, ReplyFrom, ReplyIn}
use Rattle.wl_joining.specs.Written.{IsReply, link_profiles, reply_link_body, reply_multi_link, multi_link_element, reply_value}
use Rattle.wl_joining.proofs.Tables.{filled_all}
use Rattle.wl_joining.proofs.Links.{others_among, others_different, others_short, others_each}
use Rattle.wl_joining.proofs.Profiles.{IsLink, IsFixed, link_octets, items, are_subs, octets_short, same_links, entries_for, said, status_said, status_found}
use Rattle.wl_joining.proofs.Elements.{elements_spelled, only_basic}

-- ---- statuses

number_below : (entry : Option ℕ) → IfSome entry (λ status. status < 65536) → number_of entry < 65536
number_below None low = omega arith
number_below (Some n) low = low

number_is : (entry : Option ℕ) → is_some entry ≡ true → entry ≡ Some (number_of entry)
number_is None is = absurd (cc is)
number_is (Some n) is = refl

-- the status of another link, where there is one
where_said : (entry : Option ℕ) (here : Bool) → here ≡ false → IfSome entry (λ status. status < 65536)
    → cond (is_some entry && not here) (Some (status_of true (0 ∷ 0 ∷ number_of entry % 256 ∷ number_of entry / 256 % 256 ∷ []))) None ≡ entry
where_said None here isnt low = refl
where_said (Some n) here isnt low =
    ap (λ (b : Bool). cond (not b) (Some (status_of true (0 ∷ 0 ∷ n % 256 ∷ n / 256 % 256 ∷ []))) None) isnt
    ∙ ap (λ (m : ℕ). Some m) (omega (arith, low))

all_elsewhere : (mac : ℕ → Option (List ℕ)) (body : ℕ → List ℕ) (outer : List ElementValue) (on : ℕ) (links : List ℕ) → AllByRecursion (λ link. not (link == on) ≡ true) links
    → list_all (λ s. not (s.link == on)) (map state_of (entries_for mac body true outer links)) ≡ true
all_elsewhere mac body outer on [] are = refl
all_elsewhere mac body outer on (link ∷ links) (is, are) =
    ap (λ (b : Bool). b && list_all (λ s. not (s.link == on)) (map state_of (entries_for mac body true outer links))) is ∙ all_elsewhere mac body outer on links are

-- Common Info with the link
info_with : (mld subs : List ℕ) (on : ℕ) → on < 15 → length mld ≡ 6
    → suc (length (mld ++ on % 256 ∷ []) + 0) ∷ (((mld ++ on % 256 ∷ []) ++ []) ++ subs) ≡ 8 ∷ (mld ++ on ∷ subs)
info_with mld subs on low six =
    let fields = mld ++ on % 256 ∷ [] in
    ap (λ (n : ℕ). n ∷ ((fields ++ []) ++ subs)) (omega (arith, length-append mld (on % 256 ∷ [])))
    ∙ ap (λ (x : List ℕ). 8 ∷ (x ++ subs)) (append-nil fields)
    ∙ ap (λ (x : List ℕ). 8 ∷ x) (append_assoc mld (on % 256 ∷ []) subs)
    ∙ ap (λ (n : ℕ). 8 ∷ (mld ++ n ∷ subs)) (omega arith)

-- ---- the links that are answered

module _ (mld : List ℕ) (macs : List (Option (List ℕ))) (reply : SetupReply) (is : IsReply mld macs reply) where
  abbrev links : List ℕ
  links = other_links reply.status reply.on

  abbrev mac : ℕ → Option (List ℕ)
  mac = entry_for macs

  abbrev body : ℕ → List ℕ
  body = reply_link_body reply.status

  are_links : AllByRecursion (IsLink mac body) links
  are_links = others_each (IsLink mac body) reply.status reply.on (λ link low named other. record { low = low; address = is.addresses link; short = omega arith })

  are_fixed : AllByRecursion (IsFixed mac body true) links
  are_fixed = others_each (IsFixed mac body true) reply.status reply.on (λ link low named other. record { whole = omega arith; empty = refl })

  -- ---- the Multi-Link element

  pub reply_short : length (reply_basic mld macs reply) ≤ 254
  reply_short = omega (arith, length-append mld (reply.on ∷ for_each (link_octets mac body) links), is.address, octets_short mac body links are_links, others_short reply.status reply.on)

  free : reply.on % 16 ≡ 15 → ⊥
  free e = let low : reply.on < 15 = is.on in omega (arith, e)

  pub reply_element : MlOf (elements.Basic (reply_multi_link mld macs reply)) (reply_basic mld macs reply)
  reply_element = record {
    is_value = record {
      word = omega arith;
      spare = refl;
      mld = is.address;
      link = omega (arith, is.on);
      free = free;
      count = tt;
      sync = tt;
      eml = tt;
      caps = tt;
      apid = tt;
      ext = tt;
      short = omega (arith, is.address, length-append mld (reply.on % 256 ∷ []));
      subs = are_subs mac body links are_links;
    };
    subs = for_each (link_octets mac body) links;
    cut = items mac body links are_links;
    text = ap (λ (x : List ℕ). 0x10 ∷ 0 ∷ x) (sym (info_with mld (for_each (link_octets mac body) links) reply.on is.on is.address));
  }

  basic_here : is_basic (multi_link_element (reply_basic mld macs reply)) ≡ true
  basic_here = ap (λ (b : Bool). b && true) (le-leb 2 (length (reply_basic mld macs reply)) (omega arith))

  -- ---- the body

  pub reply_written : ReplyOf (reply_value mld macs reply) (reply_body mld macs reply)
  reply_written = record {
    capability = omega arith;
    status = number_below (entry_for reply.status reply.on) (is.statuses reply.on);
    aid = omega arith;
    elems = basic_element (reply_basic mld macs reply);
    list = elements_spelled [] [] (reply_basic mld macs reply) refl reply_short;
    text = refl;
  }

  -- ---- what is taken of it

  abbrev outer : List ElementValue
  outer = multi_link_element (reply_basic mld macs reply) ∷ []

  abbrev others : List LinkState
  others = map state_of (entries_for mac body true outer links)

  abbrev states : List LinkState
  states = record { link = reply.on; capability = 0; status = status_for reply.status reply.on } ∷ others

  all_pass : AllPass true outer (profiles_from 0 (link_profiles mac body links)) (entries_for mac body true outer links)
  all_pass = record {
    each = said mac body true outer 0 links are_fixed;
    different = subst AreDifferent (sym (same_links mac body 0 links)) (others_different reply.status reply.on);
  }

  only : IsOnlyBasic outer 0 (multi_link_element (reply_basic mld macs reply))
  only = only_basic [] (multi_link_element (reply_basic mld macs reply)) tt basic_here

  states_said : StatesAs (reply_value mld macs reply) reply.on (Ok states)
  states_said = (entries_for mac body true outer links, (0, multi_link_element (reply_basic mld macs reply), only, reply_multi_link mld macs reply, reply_element, all_pass), refl)

  same_entry : (link : ℕ) → link < 15 → entry_for reply.status link ≡ status_in states link
  same_entry link low =
      let own : Option ℕ = Some (status_for reply.status reply.on) in
      elim (cases_eq reply.on link) [
        | inl same ↦
            ap (entry_for reply.status) (sym same)
            ∙ number_is (entry_for reply.status reply.on) is.named
            ∙ sym (ap (λ (b : Bool). cond b own (status_in others link)) (eq-eqb reply.on link same))
        | inr other ↦
            sym (
            ap (λ (b : Bool). cond b own (status_in others link)) (ne_eqb reply.on link other)
            ∙ status_found mac body outer links link
            ∙ ap (λ (b : Bool). cond b (status_said mac body link) None) (others_among reply.status reply.on link low)
            ∙ where_said (entry_for reply.status link) (link == reply.on) (ne_eqb link reply.on (λ e. other (sym e))) (is.statuses link)
            )
      ]

  pub reply_taken : ReplyFrom reply.on (reply_value mld macs reply) reply
  reply_taken = record {
    states = states;
    said = states_said;
    elsewhere = all_elsewhere mac body outer reply.on links (others_each (λ link. not (link == reply.on) ≡ true) reply.status reply.on (λ link low named other. other));
    over = refl;
    status = filled_all (status_in states) reply.status (record { whole = is.whole; below = same_entry });
  }

pub reply_again : (mld : List ℕ) (macs : List (Option (List ℕ))) (reply : SetupReply) → IsReply mld macs reply → ReplyIn reply.on (reply_body mld macs reply) reply
reply_again mld macs reply is = (reply_value mld macs reply, reply_written mld macs reply is, reply_taken mld macs reply is)

pub reply_bounded : (mld : List ℕ) (macs : List (Option (List ℕ))) (reply : SetupReply) → IsReply mld macs reply → length (reply_body mld macs reply) ≤ 263
reply_bounded mld macs reply is = omega (arith, reply_short mld macs reply is)
