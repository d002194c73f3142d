-- The profiles that are written, and what they say.
use Rattle.std.proofs.Common.{◌≡◌, ℕ, suc, ◌+◌, ◌*◌, ◌/◌, ◌%◌, ◌<◌, ◌≤◌, Bool, true, false, cond, List, [], ◌∷◌, ◌++◌, length, drop, map, Option, Some, None, IfSome, refl, sym, ap, ◌∙◌, arith, inr}
use Rattle.std.specs.Prelude.{◌==◌, ◌||◌}
use Rattle.std.specs.List.{AllByRecursion}
use Rattle.std.proofs.lemmas.Bool.{eqb-true}
use Rattle.std.proofs.lemmas.List.{append-nil, length-append}
use Rattle.wl_elem.specs.declared.kind.ListKind.TheVariants.{Subelements}
use Rattle.wl_elem.specs.Element.{ElementValue}
use Rattle.wl_elem.specs.Items.{Items, SpellsItem}
use Rattle.wl_mle.specs.Layout.{profile_control}
use Rattle.wl_mle.specs.MultiLink.{IsAddress, IsProfile, IsBasicSub, profile_text, subelement, basic_sub}
use Rattle.wl_inherit.specs.Inheritance.{expanded}
use Rattle.wl_assoc.specs.declared.profiles.LinkEntry.{LinkEntry}
use Rattle.wl_assoc.specs.Profiles.{fixed_len, status_of, entry, ask_of, state_of, profiles_from, links_in, is_among, SaidBy}
use Rattle.wl_joining.specs.Joining.{for_each, profile, station_info, mac_in, status_in}
use Rattle.wl_joining.specs.Written.{link_profile, link_profiles}

-- ---- one profile

text_none : (link : ℕ) (body : List ℕ) → link < 15 → profile_text (link_profile link None body) ≡ station_info link None ++ body
text_none link body low =
    let control = profile_control (link_profile link None body) in
    let first : control % 256 ≡ link + 0x10 = omega arith in
    let second : control / 256 % 256 ≡ 0 = omega arith in
    ap (λ (n : ℕ). n ∷ control / 256 % 256 ∷ 1 ∷ body) first ∙ ap (λ (n : ℕ). (link + 0x10) ∷ n ∷ 1 ∷ body) second

text_some : (link : ℕ) (mac body : List ℕ) → link < 15 → length mac ≡ 6 → profile_text (link_profile link (Some mac) body) ≡ station_info link (Some mac) ++ body
text_some link mac body low six =
    let control = profile_control (link_profile link (Some mac) body) in
    let first : control % 256 ≡ link + 0x30 = omega arith in
    let second : control / 256 % 256 ≡ 0 = omega arith in
    let whole = append-nil mac in
    let info = λ (x : List ℕ). suc (length x + 0) ∷ (x ++ []) ++ body in
    ap (λ (n : ℕ). n ∷ control / 256 % 256 ∷ info (mac ++ [])) first
    ∙ ap (λ (n : ℕ). (link + 0x30) ∷ n ∷ info (mac ++ [])) second
    ∙ ap (λ (x : List ℕ). (link + 0x30) ∷ 0 ∷ info x) whole
    ∙ ap (λ (x : List ℕ). (link + 0x30) ∷ 0 ∷ suc (length mac + 0) ∷ x ++ body) whole
    ∙ ap (λ (n : ℕ). (link + 0x30) ∷ 0 ∷ n ∷ mac ++ body) (omega arith)

pub profile_spelled : (link : ℕ) (mac : Option (List ℕ)) (body : List ℕ) → link < 15 → IfSome mac IsAddress → profile_text (link_profile link mac body) ≡ station_info link mac ++ body
profile_spelled link None body low is = text_none link body low
profile_spelled link (Some mac) body low is = text_some link mac body low is

info_short : (link : ℕ) (mac : Option (List ℕ)) → IfSome mac IsAddress → length (station_info link mac) ≤ 9
info_short link None is = omega arith
info_short link (Some mac) is = omega (arith, is)

pub content_short : (link : ℕ) (mac : Option (List ℕ)) (body : List ℕ) → IfSome mac IsAddress → length body ≤ 4 → length (station_info link mac ++ body) ≤ 13
content_short link mac body is short = omega (arith, length-append (station_info link mac) body, info_short link mac is)

pub is_profile : (link : ℕ) (mac : Option (List ℕ)) (body : List ℕ) → link < 15 → IfSome mac IsAddress → IsProfile (link_profile link mac body)
is_profile link None body low is = record { link = low; spare = omega arith; mac = tt; beacon = tt; tsf = tt; dtim = tt; nstr = tt; nstr_there = refl; count = tt; short = omega arith }
is_profile link (Some mac) body low is = record { link = low; spare = omega arith; mac = is; beacon = tt; tsf = tt; dtim = tt; nstr = tt; nstr_there = refl; count = tt; short = omega (arith, is, length-append mac []) }

-- a short subelement is one piece
spells_short : (content text : List ℕ) → text ≡ content → length content ≤ 255 → SpellsItem Subelements (subelement 0 text) (profile content)
spells_short content text same short = record {
  fresh = λ e. omega (arith, e);
  extended = λ e. absurd (cc e);
  written = record { parts = content ∷ []; cut = short; whole = append-nil content ∙ sym same; written = sym (append-nil (profile content)) };
}

-- ---- the profiles of some links

module _ (mac : ℕ → Option (List ℕ)) (body : ℕ → List ℕ) where
  pub record IsLink (link : ℕ) : Type 0 where
    pub low : link < 15
    pub address : IfSome (mac link) IsAddress
    pub short : length (body link) ≤ 4

  abbrev pub link_octets : ℕ → List ℕ
  link_octets link = profile (station_info link (mac link) ++ body link)

  pub items : (links : List ℕ) → AllByRecursion IsLink links → Items Subelements (map basic_sub (link_profiles mac body links)) (for_each link_octets links)
  items [] are = refl
  items (link ∷ links) (is, are) =
      let content = station_info link (mac link) ++ body link in
      let same = profile_spelled link (mac link) (body link) is.low is.address in
      let short = content_short link (mac link) (body link) is.address is.short in
      (link_octets link, for_each link_octets links, refl, spells_short content _ same (omega (arith, short)), items links are)

  pub are_subs : (links : List ℕ) → AllByRecursion IsLink links → AllByRecursion IsBasicSub (link_profiles mac body links)
  are_subs [] are = tt
  are_subs (link ∷ links) (is, are) = (is_profile link (mac link) (body link) is.low is.address, are_subs links are)

  pub octets_short : (links : List ℕ) → AllByRecursion IsLink links → length (for_each link_octets links) ≤ 15 * length links
  octets_short [] are = omega arith
  octets_short (link ∷ links) (is, are) =
      omega (arith, length-append (link_octets link) (for_each link_octets links), content_short link (mac link) (body link) is.address is.short, octets_short links are)

  pub same_links : (j : ℕ) (links : List ℕ) → links_in (profiles_from j (link_profiles mac body links)) ≡ links
  same_links j [] = refl
  same_links j (link ∷ links) = ap (λ (x : List ℕ). link ∷ x) (same_links (suc j) links)

  -- ---- what they say

  abbrev pub entries_for : Bool → List ElementValue → List ℕ → List LinkEntry
  entries_for response outer [] = []
  entries_for response outer (link ∷ links) = entry response (link_profile link (mac link) (body link)) (expanded [] outer []) ∷ entries_for response outer links

  -- the body has its fixed fields and no elements
  pub record IsFixed (response : Bool) (link : ℕ) : Type 0 where
    pub whole : fixed_len response ≤ length (body link)
    pub empty : drop (fixed_len response) (body link) ≡ []

  pub said : (response : Bool) (outer : List ElementValue) (j : ℕ) (links : List ℕ) → AllByRecursion (IsFixed response) links
      → SaidBy response outer (profiles_from j (link_profiles mac body links)) (entries_for response outer links)
  said response outer j [] are = tt
  said response outer j (link ∷ links) (is, are) = (inr (is.whole, inr ([], is.empty, ([], refl, refl))), refl, said response outer (suc j) links are)

  found_by : {A : Type 0} (value : ℕ → Option A) (link x : ℕ) (rest : Option A) (more : Bool) (b : Bool) → (link == x) ≡ b → rest ≡ cond more (value x) None → cond b (value link) rest ≡ cond (b || more) (value x) None
  found_by value link x rest more true is same = ap value (eqb-true link x is)
  found_by value link x rest more false is same = same

  pub mac_found : (outer : List ElementValue) (links : List ℕ) (x : ℕ) → mac_in (map ask_of (entries_for false outer links)) x ≡ cond (is_among x links) (mac x) None
  mac_found outer [] x = refl
  mac_found outer (link ∷ links) x = found_by mac link x (mac_in (map ask_of (entries_for false outer links)) x) (is_among x links) (link == x) refl (mac_found outer links x)

  abbrev pub status_said : ℕ → Option ℕ
  status_said link = Some (status_of true (body link))

  pub status_found : (outer : List ElementValue) (links : List ℕ) (x : ℕ) → status_in (map state_of (entries_for true outer links)) x ≡ cond (is_among x links) (status_said x) None
  status_found outer [] x = refl
  status_found outer (link ∷ links) x = found_by status_said link x (status_in (map state_of (entries_for true outer links)) x) (is_among x links) (link == x) refl (status_found outer links x)
