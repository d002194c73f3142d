-- A value's body begins with its kind, and the value is made of what stands behind that.
use Rattle.std.proofs.Common.{◌≡◌, ℕ, suc, ◌+◌, ◌*◌, ◌/◌, ◌%◌, true, false, List, [], ◌∷◌, ◌++◌, length, drop, Option, Some, None, refl, sym, ap, ◌∙◌, arith}
use Rattle.std.specs.List.{AllByRecursion}
use Rattle.std.proofs.lemmas.Bool.{le-leb}
use Rattle.std.proofs.lemmas.List.{append-nil, length-append}
use Rattle.wl_elem.specs.Element.{ElementValue}
use Rattle.wl_elem.specs.Fields.{field}
use Rattle.wl_elem.specs.Bits.{has_bit}
use Rattle.wl_action.specs.declared.action.Action.{Action}
use Rattle.wl_action.specs.declared.action.Action.TheVariants.{MapAsk, MapReply, MapTeardown, Epcs, Eml, ReconfAsk, ReconfReply, AddBaAsk, AddBaReply, DelBa}
use Rattle.wl_action.specs.declared.code.Code.{Code}
use Rattle.wl_action.specs.declared.code.Code.TheVariants as kinds
use Rattle.wl_action.specs.declared.statuses.LinkStatus.{LinkStatus}
use Rattle.wl_action.specs.Action.{statuses, IsEml, ActionOf, has_elements, is_known, code_of, IsRead}
use Rattle.wl_action.specs.Reading.{statuses_in, made, IsMade, IsHead}
use Rattle.wl_action.specs.Writing.{kind_of}
use Rattle.wl_action.proofs.Table.{IsWhole, whole_free, epcs_coded}
use Rattle.wl_action.proofs.Words.{word_again, statuses_again, length-statuses, behind_statuses}
use Rattle.wl_action.proofs.Cuts.{total_entries}
use Rattle.wl_action.proofs.Parts.{one_or_two_are_right, one_link_is_right, have_values}

pub record IsOf (value : Action) (body : List ℕ) : Type 0 where
  pub action : ℕ
  pub rest : List ℕ
  pub head : IsHead body (kind_of value) action rest
  pub made_of : IsMade (has_elements (kind_of value)) (kind_of value) action rest value

-- a head whose fields are whole
head_of : (code : Code) (category action : ℕ) (rest body : List ℕ) → is_known category ≡ true → code_of category action ≡ Some code → IsWhole code rest → body ≡ category ∷ action ∷ rest → IsHead body code action rest
head_of code category action rest body known coded whole text = record { category = category; text = text; known = known; coded = coded; free = whole_free code rest whole }

-- no element of these kinds is decoded

pub untouched_ask : (list : List ElementValue) → AllByRecursion (IsRead kinds.AddBaAsk) list
untouched_ask [] = tt
untouched_ask (e ∷ list) = (tt, untouched_ask list)

pub untouched_reply : (list : List ElementValue) → AllByRecursion (IsRead kinds.AddBaReply) list
untouched_reply [] = tt
untouched_reply (e ∷ list) = (tt, untouched_reply list)

-- ---- each kind

abbrev ThreeWords : ℕ → ℕ → ℕ → List ℕ → List ℕ
ThreeWords a b c rest = a % 256 ∷ a / 256 % 256 ∷ b % 256 ∷ b / 256 % 256 ∷ c % 256 ∷ c / 256 % 256 ∷ rest

of_map_ask : (token : ℕ) (list : List ElementValue) (body : List ℕ) → ActionOf (MapAsk token list) body → IsOf (MapAsk token list) body
of_map_ask token list body of =
    let v = of.is_value in
    record {
      action = 0;
      rest = token ∷ of.elems;
      head = head_of kinds.MapAsk 37 0 _ body refl refl (record { fixed = omega arith; no_emlmr = refl; all = omega arith }) of.text;
      made_of = (list, record { elems = of.list; numbers = one_or_two_are_right list v.1 v.2; read = v.3 }, refl);
    }

of_map_reply : (token status : ℕ) (list : List ElementValue) (body : List ℕ) → ActionOf (MapReply token status list) body → IsOf (MapReply token status list) body
of_map_reply token status list body of =
    let v = of.is_value in
    record {
      action = 1;
      rest = token ∷ status % 256 ∷ status / 256 % 256 ∷ of.elems;
      head = head_of kinds.MapReply 37 1 _ body refl refl (record { fixed = omega arith; no_emlmr = refl; all = omega arith }) of.text;
      made_of = (list, record { elems = of.list; numbers = le-leb _ _ v.2; read = v.3 }, ap (λ (n : ℕ). MapReply token n list) (word_again status v.1));
    }

of_map_teardown : (rest body : List ℕ) → ActionOf (MapTeardown rest) body → IsOf (MapTeardown rest) body
of_map_teardown rest body of =
    let text : body ≡ 37 ∷ 2 ∷ rest = of.text ∙ ap (λ (x : List ℕ). 37 ∷ 2 ∷ rest ++ x) of.list ∙ append-nil (37 ∷ 2 ∷ rest) in
    record { action = 2; rest = rest; head = head_of kinds.MapTeardown 37 2 rest body refl refl (record { fixed = omega arith; no_emlmr = refl; all = omega arith }) text; made_of = refl }

of_epcs : (action : ℕ) (rest body : List ℕ) → ActionOf (Epcs action rest) body → IsOf (Epcs action rest) body
of_epcs action rest body of =
    let v = of.is_value in
    let text : body ≡ 37 ∷ action ∷ rest = of.text ∙ ap (λ (x : List ℕ). 37 ∷ action ∷ rest ++ x) of.list ∙ append-nil (37 ∷ action ∷ rest) in
    record { action = action; rest = rest; head = head_of kinds.Epcs 37 action rest body refl (epcs_coded action v.0 v.1) (record { fixed = omega arith; no_emlmr = refl; all = omega arith }) text; made_of = refl }

-- the fields of an EML notice
record IsNotice (token control : ℕ) (links update : Option ℕ) (tail : List ℕ) : Type 0 where
  whole : IsWhole kinds.Eml (token ∷ control ∷ (field 2 links ++ (field 1 update ++ tail)))
  same : Eml token control links update tail ≡ made kinds.Eml 6 (token ∷ control ∷ (field 2 links ++ (field 1 update ++ tail))) []

notice : (token control : ℕ) (links update : Option ℕ) (tail : List ℕ) → IsEml token control links update → IsNotice token control links update tail
notice token control None None tail is =
    let a : has_bit control 1 ≡ false = sym is.links_there in
    let b : has_bit control 4 ≡ false = sym is.update_there in
    record { whole = record { fixed = omega arith; no_emlmr = is.emlsr; all = rw (a, b) (omega arith) }; same = rw (a, b) refl }
notice token control None (Some m) tail is =
    let a : has_bit control 1 ≡ false = sym is.links_there in
    let b : has_bit control 4 ≡ true = sym is.update_there in
    let octet : m ≡ m % 256 = omega (arith, is.update_fits) in
    record { whole = record { fixed = omega arith; no_emlmr = is.emlsr; all = rw (a, b) (omega arith) }; same = rw (a, b) (ap (λ (n : ℕ). Eml token control None (Some n) tail) octet) }
notice token control (Some n) None tail is =
    let a : has_bit control 1 ≡ true = sym is.links_there in
    let b : has_bit control 4 ≡ false = sym is.update_there in
    record { whole = record { fixed = omega arith; no_emlmr = is.emlsr; all = rw (a, b) (omega arith) }; same = rw (a, b) (ap (λ (k : ℕ). Eml token control (Some k) None tail) (word_again n is.links_fit)) }
notice token control (Some n) (Some m) tail is =
    let a : has_bit control 1 ≡ true = sym is.links_there in
    let b : has_bit control 4 ≡ true = sym is.update_there in
    let octet : m ≡ m % 256 = omega (arith, is.update_fits) in
    record {
      whole = record { fixed = omega arith; no_emlmr = is.emlsr; all = rw (a, b) (omega arith) };
      same = rw (a, b) (ap (λ (k : ℕ). Eml token control (Some k) (Some m) tail) (word_again n is.links_fit) ∙ ap (λ (k : ℕ). Eml token control (Some (n % 256 + 256 * (n / 256 % 256))) (Some k) tail) octet);
    }

of_eml : (token control : ℕ) (links update : Option ℕ) (tail body : List ℕ) → ActionOf (Eml token control links update tail) body → IsOf (Eml token control links update tail) body
of_eml token control links update tail body of =
    let rest = token ∷ control ∷ (field 2 links ++ (field 1 update ++ tail)) in
    let is = notice token control links update tail of.is_value in
    let text : body ≡ 37 ∷ 6 ∷ rest = of.text ∙ ap (λ (x : List ℕ). 37 ∷ 6 ∷ rest ++ x) of.list ∙ append-nil (37 ∷ 6 ∷ rest) in
    record { action = 6; rest = rest; head = head_of kinds.Eml 37 6 rest body refl refl is.whole text; made_of = is.same }

of_reconf_ask : (token : ℕ) (list : List ElementValue) (body : List ℕ) → ActionOf (ReconfAsk token list) body → IsOf (ReconfAsk token list) body
of_reconf_ask token list body of =
    let v = of.is_value in
    record {
      action = 11;
      rest = token ∷ of.elems;
      head = head_of kinds.ReconfAsk 37 11 _ body refl refl (record { fixed = omega arith; no_emlmr = refl; all = omega arith }) of.text;
      made_of = (list, record { elems = of.list; numbers = one_link_is_right list v.1 v.2; read = have_values list v.2 }, refl);
    }

of_reconf_reply : (token : ℕ) (list : List LinkStatus) (tail body : List ℕ) → ActionOf (ReconfReply token list tail) body → IsOf (ReconfReply token list tail) body
of_reconf_reply token list tail body of =
    let v = of.is_value in
    let count = length list in
    let entries = statuses list ++ tail in
    let rest = token ∷ count ∷ entries in
    let text : body ≡ 37 ∷ 12 ∷ rest = of.text ∙ ap (λ (x : List ℕ). 37 ∷ 12 ∷ rest ++ x) of.list ∙ append-nil (37 ∷ 12 ∷ rest) in
    let all = total_entries count in
    let len = length-statuses list in
    let two : 2 + 3 * count ≡ suc (suc (3 * count)) = omega arith in
    record {
      action = 12;
      rest = rest;
      head = head_of kinds.ReconfReply 37 12 rest body refl refl (record { fixed = omega arith; no_emlmr = refl; all = omega (arith, all, len, length-append (statuses list) tail) }) text;
      made_of = ap (λ (x : List LinkStatus). ReconfReply token x tail) (sym (statuses_again list tail v.2)) ∙ ap (λ (x : List ℕ). ReconfReply token (statuses_in count entries) x) (sym (ap (λ (n : ℕ). drop n rest) two ∙ behind_statuses list tail));
    }

of_add_ba_ask : (token params timeout start : ℕ) (list : List ElementValue) (body : List ℕ) → ActionOf (AddBaAsk token params timeout start list) body → IsOf (AddBaAsk token params timeout start list) body
of_add_ba_ask token params timeout start list body of =
    let v = of.is_value in
    let a = word_again params v.1 in
    let b = word_again timeout v.2 in
    let c = word_again start v.3 in
    record {
      action = 0;
      rest = token ∷ ThreeWords params timeout start of.elems;
      head = head_of kinds.AddBaAsk 3 0 _ body refl refl (record { fixed = omega arith; no_emlmr = refl; all = omega arith }) of.text;
      made_of = (list, record { elems = of.list; numbers = refl; read = untouched_ask list }, cc);
    }

of_add_ba_reply : (token status params timeout : ℕ) (list : List ElementValue) (body : List ℕ) → ActionOf (AddBaReply token status params timeout list) body → IsOf (AddBaReply token status params timeout list) body
of_add_ba_reply token status params timeout list body of =
    let v = of.is_value in
    let a = word_again status v.1 in
    let b = word_again params v.2 in
    let c = word_again timeout v.3 in
    record {
      action = 1;
      rest = token ∷ ThreeWords status params timeout of.elems;
      head = head_of kinds.AddBaReply 3 1 _ body refl refl (record { fixed = omega arith; no_emlmr = refl; all = omega arith }) of.text;
      made_of = (list, record { elems = of.list; numbers = refl; read = untouched_reply list }, cc);
    }

of_del_ba : (params reason : ℕ) (tail body : List ℕ) → ActionOf (DelBa params reason tail) body → IsOf (DelBa params reason tail) body
of_del_ba params reason tail body of =
    let v = of.is_value in
    let a = word_again params v.0 in
    let b = word_again reason v.1 in
    let rest = params % 256 ∷ params / 256 % 256 ∷ reason % 256 ∷ reason / 256 % 256 ∷ tail in
    let text : body ≡ 3 ∷ 2 ∷ rest = of.text ∙ ap (λ (x : List ℕ). 3 ∷ 2 ∷ rest ++ x) of.list ∙ append-nil (3 ∷ 2 ∷ rest) in
    record { action = 2; rest = rest; head = head_of kinds.DelBa 3 2 rest body refl refl (record { fixed = omega arith; no_emlmr = refl; all = omega arith }) text; made_of = cc }

pub is_of : (value : Action) (body : List ℕ) → ActionOf value body → IsOf value body
is_of (MapAsk token list) body of = of_map_ask token list body of
is_of (MapReply token status list) body of = of_map_reply token status list body of
is_of (MapTeardown rest) body of = of_map_teardown rest body of
is_of (Epcs action rest) body of = of_epcs action rest body of
is_of (Eml token control links update rest) body of = of_eml token control links update rest body of
is_of (ReconfAsk token list) body of = of_reconf_ask token list body of
is_of (ReconfReply token list rest) body of = of_reconf_reply token list rest body of
is_of (AddBaAsk token params timeout start list) body of = of_add_ba_ask token params timeout start list body of
is_of (AddBaReply token status params timeout list) body of = of_add_ba_reply token status params timeout list body of
is_of (DelBa params reason rest) body of = of_del_ba params reason rest body of
