-- The value that is made of the fields has them as its front, and what has this front is made of it.
use Rattle.std.proofs.Common.{◌≡◌, ℕ, ◌+◌, ◌*◌, ◌/◌, ◌%◌, ◌<◌, ◌≤◌, List, [], ◌∷◌, ◌++◌, length, drop, get_or, refl, sym, ap, ◌∙◌, arith, length-drop}
use Rattle.std.proofs.lemmas.Bool.{leb-true}
use Rattle.std.proofs.lemmas.List.{append-nil, drop-drop}
use Rattle.wl_elem.specs.Element.{ElementValue}
use Rattle.wl_elem.specs.Fields.{field, word_at}
use Rattle.wl_elem.proofs.Octets.{IsOctets, IsOctets-drop}
use Rattle.wl_elem.proofs.Numbers.{octet_below}
use Rattle.wl_elem.specs.Bits.{has_bit}
use Rattle.wl_action.specs.declared.action.Action.{Action}
use Rattle.wl_action.specs.declared.action.Action.TheVariants.{MapAsk, MapReply, MapTeardown, Epcs, ReconfAsk, AddBaAsk, AddBaReply, DelBa}
use Rattle.wl_action.specs.declared.code.Code.{Code}
use Rattle.wl_action.specs.declared.code.Code.TheVariants as kinds
use Rattle.wl_action.specs.Action.{front, statuses, ActionOf, has_elements}
use Rattle.wl_action.specs.Reading.{some_if, statuses_in, links_width, update_width, made, IsListed, IsMade}
use Rattle.wl_action.proofs.Table.{IsCoded, IsWhole}
use Rattle.wl_action.proofs.Words.{word_fits, octet_here, word_here, word_if_here, octet_if_here, some_if-there, Fits-some_if, statuses_here}
use Rattle.wl_action.proofs.Cuts.{total_entries}
use Rattle.wl_action.proofs.Parts.{one_or_two, one_link, all_of_type}

-- ---- the fields of a kind, read from octets

token_and : (rest : List ℕ) → 1 ≤ length rest → rest ≡ get_or rest 0 0 ∷ drop 1 rest
token_and rest le = octet_here rest 0 1 refl (omega arith)

word_and : (rest : List ℕ) (i n : ℕ) → n ≡ i + 2 → IsOctets rest → n ≤ length rest → drop i rest ≡ word_at rest i % 256 ∷ word_at rest i / 256 % 256 ∷ drop n rest
word_and rest i n e is le = word_here rest i n e is (omega arith)

cells : (a b : ℕ) (x y : List ℕ) → x ≡ y → a ∷ b ∷ x ≡ a ∷ b ∷ y
cells a b x y e = ap (λ (l : List ℕ). a ∷ b ∷ l) e

three_words : (rest : List ℕ) → IsOctets rest → 7 ≤ length rest → rest ≡ get_or rest 0 0 ∷ (word_at rest 1 % 256 ∷ word_at rest 1 / 256 % 256 ∷ (word_at rest 3 % 256 ∷ word_at rest 3 / 256 % 256 ∷ (word_at rest 5 % 256 ∷ word_at rest 5 / 256 % 256 ∷ drop 7 rest)))
three_words rest is le =
    let a = word_and rest 1 3 refl is (omega arith) in
    let b = word_and rest 3 5 refl is (omega arith) in
    let c = word_and rest 5 7 refl is le in
    token_and rest (omega arith) ∙ ap (λ (l : List ℕ). get_or rest 0 0 ∷ l) (a ∙ cells _ _ _ _ (b ∙ cells _ _ _ _ c))

two_words : (rest : List ℕ) → IsOctets rest → 4 ≤ length rest → rest ≡ word_at rest 0 % 256 ∷ word_at rest 0 / 256 % 256 ∷ (word_at rest 2 % 256 ∷ word_at rest 2 / 256 % 256 ∷ drop 4 rest)
two_words rest is le = word_and rest 0 2 refl is (omega arith) ∙ cells _ _ _ _ (word_and rest 2 4 refl is le)

-- ---- the value of each kind has its fields as its front

from_map_ask : (rest : List ℕ) (list : List ElementValue) → IsOctets rest → 1 ≤ length rest → IsListed kinds.MapAsk (drop 1 rest) list → ActionOf (MapAsk (get_or rest 0 0) list) (37 ∷ 0 ∷ rest)
from_map_ask rest list is le l =
    let n = one_or_two list l.numbers in
    record { is_value = (octet_below rest 0 is, n.0, n.1, l.read); elems = drop 1 rest; list = l.elems; text = cells 37 0 _ _ (token_and rest le) }

from_map_reply : (rest : List ℕ) (list : List ElementValue) → IsOctets rest → 3 ≤ length rest → IsListed kinds.MapReply (drop 3 rest) list → ActionOf (MapReply (get_or rest 0 0) (word_at rest 1) list) (37 ∷ 1 ∷ rest)
from_map_reply rest list is le l =
    record {
      is_value = (octet_below rest 0 is, word_fits rest 1 is, leb-true _ _ l.numbers, l.read);
      elems = drop 3 rest;
      list = l.elems;
      text = cells 37 1 _ _ (token_and rest (omega arith) ∙ ap (λ (x : List ℕ). get_or rest 0 0 ∷ x) (word_and rest 1 3 refl is le));
    }

from_reconf_ask : (rest : List ℕ) (list : List ElementValue) → IsOctets rest → 1 ≤ length rest → IsListed kinds.ReconfAsk (drop 1 rest) list → ActionOf (ReconfAsk (get_or rest 0 0) list) (37 ∷ 11 ∷ rest)
from_reconf_ask rest list is le l =
    let n = one_link list l.numbers in
    record { is_value = (octet_below rest 0 is, n.0, all_of_type list n.1 l.read); elems = drop 1 rest; list = l.elems; text = cells 37 11 _ _ (token_and rest le) }

from_add_ba_ask : (rest : List ℕ) (list : List ElementValue) → IsOctets rest → 7 ≤ length rest → IsListed kinds.AddBaAsk (drop 7 rest) list → ActionOf (AddBaAsk (get_or rest 0 0) (word_at rest 1) (word_at rest 3) (word_at rest 5) list) (3 ∷ 0 ∷ rest)
from_add_ba_ask rest list is le l =
    record { is_value = (octet_below rest 0 is, word_fits rest 1 is, word_fits rest 3 is, word_fits rest 5 is); elems = drop 7 rest; list = l.elems; text = cells 3 0 _ _ (three_words rest is le) }

from_add_ba_reply : (rest : List ℕ) (list : List ElementValue) → IsOctets rest → 7 ≤ length rest → IsListed kinds.AddBaReply (drop 7 rest) list → ActionOf (AddBaReply (get_or rest 0 0) (word_at rest 1) (word_at rest 3) (word_at rest 5) list) (3 ∷ 1 ∷ rest)
from_add_ba_reply rest list is le l =
    record { is_value = (octet_below rest 0 is, word_fits rest 1 is, word_fits rest 3 is, word_fits rest 5 is); elems = drop 7 rest; list = l.elems; text = cells 3 1 _ _ (three_words rest is le) }

from_map_teardown : (rest : List ℕ) → ActionOf (MapTeardown rest) (37 ∷ 2 ∷ rest)
from_map_teardown rest = record { is_value = tt; elems = []; list = refl; text = sym (append-nil (37 ∷ 2 ∷ rest)) }

from_epcs : (action : ℕ) (rest : List ℕ) → 3 ≤ action → action ≤ 5 → ActionOf (Epcs action rest) (37 ∷ action ∷ rest)
from_epcs action rest low high = record { is_value = (low, high); elems = []; list = refl; text = sym (append-nil (37 ∷ action ∷ rest)) }

from_del_ba : (rest : List ℕ) → IsOctets rest → 4 ≤ length rest → ActionOf (DelBa (word_at rest 0) (word_at rest 2) (drop 4 rest)) (3 ∷ 2 ∷ rest)
from_del_ba rest is le =
    record { is_value = (word_fits rest 0 is, word_fits rest 2 is); elems = []; list = refl; text = cells 3 2 _ _ (two_words rest is le) ∙ sym (append-nil (front (DelBa (word_at rest 0) (word_at rest 2) (drop 4 rest)))) }

from_eml : (rest : List ℕ) → IsOctets rest → IsWhole kinds.Eml rest → ActionOf (made kinds.Eml 6 rest []) (37 ∷ 6 ∷ rest)
from_eml rest is whole =
    let control = get_or rest 1 0 in
    let there = has_bit control 1 in
    let there' = has_bit control 4 in
    let links = some_if there (word_at rest 2) in
    let at = 2 + links_width rest in
    let update = some_if there' (get_or rest at 0) in
    let end = at + update_width rest in
    let room : end ≤ length rest = omega (arith, whole.all) in
    let one = token_and rest (omega arith) in
    let two = octet_here rest 1 2 refl (omega arith) in
    let three = word_if_here there rest 2 is (omega arith) in
    let four = octet_if_here there' rest at is room in
    let text : rest ≡ get_or rest 0 0 ∷ control ∷ (field 2 links ++ (field 1 update ++ drop end rest)) =
    one ∙ ap (λ (x : List ℕ). get_or rest 0 0 ∷ x) (two ∙ ap (λ (x : List ℕ). control ∷ x) (three ∙ ap (λ (x : List ℕ). field 2 links ++ x) four)) in
    record {
      is_value = record {
        token_fits = octet_below rest 0 is;
        control_fits = octet_below rest 1 is;
        emlsr = whole.no_emlmr;
        links_fit = Fits-some_if there 2 (word_at rest 2) (word_fits rest 2 is);
        update_fits = Fits-some_if there' 1 (get_or rest at 0) (let small = octet_below rest at is in omega (arith, small));
        links_there = some_if-there there (word_at rest 2);
        update_there = some_if-there there' (get_or rest at 0);
      };
      elems = [];
      list = refl;
      text = cells 37 6 _ _ text ∙ sym (append-nil (front (made kinds.Eml 6 rest [])));
    }

from_reconf_reply : (rest : List ℕ) → IsOctets rest → IsWhole kinds.ReconfReply rest → ActionOf (made kinds.ReconfReply 12 rest []) (37 ∷ 12 ∷ rest)
from_reconf_reply rest is whole =
    let count = get_or rest 1 0 in
    let behind = drop 2 rest in
    let all = total_entries count in
    let room : 2 + 3 * count ≤ length rest = omega (arith, whole.all, all) in
    let list = statuses_in count behind in
    let are = statuses_here count behind (IsOctets-drop 2 rest is) (omega (arith, room, length-drop 2 rest)) in
    let tail : drop (3 * count) behind ≡ drop (2 + 3 * count) rest = drop-drop (3 * count) 2 rest in
    let one = token_and rest (omega arith) in
    let two = octet_here rest 1 2 refl (omega arith) in
    let text : rest ≡ get_or rest 0 0 ∷ count ∷ (statuses list ++ drop (2 + 3 * count) rest) =
    one ∙ ap (λ (x : List ℕ). get_or rest 0 0 ∷ x) (two ∙ ap (λ (x : List ℕ). count ∷ x) (are.text ∙ ap (λ (x : List ℕ). statuses list ++ x) tail)) in
    let few : count < 256 = octet_below rest 1 is in
    record {
      is_value = (octet_below rest 0 is, (omega (arith, few, are.counted)), are.fit);
      elems = [];
      list = refl;
      text = cells 37 12 _ _ (text ∙ ap (λ (n : ℕ). get_or rest 0 0 ∷ n ∷ (statuses list ++ drop (2 + 3 * count) rest)) (sym are.counted)) ∙ sym (append-nil (front (made kinds.ReconfReply 12 rest [])));
    }

-- the two octets and the value by their equations
placed : (value other : Action) (category action c a : ℕ) (rest : List ℕ) → value ≡ other → category ≡ c → action ≡ a → ActionOf other (c ∷ a ∷ rest) → ActionOf value (category ∷ action ∷ rest)
placed value other category action c a rest same first second of = rw (same, first, second) of

pub is_read : (code : Code) (category action : ℕ) (rest : List ℕ) (value : Action) → IsOctets rest → IsCoded code category action → IsWhole code rest → IsMade (has_elements code) code action rest value → ActionOf value (category ∷ action ∷ rest)
is_read kinds.MapAsk category action rest value is (c, a) whole (list, l, e) = placed value _ category action 37 0 rest e c a (from_map_ask rest list is whole.fixed l)
is_read kinds.MapReply category action rest value is (c, a) whole (list, l, e) = placed value _ category action 37 1 rest e c a (from_map_reply rest list is whole.fixed l)
is_read kinds.MapTeardown category action rest value is (c, a) whole e = placed value _ category action 37 2 rest e c a (from_map_teardown rest)
is_read kinds.Epcs category action rest value is (c, low, high) whole e = placed value _ category action 37 action rest e c refl (from_epcs action rest low high)
is_read kinds.Eml category action rest value is (c, a) whole e = placed value _ category action 37 6 rest e c a (from_eml rest is whole)
is_read kinds.ReconfAsk category action rest value is (c, a) whole (list, l, e) = placed value _ category action 37 11 rest e c a (from_reconf_ask rest list is whole.fixed l)
is_read kinds.ReconfReply category action rest value is (c, a) whole e = placed value _ category action 37 12 rest e c a (from_reconf_reply rest is whole)
is_read kinds.AddBaAsk category action rest value is (c, a) whole (list, l, e) = placed value _ category action 3 0 rest e c a (from_add_ba_ask rest list is whole.fixed l)
is_read kinds.AddBaReply category action rest value is (c, a) whole (list, l, e) = placed value _ category action 3 1 rest e c a (from_add_ba_reply rest list is whole.fixed l)
is_read kinds.DelBa category action rest value is (c, a) whole e = placed value _ category action 3 2 rest e c a (from_del_ba rest is whole.fixed)
