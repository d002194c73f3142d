-- The octets of a message are those of the codecs' values that stand for it.
use Rattle.std.proofs.Common.{◌≡◌, ℕ, ◌%◌, ◌^◌, ◌<◌, ◌≤◌, List, [], ◌∷◌, ◌++◌, length, Option, Some, None, refl, sym, ap, subst, ◌∙◌, arith}
use Rattle.std.proofs.lemmas.List.{append-nil}
use Rattle.std.proofs.Math.Nat.{pow-suc}
use Rattle.wl_elem.specs.Element.{ElementValue, body_limit}
use Rattle.wl_elem.specs.ElementList.{Elems}
use Rattle.std.specs.Prelude.{count_by}
use Rattle.std.specs.List.{AllByRecursion}
use Rattle.wl_elem.specs.Identity.{HasExtension, tid_to_link_mapping, is_mapping}
use Rattle.wl_ttlm.specs.Ttlm.{presence, mappings, TtlmOf}
use Rattle.wl_map.specs.declared.change.Change.{Change}
use Rattle.wl_map.specs.declared.change.Change.TheVariants.{Default, Sets}
use Rattle.wl_action.specs.declared.action.Action.{Action}
use Rattle.wl_action.specs.Action.{ActionOf, HasMapping}
use Rattle.wl_message.specs.declared.changes.MapChanges.{MapChanges}
use Rattle.wl_message.specs.declared.changes.MapChanges.TheVariants.{Both, Each}
use Rattle.wl_message.specs.declared.message.Message.{Message}
use Rattle.wl_message.specs.declared.message.Message.TheVariants.{MapAsk, MapReply, MapTeardown}
use Rattle.wl_message.specs.Message.{mapping_element, change_body, elements_of, message_octets, IsChange, IsChanges, IsMessage}
use Rattle.wl_message.specs.Codec.{ttlm_of, element_of, element_list, action_of}
use Rattle.wl_message.proofs.Maps.{mappings_short}
use Rattle.wl_message.proofs.Again.{message_short}

-- ---- the value of a mapping element

presence_below : (maps : List (Option ℕ)) → presence maps < 2 ^ length maps
presence_below [] = let one : 2 ^ 0 ≡ 1 = refl in omega arith
presence_below (None ∷ maps) = omega (arith, pow-suc 2 (length maps), presence_below maps)
presence_below (Some n ∷ maps) = omega (arith, pow-suc 2 (length maps), presence_below maps)

pub change_is_ttlm : (direction : ℕ) (change : Change) → direction < 3 → IsChange change → TtlmOf (ttlm_of direction change) (change_body direction change)
change_is_ttlm direction Default lt is = record {
  is_value = record { direction = lt; spare = omega arith; switch = tt; duration = tt; eight = refl; fit = (tt, (tt, (tt, (tt, (tt, (tt, (tt, (tt, tt)))))))); none = λ _. (refl, (refl, (refl, (refl, (refl, (refl, (refl, (refl, tt)))))))) };
  text = ap (λ (n : ℕ). n ∷ []) (omega arith);
}
change_is_ttlm direction (Sets maps) lt is =
    let small : presence maps < 2 ^ 8 = subst (λ (n : ℕ). presence maps < 2 ^ n) is.0 (presence_below maps) in
    let octet : presence maps % 256 ≡ presence maps = omega arith in
    let whole : mappings 2 maps ++ [] ≡ mappings 2 maps = append-nil (mappings 2 maps) in
    record {
      is_value = record { direction = lt; spare = omega arith; switch = tt; duration = tt; eight = is.0; fit = is.1; none = λ h. absurd (cc h) };
      text = sym (rw (octet, whole) (ap (λ (n : ℕ). n ∷ presence maps ∷ mappings 2 maps) (omega arith)));
    }

pub body_short : (direction : ℕ) (change : Change) → IsChange change → length (change_body direction change) ≤ 18
body_short direction Default is = omega arith
body_short direction (Sets maps) is = omega (arith, is.0, mappings_short maps)

-- an element that is written for this value
pub element_is : (direction : ℕ) (change : Change) (e : ElementValue) → direction < 3 → IsChange change → HasExtension e tid_to_link_mapping → TtlmOf (ttlm_of direction change) e.body → e ≡ element_of direction change
element_is direction change e lt is identity of =
    let same : e.body ≡ change_body direction change = of.text ∙ sym (change_is_ttlm direction change lt is).text in
    ap (λ (n : ℕ). record e { id = n }) identity.0
    ∙ ap (λ (x : Option ℕ). record { id = 255; ext = x; body = e.body }) identity.1
    ∙ ap (λ (x : List ℕ). record { id = 255; ext = Some 109; body = x }) same

-- ---- elements

-- the octets of one element before others
one_more : (direction : ℕ) (change : Change) (list : List ElementValue) (octets : List ℕ) → IsChange change → Elems list octets → Elems (element_of direction change ∷ list) (mapping_element (change_body direction change) ++ octets)
one_more direction change list octets is elems =
    let information = 109 ∷ change_body direction change in
    let whole = append-nil information in
    let written = append-nil (mapping_element (change_body direction change)) in (
      mapping_element (change_body direction change),
      octets,
      refl,
      record {
        shape = refl;
        written = record { parts = information ∷ []; cut = omega (arith, body_short direction change is); whole = whole; written = sym written };
      },
      elems,
    )

one_element : (direction : ℕ) (change : Change) → IsChange change → Elems (element_of direction change ∷ []) (mapping_element (change_body direction change))
one_element direction change is = subst (Elems (element_of direction change ∷ [])) (append-nil (mapping_element (change_body direction change))) (one_more direction change [] [] is refl)

elements_spelled : (changes : MapChanges) → IsChanges changes → Elems (element_list changes) (elements_of changes)
elements_spelled (Both change) is = one_element 2 change is.down
elements_spelled (Each (Some down) None) is = one_more 0 down [] [] is.down refl
elements_spelled (Each (Some down) (Some up)) is = one_more 0 down (element_of 1 up ∷ []) _ is.down (one_element 1 up is.up)
elements_spelled (Each None (Some up)) is = one_element 1 up is.up
elements_spelled (Each None None) is = refl

has_mapping : (direction : ℕ) (change : Change) → direction < 3 → IsChange change → HasMapping (element_of direction change)
has_mapping direction change lt is _ = (ttlm_of direction change, change_is_ttlm direction change lt is)

-- there are one or two of them, and each has a value
record AreMappings (list : List ElementValue) : Type 0 where
  some : 1 ≤ count_by is_mapping list
  few : count_by is_mapping list ≤ 2
  read : AllByRecursion HasMapping list

are_mappings : (changes : MapChanges) → IsChanges changes → AreMappings (element_list changes)
are_mappings (Both change) is = record { some = omega arith; few = omega arith; read = (has_mapping 2 change (omega arith) is.down, tt) }
are_mappings (Each (Some down) None) is = record { some = omega arith; few = omega arith; read = (has_mapping 0 down (omega arith) is.down, tt) }
are_mappings (Each (Some down) (Some up)) is = record { some = omega arith; few = omega arith; read = (has_mapping 0 down (omega arith) is.down, (has_mapping 1 up (omega arith) is.up, tt)) }
are_mappings (Each None (Some up)) is = record { some = omega arith; few = omega arith; read = (has_mapping 1 up (omega arith) is.up, tt) }
are_mappings (Each None None) is = absurd (cc (is.named))

-- ---- the value of the body

pub message_is_action : (m : Message) → IsMessage m → ActionOf (action_of m) (message_octets m)
message_is_action (MapAsk token changes) is =
    let list = are_mappings changes is.1 in
    record { is_value = (is.0, list.some, list.few, list.read); elems = elements_of changes; list = elements_spelled changes is.1; text = refl }
message_is_action (MapReply token status) is = record { is_value = (is.0, is.1, omega arith, tt); elems = []; list = refl; text = refl }
message_is_action MapTeardown is = record { is_value = tt; elems = []; list = refl; text = refl }

-- a value that stands for the message has its octets as its body
pub stands_for : (m : Message) (action : Action) → IsMessage m → action ≡ action_of m → ActionOf action (message_octets m)
stands_for m action is e = rw e (message_is_action m is)

pub has_room : (m : Message) → IsMessage m → length (message_octets m) ≤ body_limit
has_room m is = omega (arith, message_short m is)
