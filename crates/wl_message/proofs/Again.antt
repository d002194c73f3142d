-- What a message says is read back from its octets, and these are few.
use Rattle.std.proofs.Common.{◌≡◌, ℕ, suc, ◌+◌, ◌-◌, ◌*◌, ◌/◌, ◌%◌, ◌<◌, ◌≤◌, true, false, List, [], ◌++◌, length, get_or, Option, Some, None, refl, sym, ap, subst, ◌∙◌, arith}
use Rattle.std.proofs.lemmas.List.{take_at, drop_at, append-nil, length-append}
use Rattle.wl_elem.specs.Bits.{has_bit}
use Rattle.wl_elem.proofs.Numbers.{test_of}
use Rattle.wl_ttlm.specs.Ttlm.{presence, mappings}
use Rattle.wl_map.specs.declared.change.Change.{Change}
use Rattle.wl_map.specs.declared.change.Change.TheVariants.{Default, Sets}
use Rattle.wl_message.specs.declared.changes.MapChanges.{MapChanges}
use Rattle.wl_message.specs.declared.changes.MapChanges.TheVariants.{Both, Each}
use Rattle.wl_message.specs.declared.message.Message.{Message}
use Rattle.wl_message.specs.declared.message.Message.TheVariants.{MapAsk, MapReply, MapTeardown}
use Rattle.wl_message.specs.Message.{mapping_element, change_body, change_element, elements_of, message_octets, IsChange, IsChanges, IsMessage, maps_in, change_in, first_body, behind_first, change_if, by_direction, changes_in, message_of}
use Rattle.wl_message.proofs.Maps.{maps_again, mappings_short}

-- ---- an element

first_again : (body rest : List ℕ) → first_body (mapping_element body ++ rest) ≡ body
first_again body rest = take_at body rest (suc (length body) - 1) (omega arith)

behind_again : (body rest : List ℕ) → behind_first (mapping_element body ++ rest) ≡ rest
behind_again body rest = drop_at (mapping_element body) rest (2 + suc (length body)) (omega arith)

-- ---- a change

direction_again : (direction : ℕ) (change : Change) → direction < 4 → get_or (change_body direction change) 0 0 % 4 ≡ direction
direction_again direction Default lt = omega arith
direction_again direction (Sets maps) lt = omega arith

change_again : (direction : ℕ) (change : Change) → direction < 4 → IsChange change → change_in (change_body direction change) ≡ change
change_again direction Default lt is =
    let there : has_bit (direction + 4) 4 ≡ true = test_of _ true (omega arith) in
    rw there refl
change_again direction (Sets maps) lt is =
    let none : has_bit direction 4 ≡ false = test_of _ false (omega arith) in
    let same : maps_in 8 (presence maps) (mappings 2 maps) ≡ maps = subst (λ (n : ℕ). maps_in n (presence maps) (mappings 2 maps) ≡ maps) is.0 (maps_again maps is.1) in
    rw none (ap (λ (x : List (Option ℕ)). Sets x) same)

-- ---- changes

-- the elements begin with one of this direction and this change
first_is : (direction : ℕ) (change : Change) (rest : List ℕ) → direction < 4 → IsChange change
    → changes_in (mapping_element (change_body direction change) ++ rest) ≡ by_direction direction change (change_if rest)
first_is direction change rest lt is =
    let body = change_body direction change in
    let octets = mapping_element body ++ rest in
    let one = first_again body rest in
    let d : get_or (first_body octets) 0 0 % 4 ≡ direction = ap (λ (x : List ℕ). get_or x 0 0 % 4) one ∙ direction_again direction change lt in
    let c : change_in (first_body octets) ≡ change = ap change_in one ∙ change_again direction change lt is in
    let more : change_if (behind_first octets) ≡ change_if rest = ap change_if (behind_again body rest) in
    ap (λ (n : ℕ). by_direction n (change_in (first_body octets)) (change_if (behind_first octets))) d
    ∙ ap (λ (x : Change). by_direction direction x (change_if (behind_first octets))) c
    ∙ ap (by_direction direction change) more

-- the one element that is left
second_is : (change : Change) → IsChange change → change_if (change_element 1 (Some change)) ≡ Some change
second_is change is =
    let body = change_body 1 change in
    let whole = append-nil (mapping_element body) in
    ap (λ (x : List ℕ). Some (change_in (first_body x))) (sym whole) ∙ ap (λ (x : List ℕ). Some (change_in x)) (first_again body []) ∙ ap (λ (x : Change). Some x) (change_again 1 change (omega arith) is)

changes_again : (changes : MapChanges) → IsChanges changes → changes_in (elements_of changes) ≡ changes
changes_again (Both change) is = ap changes_in (sym (append-nil (change_element 2 (Some change)))) ∙ first_is 2 change [] (omega arith) is.down
changes_again (Each (Some down) None) is = first_is 0 down [] (omega arith) is.down
changes_again (Each (Some down) (Some up)) is = first_is 0 down (change_element 1 (Some up)) (omega arith) is.down ∙ ap (λ (x : Option Change). Each (Some down) x) (second_is up is.up)
changes_again (Each None (Some up)) is = ap changes_in (sym (append-nil (change_element 1 (Some up)))) ∙ first_is 1 up [] (omega arith) is.up
changes_again (Each None None) is = absurd (cc (is.named))

-- ---- a message

pub message_again : (m : Message) → IsMessage m → message_of (message_octets m) ≡ m
unfolding message_of
message_again (MapAsk token changes) is = ap (λ (x : MapChanges). MapAsk token x) (changes_again changes is.1)
message_again (MapReply token status) is =
    let word : status % 256 + 256 * (status / 256 % 256) ≡ status = omega (arith, is.1) in
    ap (λ (n : ℕ). MapReply token n) word
message_again MapTeardown is = refl

pub one_message : (m n : Message) → IsMessage m → IsMessage n → message_octets m ≡ message_octets n → m ≡ n
one_message m n p q e = sym (message_again m p) ∙ ap message_of e ∙ message_again n q

-- ---- how long it is

element_short : (direction : ℕ) (change : Change) → IsChange change → length (change_element direction (Some change)) ≤ 21
element_short direction Default is = omega arith
element_short direction (Sets maps) is = omega (arith, is.0, mappings_short maps)

elements_short : (changes : MapChanges) → IsChanges changes → length (elements_of changes) ≤ 42
elements_short (Both change) is = omega (arith, element_short 2 change is.down)
elements_short (Each (Some down) None) is = omega (arith, length-append (change_element 0 (Some down)) [], element_short 0 down is.down)
elements_short (Each (Some down) (Some up)) is = omega (arith, length-append (change_element 0 (Some down)) (change_element 1 (Some up)), element_short 0 down is.down, element_short 1 up is.up)
elements_short (Each None (Some up)) is = omega (arith, element_short 1 up is.up)
elements_short (Each None None) is = omega arith

pub message_short : (m : Message) → IsMessage m → length (message_octets m) ≤ 64
message_short (MapAsk token changes) is = omega (arith, elements_short changes is.1)
message_short (MapReply token status) is = omega arith
message_short MapTeardown is = omega arith
