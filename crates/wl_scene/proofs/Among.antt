-- A name among names, looked for from the front.
use Rattle.std.proofs.Common.{◌≡◌, ℕ, ◌+◌, ◌<◌, ◌≤◌, Bool, true, false, ◌||◌, List, [], ◌∷◌, map, length, get_or, drop, Bor, String, Global, string_bytes, ◌&&◌, bytes_eq, refl, sym, ap, ◌∙◌}
use Rattle.std.proofs.lemmas.List.{drop_all, at_drop_more}
use Rattle.std.specs.Map.{keys_of}
use Rattle.serde_json.specs.View.{members_view}
use Rattle.serde_json.specs.declared.value.Value.{Value}
use Rattle.wl_scene.specs.Members.{is_among, are_among}

abbrev pub Names : Type 0
Names = List (Bor (List ℕ))

abbrev pub among : List ℕ → Names → Bool
among name names = is_among name (map (λ n. n.now) names)

at_front : (name : List ℕ) (names : Names) (i : ℕ) (d : Bor (List ℕ)) → i < length names → among name (drop i names) ≡ (bytes_eq name (get_or names i d).now || among name (drop (i + 1) names))
at_front name names i d within = at_drop_more (among name) names i d within

pub is_there : (name : List ℕ) (names : Names) (i : ℕ) (d : Bor (List ℕ)) → i < length names → among name names ≡ among name (drop i names) → bytes_eq name (get_or names i d).now ≡ true → true ≡ among name names
is_there name names i d within so_far same = sym (so_far ∙ at_front name names i d within ∙ ap (λ (b : Bool). b || among name (drop (i + 1) names)) same)

pub goes_on : (name : List ℕ) (names : Names) (i : ℕ) (d : Bor (List ℕ)) → i < length names → among name names ≡ among name (drop i names) → bytes_eq name (get_or names i d).now ≡ false → among name names ≡ among name (drop (i + 1) names)
goes_on name names i d within so_far other = so_far ∙ at_front name names i d within ∙ ap (λ (b : Bool). b || among name (drop (i + 1) names)) other

pub is_none : (name : List ℕ) (names : Names) (i : ℕ) → length names ≤ i → among name names ≡ among name (drop i names) → false ≡ among name names
is_none name names i past so_far = sym (so_far ∙ ap (among name) (drop_all i names past))

-- each of these keys has one of the names
abbrev pub keys_among : List (String Global) → List (List ℕ) → Bool
keys_among [] names = true
keys_among (key ∷ keys) names = is_among (string_bytes key) names && keys_among keys names

pub from_members : (es : List (String Global × Value)) (names : List (List ℕ)) → are_among (members_view es) names ≡ keys_among (keys_of es) names
from_members [] names = refl
from_members (e ∷ es) names = ap (λ (b : Bool). is_among (string_bytes e.0) names && b) (from_members es names)

-- one key more
pub key_more : (front : Bool) (names : List (List ℕ)) (left more : List (String Global)) (key : String Global) (text : List ℕ) → front ≡ keys_among left names → left ≡ key ∷ more → text ≡ string_bytes key
    → front ≡ (is_among text names && keys_among more names)
key_more front names left more key text so_far first same =
    so_far ∙ ap (λ (ks : List (String Global)). keys_among ks names) first ∙ ap (λ (t : List ℕ). is_among t names && keys_among more names) (sym same)
