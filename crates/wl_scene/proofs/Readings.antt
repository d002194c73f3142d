-- A text is read in one way, and each text is read.
use Rattle.std.proofs.Common.{◌≡◌, ℕ, Bool, true, false, List, Option, Some, None, Result, Ok, Err, IsUtf8, ◌⊎◌, inl, inr, refl, sym, ap, ◌∙◌}
use Rattle.std.specs.Str.{is_utf8}
use Rattle.std.proofs.lemmas.Str.{IsUtf8-from_is_utf8, is_utf8-from_IsUtf8}
use Rattle.serde_json.specs.Data.{Data}
use Rattle.serde_json.specs.Read.{read}
use Rattle.wl_scene.specs.declared.scenario.Scenario.{Scenario}
use Rattle.wl_scene.specs.Scene.{scene_of, IsJson, IsNoJson, SceneOf}

abbrev Reading : Type 0
Reading = Result Scenario ℕ

one_value : (text : List ℕ) (d e : Data) → IsJson text d → IsJson text e → d ≡ e
one_value text d e a b = let same : Some d ≡ Some e = sym a.value ∙ b.value in cc

same_scene : (text : List ℕ) (d e : Data) (a b : Reading) → IsJson text d → scene_of d ≡ a → IsJson text e → scene_of e ≡ b → a ≡ b
same_scene text d e a b d_is as_a e_is as_b = sym as_a ∙ ap scene_of (one_value text d e d_is e_is) ∙ as_b

-- the value behind a reading, or that there is none
abbrev Behind : List ℕ → Reading → Type 0
Behind text a = (IsNoJson text × (a ≡ Err 0)) ⊎ ((d : Data) × IsJson text d × (scene_of d ≡ a))

behind : (text : List ℕ) (a : Reading) → SceneOf text a → Behind text a
behind text (Ok scenario) (d, is, scene) = inr (d, is, scene)
behind text (Err place) (inl (none, at)) = inl (none, ap Err at)
behind text (Err place) (inr (d, is, scene)) = inr (d, is, scene)

agree : (text : List ℕ) (a b : Reading) → Behind text a → Behind text b → a ≡ b
agree text a b (inl (none, a_is)) (inl (other, b_is)) = a_is ∙ sym b_is
agree text a b (inl (none, a_is)) (inr (d, is, scene)) = absurd (none d is)
agree text a b (inr (d, is, scene)) (inl (none, b_is)) = absurd (none d is)
agree text a b (inr (d, d_is, as_a)) (inr (e, e_is, as_b)) = same_scene text d e a b d_is as_a e_is as_b

pub once : (text : List ℕ) (a b : Reading) → SceneOf text a → SceneOf text b → a ≡ b
once text a b left right = agree text a b (behind text a left) (behind text b right)

of_value : (text : List ℕ) (d : Data) (r : Reading) → IsJson text d → scene_of d ≡ r → (reading : Reading) × SceneOf text reading
of_value text d (Ok scenario) is scene = (Ok scenario, (d, is, scene))
of_value text d (Err place) is scene = (Err place, inr (d, is, scene))

of_utf8 : (text : List ℕ) (value : Option Data) → IsUtf8 text → read text ≡ value → (reading : Reading) × SceneOf text reading
of_utf8 text None utf8 none = (Err 0, inl ((λ d is. let same : None ≡ Some d = sym none ∙ is.value in cc), refl))
of_utf8 text (Some d) utf8 found = of_value text d (scene_of d) (record { utf8 = utf8; value = found }) refl

of_bytes : (text : List ℕ) (b : Bool) → is_utf8 text ≡ b → (reading : Reading) × SceneOf text reading
of_bytes text true is = of_utf8 text (read text) (IsUtf8-from_is_utf8 text is) refl
of_bytes text false is_not = (Err 0, inl ((λ d is. let both : true ≡ false = sym (is_utf8-from_IsUtf8 text is.utf8) ∙ is_not in cc), refl))

pub always : (text : List ℕ) → (reading : Reading) × SceneOf text reading
always text = of_bytes text (is_utf8 text) refl
