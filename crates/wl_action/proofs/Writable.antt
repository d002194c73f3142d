-- A value is writable exactly where its fields and its elements are fit and have room.
use Rattle.std.proofs.Common.{◌≡◌, ℕ, ◌≤◌, Bool, false, leb, List, [], ◌++◌, length, Result, refl, sym, ap, subst, arith}
use Rattle.std.specs.Prelude.{IsTrue, IfOk, ◌↔◌}
use Rattle.std.proofs.lemmas.Bool.{leb-true, le-leb}
use Rattle.std.proofs.lemmas.List.{length-append}
use Rattle.std.proofs.lemmas.Result.{IfOk-weaker}
use Rattle.wl_elem.specs.declared.fault.Memory.{Memory}
use Rattle.wl_elem.specs.Element.{ElementValue}
use Rattle.wl_elem.specs.ElementList.{Elems}
use Rattle.wl_action.specs.declared.action.Action.{Action}
use Rattle.wl_action.specs.declared.action.Action.TheVariants.{MapAsk, MapReply, MapTeardown, Epcs, Eml, ReconfAsk, ReconfReply, AddBaAsk, AddBaReply, DelBa}
use Rattle.wl_action.specs.declared.code.Code.{Code}
use Rattle.wl_action.specs.Action.{front, elements_of, IsAction, IsWritable, has_elements}
use Rattle.wl_action.specs.Writing.{kind_of, IsTyped, FieldsFit, AreFit, HasRoom}
use Rattle.wl_action.proofs.Parts.{one_or_two, one_or_two_are_right, one_link, one_link_is_right, all_of_type, have_values}
use Rattle.wl_action.proofs.Spelled.{untouched_ask, untouched_reply}

-- the parts of a value

pub assembled : (value : Action) → IsTyped value → FieldsFit value → AreFit (kind_of value) (elements_of value) → IsAction value
assembled (MapAsk token list) t f a = let n = one_or_two list a.numbers in (t, n.0, n.1, a.read)
assembled (MapReply token status list) t f a = (t.0, t.1, leb-true _ _ a.numbers, a.read)
assembled (MapTeardown rest) t f a = tt
assembled (Epcs action rest) t f a = f
assembled (Eml token control links update rest) t f a =
    record { token_fits = t.0; control_fits = t.1; emlsr = f.emlsr; links_fit = t.2; update_fits = t.3; links_there = f.links_there; update_there = f.update_there }
assembled (ReconfAsk token list) t f a = let n = one_link list a.numbers in (t, n.0, all_of_type list n.1 a.read)
assembled (ReconfReply token list rest) t f a = (t.0, f, t.1)
assembled (AddBaAsk token params timeout start list) t f a = t
assembled (AddBaReply token status params timeout list) t f a = t
assembled (DelBa params reason rest) t f a = t

pub fields_of : (value : Action) → IsAction value → FieldsFit value
fields_of (Epcs action rest) is = is
fields_of (Eml token control links update rest) is = record { emlsr = is.emlsr; links_there = is.links_there; update_there = is.update_there }
fields_of (ReconfReply token list rest) is = is.1
fields_of _ is = tt

fit_of : (value : Action) → IsAction value → AreFit (kind_of value) (elements_of value)
fit_of (MapAsk token list) is = record { numbers = one_or_two_are_right list is.1 is.2; read = is.3 }
fit_of (MapReply token status list) is = record { numbers = le-leb _ _ is.2; read = is.3 }
fit_of (ReconfAsk token list) is = record { numbers = one_link_is_right list is.1 is.2; read = have_values list is.2 }
fit_of (AddBaAsk token params timeout start list) is = record { numbers = refl; read = untouched_ask list }
fit_of (AddBaReply token status params timeout list) is = record { numbers = refl; read = untouched_reply list }
fit_of _ is = record { numbers = refl; read = tt }

-- a kind with no elements

none_fit : (value : Action) → has_elements (kind_of value) ≡ false → AreFit (kind_of value) (elements_of value)
none_fit (MapAsk token list) e = absurd (cc)
none_fit (MapReply token status list) e = absurd (cc)
none_fit (ReconfAsk token list) e = absurd (cc)
none_fit (AddBaAsk token params timeout start list) e = absurd (cc)
none_fit (AddBaReply token status params timeout list) e = absurd (cc)
none_fit _ e = record { numbers = refl; read = tt }

-- ---- a body within the limit

writable : (value : Action) → IsTyped value → FieldsFit value → AreFit (kind_of value) (elements_of value) → HasRoom (length (front value)) (elements_of value) → IsWritable value
writable value t f a (elems, list, room) =
    (front value ++ elems, omega (arith, room, length-append (front value) elems), record { is_value = assembled value t f a; elems = elems; list = list; text = refl })

room_of : (value : Action) → IsWritable value → HasRoom (length (front value)) (elements_of value)
room_of value (body, short, of) = (of.elems, of.list, omega (arith, short, ap length of.text, length-append (front value) of.elems))

some_is : (value : Action) (before : ℕ) (list : List ElementValue) (code : Code) (answer : Bool) → IsTyped value → FieldsFit value → list ≡ elements_of value → before ≡ length (front value) → code ≡ kind_of value
    → (IsTrue answer ↔ (AreFit code list × HasRoom before list)) → (IsTrue answer ↔ IsWritable value)
some_is value before list code answer t f same at kind is =
    let there : IsTrue answer ↔ (AreFit (kind_of value) (elements_of value) × HasRoom (length (front value)) (elements_of value)) = rw (← same, ← at, ← kind) is in
    (λ h. let p = there.0 h in writable value t f p.0 p.1, λ w. there.1 (fit_of value w.2.is_value, room_of value w))

pub some_writable : (value : Action) (before : ℕ) (list : List ElementValue) (code : Code) (result : Result Bool Memory) → IsTyped value → FieldsFit value → list ≡ elements_of value → before ≡ length (front value) → code ≡ kind_of value
    → IfOk result (λ answer. IsTrue answer ↔ (AreFit code list × HasRoom before list)) → IfOk result (λ answer. IsTrue answer ↔ IsWritable value)
some_writable value before list code result t f same at kind is = IfOk-weaker result _ _ (λ answer h. some_is value before list code answer t f same at kind h) is

pub none_writable : (value : Action) (before : ℕ) → IsTyped value → FieldsFit value → elements_of value ≡ [] → has_elements (kind_of value) ≡ false → before ≡ length (front value)
    → (IsTrue (leb before 16777216) → IsWritable value) × (IsWritable value → IsTrue (leb before 16777216))
none_writable value before t f none kind at =
    let no_list : Elems (elements_of value) [] = subst (λ (l : List ElementValue). Elems l []) (sym none) refl in (
      λ h. let short : before ≤ 16777216 = leb-true before 16777216 h in writable value t f (none_fit value kind) ([], no_list, omega (arith, short, at)),
      λ w. let room = room_of value w in le-leb before 16777216 (omega (arith, at, room.2)),
    )

pub not_writable : (value : Action) → IsWritable value → FieldsFit value
not_writable value w = fields_of value w.2.is_value
