-- There are at most half as many elements as octets.
use Rattle.std.proofs.Common.{ℕ, ◌*◌, ◌≤◌, List, [], ◌∷◌, length, Result, Ok, Err, ap, arith}
use Rattle.std.specs.Prelude.{IfOk}
use Rattle.std.proofs.lemmas.List.{length-append}
use Rattle.wl_elem.specs.declared.kind.ListKind.TheVariants.{Elements}
use Rattle.wl_elem.specs.declared.fault.Fault.{Fault}
use Rattle.wl_elem.specs.Answers.{Answers}
use Rattle.wl_elem.specs.Cutting.{IsCut, piece, fragments, pieces}
use Rattle.wl_elem.specs.Element.{ElementValue}
use Rattle.wl_elem.specs.ElementList.{Elems, Spells}
use Rattle.wl_action.specs.declared.action.Action.{Action}
use Rattle.wl_action.specs.Action.{front, elements_of, ReadAs}

two_at_least : (id : ℕ) (parts : List (List ℕ)) → IsCut parts → 2 ≤ length (pieces Elements id parts)
two_at_least id [] cut = absurd cut
two_at_least id (part ∷ parts) cut = omega (arith, length-append (piece id part) (fragments Elements parts))

one_counted : (e : ElementValue) (octets : List ℕ) → Spells e octets → 2 ≤ length octets
one_counted e octets spells = let w = spells.written in omega (arith, ap length w.written, two_at_least e.id w.parts w.cut)

all_counted : (list : List ElementValue) (octets : List ℕ) → Elems list octets → 2 * length list ≤ length octets
all_counted [] octets of = omega arith
all_counted (e ∷ list) octets (first, rest, split, spells, more) =
    omega (arith, ap length split, length-append first rest, one_counted e first spells, all_counted list rest more)

pub elements_counted : (body : List ℕ) (answer : Result Action Fault) → Answers answer (ReadAs body) → IfOk answer (λ action. 2 * length (elements_of action) ≤ length body)
elements_counted body (Ok action) of = omega (arith, all_counted (elements_of action) of.elems of.list, ap length of.text, length-append (front action) of.elems)
elements_counted body (Err fault) a = tt
