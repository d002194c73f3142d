use Rattle.std.proofs.Common.{ℕ, List, [], ◌∷◌, ap}
use Rattle.wl_frame.proofs.Places.{three}
use Rattle.wl_frame.proofs.aad.laid_out.Goals as goal

pub returns-clause-whole : goal.returns-clause-whole
returns-clause-whole c = ap (λ (x : List ℕ). c.args.first ∷ c.args.second ∷ x) (three c.args.a1 c.args.a2 c.args.a3 c.octets-a.result c.octets-b.result c.octets-c.result (0 ∷ 0 ∷ c.args.tid ∷ 0 ∷ []) c.octets-a.ensures.value c.octets-b.ensures.value c.octets-c.ensures.value c.octets-a.ensures.six c.octets-b.ensures.six c.octets-c.ensures.six)

pub returns-clause-front : goal.returns-clause-front
returns-clause-front c = ap (λ (x : List ℕ). c.args.first ∷ c.args.second ∷ x) (three c.args.a1 c.args.a2 c.args.a3 c.octets-a.result c.octets-b.result c.octets-c.result (0 ∷ 0 ∷ []) c.octets-a.ensures.value c.octets-b.ensures.value c.octets-c.ensures.value c.octets-a.ensures.six c.octets-b.ensures.six c.octets-c.ensures.six)
