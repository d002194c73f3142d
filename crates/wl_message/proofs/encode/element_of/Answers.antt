use Rattle.std.proofs.Common.{◌≡◌, ℕ, ◌<◌, ◌≤◌, Result, Ok, Err, IfOk, length, arith, subst, sym}
use Rattle.wl_elem.specs.Element.{ElementValue, body_limit}
use Rattle.wl_ttlm.specs.declared.ttlm.Ttlm.{Ttlm}
use Rattle.wl_ttlm.specs.Ttlm.{TtlmOf}
use Rattle.wl_elem.specs.Identity.{HasExtension, tid_to_link_mapping}
use Rattle.wl_map.specs.declared.change.Change.{Change}
use Rattle.wl_message.specs.Message.{change_body, IsChange}
use Rattle.wl_message.specs.Codec.{ttlm_of, element_of}
use Rattle.wl_message.proofs.Spelled.{change_is_ttlm, body_short, element_is}
use Rattle.wl_message.proofs.encode.element_of.Goals as goal

pub encode_ttlm-requires : goal.encode_ttlm-requires
encode_ttlm-requires c =
    let direction = c.args.direction in
    let change = c.args.change.now in
    let body = change_body direction change in
    let room : length body ≤ body_limit = omega (arith, body_short direction change c.requires.valid) in
    (body, room, subst (λ (t : Ttlm). TtlmOf t body) (sym c.ttlm_of-value.ensures) (change_is_ttlm direction change c.requires.known c.requires.valid))

-- what is written is the element, by both clauses
written : {E : Type 0} (direction : ℕ) (change : Change) (t : Ttlm) (answer : Result ElementValue E) → direction < 3 → IsChange change → t ≡ ttlm_of direction change
    → IfOk answer (λ e. HasExtension e tid_to_link_mapping) → IfOk answer (λ e. TtlmOf t e.body) → IfOk answer (λ e. e ≡ element_of direction change)
written direction change t (Ok e) lt is same identity of = element_is direction change e lt is identity (subst (λ (x : Ttlm). TtlmOf x e.body) same of)
written direction change t (Err f) lt is same identity of = tt

pub returns : goal.returns
returns c = written c.args.direction c.args.change.now c.ttlm_of-value.result c.encode_ttlm.result c.requires.known c.requires.valid c.ttlm_of-value.ensures c.encode_ttlm.ensures.identity c.encode_ttlm.ensures.written
