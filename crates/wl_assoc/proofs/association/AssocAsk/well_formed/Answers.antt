use Rattle.std.proofs.Common.{◌≡◌, ◌+◌, ◌-◌, arith}
use Rattle.std.proofs.lemmas.Bool.{leb-true, le-leb}
use Rattle.wl_elem.specs.Element.{body_limit}
use Rattle.wl_assoc.proofs.Bodies.{ask_has_body, ask_is_short}
use Rattle.wl_assoc.proofs.association.AssocAsk.well_formed.Goals as goal

pub returns-clause-exact : goal.returns-clause-exact
returns-clause-exact c =
    let fixed : body_limit - (c.u16_len.result + c.u16_len-2.result) ≡ body_limit - 4 = omega (arith, c.u16_len.ensures.exact, c.u16_len-2.ensures.exact) in (
      λ le. ask_has_body c.args.self.now c.encoded_len.result c.u16_len.ensures.fits c.u16_len-2.ensures.fits (c.spelled.ensures c.args.self.now.elements c.encoded_len.ensures.shapes) c.encoded_len.ensures.len (omega (arith, leb-true _ _ le, fixed)),
      λ of. le-leb _ _ (omega (arith, ask_is_short c.args.self.now c.encoded_len.result c.encoded_len.ensures.len of, fixed)),
    )
