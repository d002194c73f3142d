use Rattle.std.proofs.Common.{Ok, Err, subst}
use Rattle.wl_elem.specs.declared.known.Known.{Known}
use Rattle.wl_action.specs.Known.{ReadAs}
use Rattle.wl_action.proofs.Knowns.{mapping_only, multi_link_only}
use Rattle.wl_action.proofs.known.decode_known.Goals as goal

pub returns-in-Ok-clause-only : goal.returns-in-Ok-clause-only
returns-in-Ok-clause-only c reading read =
    mapping_only (Ok c.in-Ok.value) c.args.element.now.body c.in-Ok.ensures.only reading (subst (λ (k : Known). ReadAs k c.args.element.now.body reading) c.in-TidToLinkMapping.is read)

pub returns-in-Err-clause-only : goal.returns-in-Err-clause-only
returns-in-Err-clause-only c reading read =
    mapping_only (Err c.in-Err.fault) c.args.element.now.body c.in-Err.ensures.only reading (subst (λ (k : Known). ReadAs k c.args.element.now.body reading) c.in-TidToLinkMapping.is read)

pub returns-in-Ok-decode_ml-clause-only : goal.returns-in-Ok-decode_ml-clause-only
returns-in-Ok-decode_ml-clause-only c reading read =
    multi_link_only (Ok c.in-Ok-decode_ml.value) c.args.element.now.body c.in-Ok-decode_ml.ensures.only reading (subst (λ (k : Known). ReadAs k c.args.element.now.body reading) c.in-MultiLink.is read)

pub returns-in-Err-decode_ml-clause-only : goal.returns-in-Err-decode_ml-clause-only
returns-in-Err-decode_ml-clause-only c reading read =
    multi_link_only (Err c.in-Err-decode_ml.fault) c.args.element.now.body c.in-Err-decode_ml.ensures.only reading (subst (λ (k : Known). ReadAs k c.args.element.now.body reading) c.in-MultiLink.is read)
