use Rattle.std.proofs.Common.{◌≡◌, true, sym, subst, ◌∙◌}
use Rattle.wl_setup.specs.declared.message.SetupAsk.{SetupAsk}
use Rattle.wl_setup.specs.Ap.{IsRemembered}
use Rattle.wl_setup.specs.Messages.{IsAnswer, same_ask}
use Rattle.wl_setup.specs.Status.{unspecified_failure}
use Rattle.wl_setup.proofs.Replies.{answer_of}
use Rattle.wl_setup.proofs.Requests.{same_ask-Decides}
use Rattle.wl_setup.proofs.ap.ApSetup.later_reply.Goals as goal

pub returns-in_default-clause-named : goal.returns-in_default-clause-named
returns-in_default-clause-named c = answer_of c.args.ask.now c.refusals.result (λ link. unspecified_failure) c.refusals.ensures

pub returns-in-Some-clause-named : goal.returns-in-Some-clause-named
returns-in-Some-clause-named c =
    let is : same_ask c.in-Some.joined.ask c.args.ask.now ≡ true = sym c.is_same_ask.ensures ∙ c.if-is_same_ask.true in
    subst (λ (a : SetupAsk). IsAnswer a c.in-Some.joined.reply) ((same_ask-Decides c.in-Some.joined.ask c.args.ask.now).0 is) (subst IsRemembered c.in-Some.is c.self.invariant)
