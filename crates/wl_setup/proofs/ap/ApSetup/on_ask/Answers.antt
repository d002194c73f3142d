use Rattle.wl_setup.specs.Ap.{status_given}
use Rattle.wl_setup.proofs.Replies.{answer_of, carrying_named}
use Rattle.wl_setup.proofs.ap.ApSetup.on_ask.Goals as goal

pub returns-then-not-carried-clause-named : goal.returns-then-not-carried-clause-named
returns-then-not-carried-clause-named c =
    answer_of c.args.ask.now c.statuses.result (status_given c.is_carried-carried.result c.args.self.now c.args.ask.now c.args.powered) c.statuses.ensures

pub returns-then-not-carried-clause-carrying : goal.returns-then-not-carried-clause-carrying
returns-then-not-carried-clause-carrying c =
    carrying_named c.args.ask.now (record { on = c.args.ask.now.on; status = c.statuses.result }) (answer_of c.args.ask.now c.statuses.result (status_given c.is_carried-carried.result c.args.self.now c.args.ask.now c.args.powered) c.statuses.ensures) c.is_carried-carried.ensures.bound c.requires

pub invariant_of-self : goal.invariant_of-self
invariant_of-self c =
    answer_of c.args.ask.now c.statuses.result (status_given c.is_carried-carried.result c.args.self.now c.args.ask.now c.args.powered) c.statuses.ensures

pub returns-clause-named : goal.returns-clause-named
returns-clause-named c =
    answer_of c.args.ask.now c.statuses.result (status_given c.is_carried-carried.result c.args.self.now c.args.ask.now c.args.powered) c.statuses.ensures

pub returns-clause-carrying : goal.returns-clause-carrying
returns-clause-carrying c =
    carrying_named c.args.ask.now (record { on = c.args.ask.now.on; status = c.statuses.result }) (answer_of c.args.ask.now c.statuses.result (status_given c.is_carried-carried.result c.args.self.now c.args.ask.now c.args.powered) c.statuses.ensures) c.is_carried-carried.ensures.bound c.requires
