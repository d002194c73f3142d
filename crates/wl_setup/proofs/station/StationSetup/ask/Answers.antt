use Rattle.std.proofs.Common.{ap, sym, ◌∙◌}
use Rattle.wl_setup.specs.declared.message.SetupAsk.{SetupAsk}
use Rattle.wl_setup.specs.Table.{is_named}
use Rattle.wl_setup.proofs.Grants.{choice_named}
use Rattle.wl_setup.proofs.station.StationSetup.ask.Goals as goal

pub returns-clause-named : goal.returns-clause-named
returns-clause-named c link low =
    ap (λ (a : SetupAsk). is_named a.macs link) c.ask_for-ask.ensures
    ∙ choice_named c.args.self.now c.args.on c.args.links link (sym c.is_choice.ensures ∙ c.if-not-is_choice.false) low
