use Rattle.std.proofs.Common.{◌≡◌, ◌∙◌, sym, ap, subst, true}
use Rattle.wl_map.specs.Ends.{MapState, made, adopted, is_valid_ask, after_on_ask}
use Rattle.wl_map.proofs.Keeping.{accepted}
use Rattle.wl_map.proofs.map_end.MapEnd.on_ask.Goals as goal

pub returns-clause-after : goal.returns-clause-after
returns-clause-after c =
    let i = c.self.inside in
    let ask = c.args.ask.now in
    let inside = made i.deny i.links i.down i.up i.asked in
    let valid : is_valid_ask inside ask ≡ true = ap (λ (s : MapState). is_valid_ask s ask) c.self.view_is ∙ sym c.if-not-is_valid_ask.ensures in
    c.adopt.ensures ∙ subst (λ (s : MapState). adopted s ask ≡ after_on_ask s ask) c.self.view_is (accepted i.deny i.links i.down i.up i.asked ask (sym c.if-is_some.ensures) c.if-self.false valid)
