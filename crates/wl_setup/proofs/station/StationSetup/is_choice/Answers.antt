use Rattle.std.proofs.Common.{◌≡◌, true, Bool, sym, ap, ◌∙◌}
use Rattle.std.specs.Prelude.{◌&&◌}
use Rattle.wl_elem.specs.Links.{has_link}
use Rattle.wl_setup.specs.Station.{StationState, is_fit}
use Rattle.wl_setup.specs.Table.{all_links}
use Rattle.wl_setup.proofs.Grants.{subset_fit}
use Rattle.wl_setup.proofs.station.StationSetup.is_choice.Goals as goal

pub returns-then-has : goal.returns-then-has
returns-then-has c =
    let has : has_link c.args.links c.args.on ≡ true = sym c.has.ensures ∙ c.if-has.true in
    subset_fit c.self.inside.macs c.args.links c.links_named.result c.within.result c.links_named.ensures c.within.ensures
    ∙ ap (λ (s : StationState). all_links (is_fit s.macs c.args.links)) c.self.view_is
    ∙ sym (ap (λ (b : Bool). b && all_links (is_fit c.args.self.now.macs c.args.links)) has)
