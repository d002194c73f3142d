use Rattle.std.proofs.Common.{◌≡◌, ◌∙◌, sym, subst, ap}
use Rattle.wl_ttlm.specs.Mapping.{IsMapping}
use Rattle.wl_map.specs.Agreeing.{sets_of}
use Rattle.wl_map.specs.Ends.{MapState, IsMapState, of_direction}
use Rattle.wl_map.proofs.Keeping.{direction_is, sets_pass}
use Rattle.wl_map.proofs.map_end.MapEnd.agreed.Goals as goal

pub returns-clause-valid : goal.returns-clause-valid
returns-clause-valid c some =
    let s = c.args.self.now in
    let now = of_direction c.args.d s in
    let is : IsMapState s = subst IsMapState c.self.view_is c.self.invariant in
    let sets : c.mapping_of.result.sets ≡ sets_of s.links now =
    c.mapping_of.ensures ∙ ap (λ (t : MapState). sets_of t.links c.of_direction.result.now) c.self.view_is ∙ ap (sets_of s.links) c.of_direction.ensures in
    subst (IsMapping s.links) (sym sets) (c.a_mapping_passes.ensures.only s.links (sets_of s.links now) is.links (sets_pass s.links now some (direction_is c.args.d s is)))
