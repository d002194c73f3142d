use Rattle.std.proofs.Common.{drop}
use Rattle.std.specs.Prelude.{codes}
use Rattle.std.specs.Fmt.{decimal}
use Rattle.std.specs.String.{string_bytes}
use Rattle.wl_shown.specs.Parts.{named}
use Rattle.wl_shown.specs.TtlmText.{ttlm_parts, ttlm_rest}
use Rattle.wl_shown.proofs.Values.{two, all_added}
use Rattle.wl_shown.proofs.mapping.push_ttlm.Goals as goal

pub returns : goal.returns
returns c =
    let t = c.args.t.now in
    all_added c.push_rest.result (string_bytes c.push_rest.new.out) _ _ c.push_rest.ensures
    (rw (c.in_ok-push_fields.ensures) (two (string_bytes c.args.out.now) (codes "ttlm(") (named (codes "dir") (decimal t.direction)) (drop 1 (ttlm_parts t)) (ttlm_rest t) (codes ")")))
