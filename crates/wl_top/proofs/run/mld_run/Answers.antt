use Rattle.std.proofs.Common.{None, refl, map}
use Rattle.std.specs.String.{string_bytes}
use Rattle.wl_io.specs.Seen.{seen}
use Rattle.wl_top.specs.declared.ending.Ending.TheVariants.{Usage}
use Rattle.wl_top.proofs.Endings.{told_by, decoded, checked}
use Rattle.wl_top.proofs.run.mld_run.Goals as goal

pub returns-in-Some-Decode-clause-outcome : goal.returns-in-Some-Decode-clause-outcome
returns-in-Some-Decode-clause-outcome g c =
    let words = map string_bytes c.args.words.now in
    let source = seen g.S.Source.left g.S.Source.faults c.args.source.now c.decode.new.source in
    let sink = seen g.K.Sink.taken g.K.Sink.faults c.args.sink.now c.decode.new.sink in
    let text = g.Z.Sealer.text c.args.sealer.now in
    let task = rw c.in-Some-Decode.field-0-is at c.in-Some-Decode.ensures.some in
    told_by words source sink text c.decode.result None c.outcome.result c.outcome.ensures (decoded words source sink text c.decode.result task c.decode.ensures)

pub returns-in-Some-Check-clause-outcome : goal.returns-in-Some-Check-clause-outcome
returns-in-Some-Check-clause-outcome g c =
    let words = map string_bytes c.args.words.now in
    let source = seen g.S.Source.left g.S.Source.faults c.args.source.now c.check.new.source in
    let sink = seen g.K.Sink.taken g.K.Sink.faults c.args.sink.now c.check.new.sink in
    let text = g.Z.Sealer.text c.args.sealer.now in
    let task = rw c.in-Some-Check.field-0-is at c.in-Some-Check.ensures.some in
    told_by words source sink text c.check.result None c.outcome-in-Some-Check.result c.outcome-in-Some-Check.ensures (checked words source sink text c.check.result task c.check.ensures)

pub returns-in-None-clause-outcome : goal.returns-in-None-clause-outcome
returns-in-None-clause-outcome g c =
    let words = map string_bytes c.args.words.now in
    let source = seen g.S.Source.left g.S.Source.faults c.args.source.now c.args.source.now in
    let sink = seen g.K.Sink.taken g.K.Sink.faults c.args.sink.now c.args.sink.now in
    let text = g.Z.Sealer.text c.args.sealer.now in
    told_by words source sink text Usage None c.outcome-in-None.result c.outcome-in-None.ensures (c.in-None.ensures.none, (refl, refl), (refl, refl), refl)
