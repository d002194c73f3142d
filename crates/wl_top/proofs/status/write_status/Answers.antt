use Rattle.std.proofs.Common.{◌≡◌, ℕ, List, subst, refl, ◌∙◌}
use Rattle.std.specs.Prelude.{IfErr}
use Rattle.wl_io.specs.Seen.{seen}
use Rattle.wl_io.specs.Writing.{IsWriteFault}
use Rattle.wl_top.specs.Status.{status_line}
use Rattle.wl_top.proofs.status.write_status.Goals as goal

pub returns-clause-fault : goal.returns-clause-fault
returns-clause-fault g c =
    let text : c.as_bytes.result.now ≡ status_line c.args.status c.args.place =
    c.as_bytes.ensures.value ∙ c.as_str.ensures.value
    ∙ rw (c.push_str-5.ensures.bytes, c.push_str-4.ensures.bytes, c.format-2.ensures.text, c.push_str-3.ensures.bytes, c.push_str-2.ensures.bytes, c.format.ensures.text, c.push_str.ensures.bytes, c.new-line.ensures) refl in
    subst
    (λ (t : List ℕ). IfErr c.write_all.result (λ e. IsWriteFault (seen g.K.Sink.taken g.K.Sink.faults c.args.sink.now c.write_all.new.sink) t e.taken))
    text c.write_all.ensures.fault
