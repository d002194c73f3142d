use Rattle.std.proofs.Common.{List, Err, sym, subst}
use Rattle.wl_elem.specs.declared.fault.Fault.{Fault}
use Rattle.wl_mle.specs.declared.basic.BasicSub.{BasicSub}
use Rattle.wl_assoc.specs.Profiles.{ProfilesAs, EntriesAs}
use Rattle.wl_elem.specs.Answers.{IfRefused}
use Rattle.wl_assoc.proofs.Entries.{element_refused, profiles_refused}
use Rattle.wl_assoc.proofs.profiles.entries_of.Goals as goal

pub returns-in-Err-clause-refused : goal.returns-in-Err-clause-refused
returns-in-Err-clause-refused c =
    let says = λ (fault : Fault). IfRefused fault (λ refusal. EntriesAs c.args.response c.args.list.now (Err refusal)) in
    subst says (sym c.in_element.ensures) (element_refused c.args.response c.args.list.now c.in-Some.i c.in-Some.element.now c.in-Err.fault c.in-Some.ensures.some c.in-Err.ensures.refused)

pub returns-clause-refused : goal.returns-clause-refused
returns-clause-refused c =
    let are = subst (λ (subs : List BasicSub). IfRefused c.in-Err-entries_in.fault (λ refusal. ProfilesAs c.args.response c.args.list.now subs (Err refusal))) c.as_slice.ensures c.in-Err-entries_in.ensures.refused in
    let says = λ (fault : Fault). IfRefused fault (λ refusal. EntriesAs c.args.response c.args.list.now (Err refusal)) in
    subst says (sym c.in_element-in-Err-entries_in.ensures) (profiles_refused c.args.response c.args.list.now c.in-Some.i c.in-Some.element.now c.in-Ok.basic c.in-Err-entries_in.fault c.in-Some.ensures.some c.in-Ok.ensures.read are)
