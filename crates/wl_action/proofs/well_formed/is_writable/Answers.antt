use Rattle.wl_action.proofs.Writable.{some_writable, none_writable}
use Rattle.wl_action.proofs.well_formed.is_writable.Goals as goal

pub returns-in-Some : goal.returns-in-Some
returns-in-Some c =
    let fit = c.fields_fit.ensures.0 (cc) in
    some_writable c.args.value.now c.front_len.result c.in-Some.list.now c.code_in.result c.list_fits.result c.front_len.ensures.typed fit c.in-Some.ensures.elements c.front_len.ensures.len c.code_in.ensures c.list_fits.ensures

pub returns-in-None : goal.returns-in-None
returns-in-None c =
    let fit = c.fields_fit.ensures.0 (cc) in
    none_writable c.args.value.now c.front_len-in-None.result c.front_len-in-None.ensures.typed fit c.in-None.ensures.elements c.in-None.ensures.none c.front_len-in-None.ensures.len
