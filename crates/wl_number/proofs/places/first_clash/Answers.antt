use Rattle.std.proofs.Common.{◌≡◌, false, ◌∙◌, sym, subst}
use Rattle.std.proofs.lemmas.Option.{slice_get_read}
use Rattle.wl_number.specs.declared.numbers.Numbers.{Numbers}
use Rattle.wl_number.specs.OrderRule.{clash}
use Rattle.wl_number.proofs.Lists.{is_first, all_free, is_read}
use Rattle.std.proofs.Common.{refl}
use Rattle.wl_number.proofs.places.first_clash.Goals as goal

pub returns-in-Some-clause-some : goal.returns-in-Some-clause-some
returns-in-Some-clause-some c =
    let found = slice_get_read c.args.list.now _ c.clash_place.result c.in-Some.b.now refl c.in-Some.ensures.lookup.3.0 c.in-Some.ensures.lookup.1 in
    is_first c.args.own c.args.n c.args.list.now c.clash_place.result c.requires c.clash_place.ensures c.in-Some.b.now found (sym c.is_clash.ensures ∙ c.if-is_clash.true)

pub returns-in_default-clause-none : goal.returns-in_default-clause-none
returns-in_default-clause-none c =
    let free : clash c.args.own c.args.n c.in-Some.b.now ≡ false = sym c.is_clash.ensures ∙ c.if-is_clash.false in
    all_free c.args.own c.args.n c.args.list.now c.clash_place.result c.requires c.clash_place.ensures
    (λ b found. subst (λ (x : Numbers). clash c.args.own c.args.n x ≡ false) (is_read c.args.list.now c.clash_place.result c.in-Some.b.now b c.in-Some.ensures.lookup.1 found) free)
