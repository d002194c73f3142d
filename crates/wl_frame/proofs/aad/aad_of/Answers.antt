use Rattle.std.proofs.Common.{arith, rules, ◌≡◌, refl, ◌∙◌, inr}
use Rattle.std.proofs.lemmas.List.{drop_all, take_all}
use Rattle.wl_frame.proofs.aad.aad_of.Goals as goal

pub first_octets-requires : goal.first_octets-requires
first_octets-requires c = let full = c.laid_out-octets.ensures.full in record { lens = inr refl; full = full; zeros = drop_all 24 c.laid_out-octets.result (omega arith) }

pub returns-in-Qos : goal.returns-in-Qos
returns-in-Qos c =
    let full = c.laid_out-octets.ensures.full in
    let whole = c.laid_out-octets.ensures.whole in
    let second = c.direction_bits-second.ensures.value in
    let all : c.first_octets.result ≡ _ = c.first_octets.ensures ∙ take_all 24 c.laid_out-octets.result (omega arith) ∙ whole in
    search (rules, all, second, c.get.ensures, c.in-Qos.is)
