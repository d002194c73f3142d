use Rattle.std.proofs.Common.{◌≡◌, ◌/◌, ◌∙◌, length, refl, Err}
use Rattle.wl_shown.proofs.Lines.{error_of_digits, not_hex}
use Rattle.wl_shown.proofs.line.read_hex_line.Goals as goal

pub returns-in-None-clause-refused : goal.returns-in-None-clause-refused
returns-in-None-clause-refused c = c.in-None.ensures.none refl

pub returns-in-Err-clause-refused : goal.returns-in-Err-clause-refused
returns-in-Err-clause-refused c =
    let digits = c.in-Some.parts.1.now in
    let half : length c.as_mut_slice.result.now ≡ length digits / 2 = c.as_mut_slice.ensures.len ∙ rw c.if-is_err.ensures.negation at c.resize.ensures.len in
    not_hex c.args.line.now digits c.in-Some.parts.0 c.in-Err.field-0 c.in-Some.ensures.only (error_of_digits digits c.decode_to_slice.new.out (length c.as_mut_slice.result.now) (Err c.in-Err.field-0) c.in-Err.field-0 half c.in-Err.ensures.value refl)
