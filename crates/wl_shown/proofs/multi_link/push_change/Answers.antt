use Rattle.std.proofs.Common.{◌≡◌, ℕ, List, ◌++◌, ap, ◌∙◌, drop}
use Rattle.std.specs.Prelude.{codes}
use Rattle.std.specs.Fmt.{decimal}
use Rattle.std.specs.String.{string_bytes}
use Rattle.wl_shown.specs.Parts.{named, more_parts, joined_parts, optional_text, optional_octets}
use Rattle.wl_shown.specs.MlText.{change_control, change_info, change_text, rest_parts}
use Rattle.wl_shown.proofs.Values.{two_parts, three, all_added}
use Rattle.wl_shown.proofs.multi_link.push_change.Goals as goal

pub returns : goal.returns
returns c =
    let v = c.args.c.now in
    let old = string_bytes c.args.out.now in
    let control = codes "chg(" ++ joined_parts (change_control v) in
    let last = more_parts (rest_parts v.tail v.body) ++ codes ")" in
    let whole : string_bytes c.put_word.new.out ++ (more_parts (rest_parts c.as_slice.result.now c.as_slice-2.result.now) ++ codes ")") ≡ old ++ change_text v =
    rw (c.as_slice.ensures, c.as_slice-2.ensures, c.in_ok-put_word.ensures, c.in_ok-put_address.ensures, c.in_ok-push_change_control.ensures)
    (ap (λ (x : List ℕ). x ++ last) (two_parts (old ++ control) (codes ",mac=" ++ optional_octets v.mac) (codes ",timer=" ++ optional_text v.timer))
    ∙ three old (codes "chg(") (named (codes "link") (decimal v.link)) (drop 1 (change_control v)) (change_info v) (rest_parts v.tail v.body) (codes ")")) in
    all_added c.push_rest.result (string_bytes c.push_rest.new.out) (string_bytes c.put_word.new.out ++ (more_parts (rest_parts c.as_slice.result.now c.as_slice-2.result.now) ++ codes ")")) (old ++ change_text v) c.push_rest.ensures whole
