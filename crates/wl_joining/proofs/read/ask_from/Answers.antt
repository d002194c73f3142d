use Rattle.std.proofs.Common.{◌≡◌, false, is_some, List, ap, sym, ◌∙◌}
use Rattle.std.specs.Prelude.{◌==◌, not}
use Rattle.std.specs.List.{list_all}
use Rattle.wl_assoc.specs.declared.links.LinkAsk.{LinkAsk}
use Rattle.wl_joining.proofs.Taken.{asks_refused, not_addressed, asked_here, no_mld}
use Rattle.wl_joining.proofs.read.ask_from.Goals as goal

pub returns-in-Err-Refused : goal.returns-in-Err-Refused
returns-in-Err-Refused c = asks_refused c.args.on c.args.mac c.args.value.now c.in-Err-Refused.field-0-0 (rw c.in-Err-Refused.field-0-is at c.in-Err-Refused.ensures.only)

pub returns-then-not-are_addressed : goal.returns-then-not-are_addressed
returns-then-not-are_addressed c =
    let not_all : list_all (λ a. is_some a.mac) c.in-Ok.asks ≡ false = ap (λ (x : List LinkAsk). list_all (λ a. is_some a.mac) x) (sym c.as_slice.ensures) ∙ sym c.are_addressed.ensures ∙ c.if-not-are_addressed.true in
    not_addressed c.args.on c.args.mac c.args.value.now c.in-Ok.asks c.in-Ok.ensures.only not_all

pub returns-then-not-are_asked_elsewhere : goal.returns-then-not-are_asked_elsewhere
returns-then-not-are_asked_elsewhere c =
    let not_all : list_all (λ a. not (a.link == c.args.on)) c.in-Ok.asks ≡ false = ap (λ (x : List LinkAsk). list_all (λ a. not (a.link == c.args.on)) x) (sym c.as_slice-2.ensures) ∙ sym c.are_asked_elsewhere.ensures ∙ c.if-not-are_asked_elsewhere.true in
    asked_here c.args.on c.args.mac c.args.value.now c.in-Ok.asks c.in-Ok.ensures.only not_all

pub returns-in_default : goal.returns-in_default
returns-in_default c = no_mld c.args.on c.args.mac c.args.value.now (rw c.in_default.is at c.in_ok-mld.ensures)
