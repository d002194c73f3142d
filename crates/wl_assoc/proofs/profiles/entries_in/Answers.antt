use Rattle.std.proofs.Common.{◌≡◌, ℕ, ◌<◌, get_or, false, true, replicate, refl, sym, ap, subst, ◌∙◌, Err}
use Rattle.wl_elem.specs.declared.fault.Fault.{Fault}
use Rattle.wl_elem.specs.Answers.{IfRefused, in_sub, with_refusal}
use Rattle.wl_assoc.specs.Profiles.{ProfilesAs}
use Rattle.wl_assoc.proofs.Entries.{is_at, none_read, unmarked, other_read, profile_read, repeated_here, refused_as, all_read}
use Rattle.wl_assoc.proofs.profiles.entries_in.Goals as goal

pub profiles-init : goal.profiles-init
profiles-init c = rw c.new-entries.ensures.items (none_read c.args.response c.args.outer.now c.args.subs.now (replicate 15 false) refl (unmarked 15))

pub profiles-preserved-in_default : goal.profiles-preserved-in_default
profiles-preserved-in_default c =
    let at = is_at c.args.subs.now c.profiles.i c.index-subs-i.result _ c.profiles-test.true c.index-subs-i.is c.in_default.is in
    other_read c.args.response c.args.outer.now c.args.subs.now c.profiles.i c.profiles.entries.items c.profiles.seen c.in_default.field-0 c.in_default.field-1 at c.profiles.invariant

pub returns-then-seen-link-clause-refused : goal.returns-then-seen-link-clause-refused
returns-then-seen-link-clause-refused c =
    let p = c.in-Profile.profile in
    let at = is_at c.args.subs.now c.profiles.i c.index-subs-i.result _ c.profiles-test.true c.index-subs-i.is c.in-Profile.is in
    let same = c.get-link.ensures.value in
    let says = λ (fault : Fault). IfRefused fault (λ refusal. ProfilesAs c.args.response c.args.outer.now c.args.subs.now (Err refusal)) in
    subst says (sym (c.in_sub.ensures ∙ ap (with_refusal (in_sub c.profiles.i)) c.at.ensures))
    (repeated_here c.args.response c.args.outer.now c.args.subs.now c.profiles.i c.profiles.entries.items c.profiles.seen p at (subst (λ (n : ℕ). n < 15) same c.get-link.ensures.bound) (subst (λ (n : ℕ). get_or c.profiles.seen n false ≡ true) same c.if-seen-link.true) c.profiles.invariant)

pub returns-in-Err-clause-refused : goal.returns-in-Err-clause-refused
returns-in-Err-clause-refused c =
    let p = c.in-Profile.profile in
    let at = is_at c.args.subs.now c.profiles.i c.index-subs-i.result _ c.profiles-test.true c.index-subs-i.is c.in-Profile.is in
    let same = c.get-link.ensures.value in
    let says = λ (fault : Fault). IfRefused fault (λ refusal. ProfilesAs c.args.response c.args.outer.now c.args.subs.now (Err refusal)) in
    subst says (sym c.in_sub-in-Err.ensures)
    (refused_as c.args.response c.args.outer.now c.args.subs.now c.profiles.i c.profiles.entries.items c.profiles.seen p c.in-Err.fault at (subst (λ (n : ℕ). n < 15) same c.get-link.ensures.bound) (subst (λ (n : ℕ). get_or c.profiles.seen n false ≡ false) same c.if-seen-link.false) c.in-Err.ensures.refused c.profiles.invariant)

pub profiles-preserved : goal.profiles-preserved
profiles-preserved c =
    let p = c.in-Profile.profile in
    let at = is_at c.args.subs.now c.profiles.i c.index-subs-i.result _ c.profiles-test.true c.index-subs-i.is c.in-Profile.is in
    let same = c.get-link.ensures.value in
    let more = profile_read c.args.response c.args.outer.now c.args.subs.now c.profiles.i c.profiles.entries.items c.profiles.seen p c.in-Ok.entry at (subst (λ (n : ℕ). n < 15) same c.get-link.ensures.bound) (subst (λ (n : ℕ). get_or c.profiles.seen n false ≡ false) same c.if-seen-link.false) c.in-Ok.ensures.read c.in-Ok.ensures.entry c.profiles.invariant in
    rw (c.in_ok-push-in-Ok.ensures.items, same) more

pub returns-clause-read : goal.returns-clause-read
returns-clause-read c = all_read c.args.response c.args.outer.now c.args.subs.now c.profiles.i c.profiles.entries.items c.profiles.seen c.profiles-test.false c.profiles.invariant
