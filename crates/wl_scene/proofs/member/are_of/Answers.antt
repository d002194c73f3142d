use Rattle.std.proofs.Common.{◌&&◌, Bool, List, String, Global, map, sym, ap, ◌∙◌}
use Rattle.wl_scene.proofs.Among.{keys_among, from_members, key_more}
use Rattle.wl_scene.proofs.member.are_of.Goals as goal

pub members-init : goal.members-init
members-init c = (tt, tt, from_members c.args.members.now.entries _ ∙ ap (λ (ks : List (String Global)). keys_among ks (map (λ n. n.now) c.args.names.now)) (sym (c.into_iter-name-iterator.ensures.into_iter_gives ∙ c.keys-name-items.ensures.rest)))

pub returns-then-not-is_one_of : goal.returns-then-not-is_one_of
returns-then-not-is_one_of c =
    let whole = key_more _ _ _ _ _ _ c.members.invariant.2 c.in-Some.ensures.steps c.as_str.ensures.value in
    sym (whole ∙ ap (λ (b : Bool). b && keys_among c.next.new.self (map (λ n. n.now) c.args.names.now)) (sym c.is_one_of.ensures ∙ c.if-not-is_one_of.true))

pub members-preserved : goal.members-preserved
members-preserved c =
    let whole = key_more _ _ _ _ _ _ c.members.invariant.2 c.in-Some.ensures.steps c.as_str.ensures.value in
    (tt, tt, whole ∙ ap (λ (b : Bool). b && keys_among c.next.new.self (map (λ n. n.now) c.args.names.now)) (sym c.is_one_of.ensures ∙ c.if-not-is_one_of.false))

pub returns : goal.returns
returns c = sym (c.members.invariant.2 ∙ ap (λ (ks : List (String Global)). keys_among ks (map (λ n. n.now) c.args.names.now)) c.in-None.ensures.steps.0)
