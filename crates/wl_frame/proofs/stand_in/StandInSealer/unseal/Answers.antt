use Rattle.std.proofs.Common.{arith, rules, true, false, ◌≡◌, ◌++◌, ◌-◌, List, ℕ, length, take, drop, sym, ap, ◌∙◌}
use Rattle.std.specs.Prelude.{IsTrue}
use Rattle.std.proofs.lemmas.List.{length-take-le, take-append-drop}
use Rattle.wl_frame.specs.declared.key.Key.{Key}
use Rattle.wl_frame.specs.StandIn.{tag, stand_in, text_len, body_in}
use Rattle.wl_frame.proofs.Sealed.{tag_in}
use Rattle.wl_frame.proofs.stand_in.StandInSealer.unseal.Goals as goal

pub returns-then-sealed-lt8-clause-closed : goal.returns-then-sealed-lt8-clause-closed
returns-then-sealed-lt8-clause-closed c b e =
    let short = c.if-sealed-lt8.true in
    let len = ap length e ∙ text_len c.args.key.now c.args.nonce.now c.args.aad.now b in
    omega arith

-- of a text of this body the front is the body and the last octets are its tag
last_is : (key : Key) (nonce aad b sealed body last : List ℕ) → sealed ≡ stand_in key nonce aad b → body ≡ take (length sealed - 8) sealed → last ≡ drop (length sealed - 8) sealed → last ≡ tag key nonce aad body
last_is key nonce aad b sealed body last e front back =
    let same : body ≡ b = front ∙ ap (λ (t : List ℕ). take (length t - 8) t) e ∙ body_in key nonce aad b in
    back ∙ ap (λ (t : List ℕ). drop (length t - 8) t) e ∙ tag_in key nonce aad b ∙ ap (tag key nonce aad) (sym same)

is_text : (key : Key) (nonce aad sealed body last : List ℕ) (n : ℕ) → body ≡ take n sealed → last ≡ drop n sealed → last ≡ tag key nonce aad body → sealed ≡ stand_in key nonce aad body
unfolding stand_in
is_text key nonce aad sealed body last n front back e =
    sym (take-append-drop n sealed) ∙ ap (λ (x : List ℕ). x ++ drop n sealed) (sym front) ∙ ap (λ (x : List ℕ). body ++ x) (sym back ∙ e)

pub returns-then-not-is_tag-clause-closed : goal.returns-then-not-is_tag-clause-closed
returns-then-not-is_tag-clause-closed c b e =
    let same = last_is c.args.key.now c.args.nonce.now c.args.aad.now b c.args.sealed.now c.split_at.result.0.now c.split_at.result.1.now e c.split_at.ensures.front c.split_at.ensures.back in
    let none : IsTrue false = c.if-not-is_tag.ensures.1 same in
    search rules

pub returns-clause-opened : goal.returns-clause-opened
returns-clause-opened c =
    let yes : IsTrue true = search rules in
    let whole = is_text c.args.key.now c.args.nonce.now c.args.aad.now c.args.sealed.now c.split_at.result.0.now c.split_at.result.1.now (length c.args.sealed.now - 8) c.split_at.ensures.front c.split_at.ensures.back (c.if-not-is_tag.ensures.0 yes) in
    whole ∙ ap (stand_in c.args.key.now c.args.nonce.now c.args.aad.now) (sym c.in_ok-body.ensures)

pub returns-clause-shorter : goal.returns-clause-shorter
returns-clause-shorter c =
    let n = length c.args.sealed.now - 8 in
    let front = ap (λ (x : List ℕ). length x) (c.in_ok-body.ensures ∙ c.split_at.ensures.front) in
    omega (arith, front, length-take-le n c.args.sealed.now (omega arith))
