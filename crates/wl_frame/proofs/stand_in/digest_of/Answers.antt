use Rattle.std.proofs.Common.{◌≡◌, ℕ, List, [], ◌++◌, length, ap, ◌∙◌, append_assoc}
use Rattle.sha2.specs.Sha256.{sha256}
use Rattle.wl_frame.specs.Nonce.{highest_first}
use Rattle.wl_frame.proofs.stand_in.digest_of.Goals as goal

in_order : (a b c d e f u v w x y : List ℕ) → u ≡ a → v ≡ b → w ≡ c → x ≡ d → y ≡ e → ((((([] ++ u) ++ v) ++ w) ++ x) ++ y) ++ f ≡ a ++ (b ++ (c ++ (d ++ (e ++ f))))
in_order a b c d e f u v w x y h i j k l = rw (h, i, j, k, l) (simp append_assoc)

pub returns : goal.returns
returns c =
    let key = c.args.key.now in
    let message = c.finalize.ensures _ (c.update-6.ensures _ (c.update-5.ensures _ (c.update-4.ensures _ (c.update-3.ensures _ (c.update-2.ensures _ (c.update.ensures [] c.new-hasher.ensures)))))) in
    let len = c.from.ensures ∙ c.len.ensures.value in
    message ∙ ap sha256 (in_order key.base (highest_first 2 key.number) c.args.nonce.now (highest_first 2 (length c.args.aad.now)) c.args.aad.now c.args.body.now _ _ _ _ _
    c.as_slice.ensures (c.as_slice-2.ensures ∙ c.to_be_bytes-number.ensures) c.as_slice-3.ensures (c.as_slice-4.ensures ∙ c.to_be_bytes-aad_len.ensures ∙ ap (highest_first 2) len) c.as_slice-5.ensures)
