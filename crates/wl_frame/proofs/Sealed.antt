-- The text of the stand-in for a cipher.
use Rattle.std.specs.Prelude.{◌≡◌, ℕ, ◌-◌, List, ◌++◌, length, drop}
use Rattle.std.proofs.Common.{ap, ◌∙◌}
use Rattle.std.proofs.Math.Seq.{drop-append_seam}
use Rattle.wl_frame.specs.declared.key.Key.{Key}
use Rattle.wl_frame.specs.StandIn.{tag, stand_in, body_end}

-- its last 8 octets are the tag
pub tag_in : (key : Key) (nonce aad body : List ℕ) → drop (length (stand_in key nonce aad body) - 8) (stand_in key nonce aad body) ≡ tag key nonce aad body
unfolding stand_in
tag_in key nonce aad body = ap (λ (n : ℕ). drop n (body ++ tag key nonce aad body)) (body_end key nonce aad body) ∙ drop-append_seam body (tag key nonce aad body)
