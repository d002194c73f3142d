-- The stand-in for a cipher: the body as it is, and behind it the first 8 octets of SHA-256
-- (FIPS 180-4) over the key, the nonce, the AAD and the body.
use Rattle.std.specs.Prelude.{◌≡◌, ℕ, zero, suc, ◌+◌, ◌-◌, ◌*◌, ◌≤◌, List, ◌++◌, length, take, slice_index}
use Rattle.std.specs.Int.{w32, to_be_bytes}
use Rattle.std.proofs.Common.{refl, sym, ap, ◌∙◌, arith, length-append}
use Rattle.std.proofs.lemmas.List.{length-take-le}
use Rattle.std.proofs.Math.Seq.{take-append_seam}
use Rattle.sha2.specs.Sha256.{sha256, digest_bytes, final_hash, initial_hash_256}
use Rattle.wl_frame.specs.declared.key.Key.{Key}
use Rattle.wl_frame.specs.Nonce.{highest_first}
use Rattle.wl_frame.specs.Sealing.{Sealing}

-- what the digest is taken of: key base, key number, nonce, length of the AAD, AAD, body; the two
-- numbers in two octets, the highest first
abbrev pub digested : Sealing
digested key nonce aad body = key.base ++ (highest_first 2 key.number ++ (nonce ++ (highest_first 2 (length aad) ++ (aad ++ body))))

abbrev pub tag : Sealing
tag key nonce aad body = take 8 (sha256 (digested key nonce aad body))

unfoldable pub stand_in : Sealing
stand_in key nonce aad body = body ++ tag key nonce aad body

-- ---- it is a sealing; what an `impl` gives as a proof stands in `specs/`

words_len : (hash : List ℕ) (words : ℕ) → length (digest_bytes hash words) ≡ 4 * words
unfolding digest_bytes
words_len hash zero = refl
words_len hash (suc words) = omega (arith, words_len hash words, length-append (digest_bytes hash words) (to_be_bytes w32 (slice_index hash words)))

pub digest_len : (message : List ℕ) → length (sha256 message) ≡ 32
unfolding sha256
digest_len message = words_len (final_hash initial_hash_256 message) 8

pub tag_len : (key : Key) (nonce aad body : List ℕ) → length (tag key nonce aad body) ≡ 8
tag_len key nonce aad body = let len = digest_len (digested key nonce aad body) in length-take-le 8 (sha256 (digested key nonce aad body)) (omega arith)

pub text_len : (key : Key) (nonce aad body : List ℕ) → length (stand_in key nonce aad body) ≡ length body + 8
unfolding stand_in
text_len key nonce aad body = omega (arith, length-append body (tag key nonce aad body), tag_len key nonce aad body)

pub body_end : (key : Key) (nonce aad body : List ℕ) → length (stand_in key nonce aad body) - 8 ≡ length body
body_end key nonce aad body = omega (arith, text_len key nonce aad body)

-- the text without its last 8 octets is the body
pub body_in : (key : Key) (nonce aad body : List ℕ) → take (length (stand_in key nonce aad body) - 8) (stand_in key nonce aad body) ≡ body
unfolding stand_in
body_in key nonce aad body = ap (λ (n : ℕ). take n (body ++ tag key nonce aad body)) (body_end key nonce aad body) ∙ take-append_seam body (tag key nonce aad body)

pub stand_in_one_body : (key : Key) (nonce aad body other : List ℕ) → stand_in key nonce aad body ≡ stand_in key nonce aad other → body ≡ other
stand_in_one_body key nonce aad body other e = sym (body_in key nonce aad body) ∙ ap (λ (t : List ℕ). take (length t - 8) t) e ∙ body_in key nonce aad other

pub stand_in_longer : (key : Key) (nonce aad body : List ℕ) → length (stand_in key nonce aad body) ≤ length body + 64
stand_in_longer key nonce aad body = omega (arith, text_len key nonce aad body)
