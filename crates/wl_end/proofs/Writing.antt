-- Frames that are short enough to be written.
use Rattle.std.proofs.Common.{◌≡◌, ℕ, ◌+◌, ◌*◌, ◌≤◌, true, List, ◌++◌, length, Some, Result, Ok, Err, IfOk, refl, sym, ap, ◌∙◌, arith, length-append}
use Rattle.wl_elem.specs.Octets.{octets_of}
use Rattle.wl_frame.specs.declared.header.Header.{Header}
use Rattle.wl_frame.specs.declared.header.Kind.{Kind}
use Rattle.wl_frame.specs.declared.header.Kind.TheVariants.{Qos, Action, AssocAsk, AssocReply}
use Rattle.wl_frame.specs.declared.header.Protection.{Protection}
use Rattle.wl_frame.specs.declared.key.Key.{Key}
use Rattle.wl_frame.specs.Sealing.{Sealing}
use Rattle.wl_frame.specs.Frame.{IsHeader, IsProtection, IsFrame, IsWritable, is_protected, header_text, qos_control, ccmp_header, spelling, frame_value}

pub if_ok : {A E : Type 0} (P Q : A → Type 0) (r : Result A E) → ((x : A) → P x → Q x) → IfOk r P → IfOk r Q
if_ok P Q (Ok x) f p = f x p
if_ok P Q (Err e) f p = tt

qos_length : (kind : Kind) → length (qos_control kind) ≤ 2
qos_length (Qos to_ap tid rest) = omega arith
qos_length Action = omega arith
qos_length AssocAsk = omega arith
qos_length AssocReply = omega arith

header_length : (h : Header) → IsHeader h → length (header_text h) ≡ 24
header_length h is =
    let last = octets_of 2 (16 * h.number) in
    let third = h.a3 ++ last in
    let second = h.a2 ++ third in
    let first = h.a1 ++ second in
    omega (arith, length-append (octets_of 2 h.duration) first, length-append h.a1 second, length-append h.a2 third, length-append h.a3 last, is.a1, is.a2, is.a3)

spelled_length : (h : Header) (p : Protection) (payload : List ℕ) → IsHeader h → length (spelling (frame_value h (Some p) payload)) ≤ 34 + length payload
spelled_length h p payload is =
    let rest = ccmp_header (Some p) ++ payload in
    let behind = qos_control h.kind ++ rest in
    omega (arith, length-append (header_text h) behind, length-append (qos_control h.kind) rest, length-append (ccmp_header (Some p)) payload, header_length h is, qos_length h.kind)

pub writable : (h : Header) (p : Protection) (payload : List ℕ) → IsHeader h → is_protected h.kind ≡ true → IsProtection p → length payload ≤ 3000 → IsWritable (frame_value h (Some p) payload)
writable h p payload is protected fits short =
    let f = frame_value h (Some p) payload in
    let whole : IsFrame f = record { header = is; protected = sym protected; protection = fits } in
    (spelling f, omega (arith, spelled_length h p payload is), record { is_frame = whole; text = refl })

-- one text of the same key, nonce and AAD
pub text_same : (text : Sealing) (key other : Key) (nonce other_nonce aad other_aad body : List ℕ) → key ≡ other → nonce ≡ other_nonce → aad ≡ other_aad → text key nonce aad body ≡ text other other_nonce other_aad body
text_same text key other nonce other_nonce aad other_aad body k n a =
    ap (λ (x : Key). text x nonce aad body) k ∙ ap (λ (x : List ℕ). text other x aad body) n ∙ ap (λ (x : List ℕ). text other other_nonce x body) a

pub spelled_same : (h other : Header) (p : Protection) (payload text : List ℕ) → h ≡ other → payload ≡ text → spelling (frame_value h (Some p) payload) ≡ spelling (frame_value other (Some p) text)
spelled_same h other p payload text e f =
    ap (λ (x : Header). spelling (frame_value x (Some p) payload)) e ∙ ap (λ (x : List ℕ). spelling (frame_value other (Some p) x)) f
