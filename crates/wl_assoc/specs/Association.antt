-- Bodies of Association Request and Association Response frames (IEEE Std 802.11, 9.3.3.5 and
-- 9.3.3.6). Numbers have their lowest octet first.
--
-- | field of a request   | octets   |
-- |----------------------|----------|
-- | capability           | 2        |
-- | listen interval      | 2        |
-- | elements             | the rest |
--
-- | field of a response  | octets   |
-- |----------------------|----------|
-- | capability           | 2        |
-- | status               | 2        |
-- | AID                  | 2        |
-- | elements             | the rest |
use Rattle.std.specs.Prelude.{◌≡◌, ℕ, ◌*◌, ◌/◌, ◌<◌, ◌≤◌, ◌⊎◌, List, ◌++◌, length, drop, Result, Ok, Err}
use Rattle.wl_elem.specs.declared.fault.Refusal.{Refusal}
use Rattle.wl_elem.specs.declared.why.Why.TheVariants.{Truncated}
use Rattle.wl_elem.specs.Answers.{refusal_at, moved}
use Rattle.wl_elem.specs.Element.{body_limit}
use Rattle.wl_elem.specs.ElementList.{Elems, ElemsRefused}
use Rattle.wl_elem.specs.Octets.{octets_of}
use Rattle.wl_assoc.specs.declared.association.AssocAsk.{AssocAsk}
use Rattle.wl_assoc.specs.declared.association.AssocReply.{AssocReply}

-- the body is this request's
pub record AskOf (ask : AssocAsk) (body : List ℕ) : Type 0 where
  pub capability : ask.capability < 65536
  pub listen : ask.listen < 65536
  pub elems : List ℕ
  pub list : Elems ask.elements elems
  pub text : body ≡ octets_of 2 ask.capability ++ (octets_of 2 ask.listen ++ elems)

-- the body is this response's
pub record ReplyOf (reply : AssocReply) (body : List ℕ) : Type 0 where
  pub capability : reply.capability < 65536
  pub status : reply.status < 65536
  pub aid : reply.aid < 65536
  pub elems : List ℕ
  pub list : Elems reply.elements elems
  pub text : body ≡ octets_of 2 reply.capability ++ (octets_of 2 reply.status ++ (octets_of 2 reply.aid ++ elems))

-- some body, no longer than may be handed in, is this value's

abbrev pub IsAskWritable : AssocAsk → Type 0
IsAskWritable ask = (body : List ℕ) × (length body ≤ body_limit) × AskOf ask body

abbrev pub IsReplyWritable : AssocReply → Type 0
IsReplyWritable reply = (body : List ℕ) × (length body ≤ body_limit) × ReplyOf reply body

-- The body is refused: a field isn't whole, or the elements behind the fixed fields are refused.
abbrev pub BodyRefused : ℕ → List ℕ → Refusal → Type 0
BodyRefused fixed body refusal =
    ((length body < fixed) × (refusal ≡ refusal_at (2 * (length body / 2)) Truncated))
    ⊎ ((fixed ≤ length body) × (inside : Refusal) × ElemsRefused (drop fixed body) inside × (refusal ≡ moved fixed inside))

abbrev pub AskRefused : List ℕ → Refusal → Type 0
AskRefused body refusal = BodyRefused 4 body refusal

abbrev pub ReplyRefused : List ℕ → Refusal → Type 0
ReplyRefused body refusal = BodyRefused 6 body refusal

-- the body read as a value, or as refused

abbrev pub ReadsAsk : List ℕ → Result AssocAsk Refusal → Type 0
ReadsAsk body (Ok ask) = AskOf ask body
ReadsAsk body (Err refusal) = AskRefused body refusal

abbrev pub ReadsReply : List ℕ → Result AssocReply Refusal → Type 0
ReadsReply body (Ok reply) = ReplyOf reply body
ReadsReply body (Err refusal) = ReplyRefused body refusal
