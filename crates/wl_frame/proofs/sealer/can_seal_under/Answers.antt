use Rattle.std.proofs.Common.{rules, ◌≡◌, ℕ, List, subst, arith, inl, inr}
use Rattle.wl_frame.specs.Sealing.{IsOctets}
use Rattle.wl_frame.proofs.sealer.can_seal_under.Goals as goal

same : (octets other : List ℕ) → octets ≡ other → IsOctets octets → IsOctets other
same octets other e is = subst IsOctets e is

pub returns : goal.returns
returns c = record {
  base_octets = same _ _ c.as_slice.ensures c.are_octets.ensures;
  base_len = search rules;
  number_fits = omega (arith, c.number_of.type_inv, c.number_of.ensures);
  nonce_octets = same _ _ c.as_slice-2.ensures c.are_octets-2.ensures;
  nonce_len = c.told-nonce;
  aad_octets = same _ _ c.as_slice-3.ensures c.are_octets-3.ensures;
  aad_len = elim c.len.ensures.one_of_two [ inl e ↦ inl (omega (arith, e, c.len.ensures.value)) | inr e ↦ inr (omega (arith, e, c.len.ensures.value)) ];
}
