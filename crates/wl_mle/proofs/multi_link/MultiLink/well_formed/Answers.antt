use Rattle.wl_mle.proofs.Lengths.{is_writable, is_not_too_long}
use Rattle.wl_mle.proofs.multi_link.MultiLink.well_formed.Goals as goal

pub returns-clause-exact : goal.returns-clause-exact
returns-clause-exact c = (
  λ h. is_writable c.items_spelled.ensures c.items_length.ensures c.args.self.now (c.fits.ensures.0 c.if-not-fits.false) (c.is_within.ensures.0 h),
  λ written. c.is_within.ensures.1 (is_not_too_long c.items_length.ensures c.args.self.now written),
)
