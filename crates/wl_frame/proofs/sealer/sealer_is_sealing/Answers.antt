use Rattle.wl_frame.proofs.sealer.sealer_is_sealing.Goals as goal

pub returns : goal.returns
returns g c = record { one_body = g.met.Z.Sealer.one_body c.args.z.now; longer = g.met.Z.Sealer.longer c.args.z.now }
