use Rattle.urpf_base.proofs.Bits.{agree_told}
use Rattle.urpf_base.proofs.prefixes.agree_32.Goals as goal

pub returns : goal.returns
returns c =
    agree_told 32 c.args.len c.args.a c.args.b _ _ c.requires c.ranges.a.fits c.ranges.b.fits c.cleared_32.ensures
    c.cleared_32-2.ensures
