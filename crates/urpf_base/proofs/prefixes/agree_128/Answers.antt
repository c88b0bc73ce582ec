use Rattle.urpf_base.proofs.Bits.{agree_told}
use Rattle.urpf_base.proofs.prefixes.agree_128.Goals as goal

pub returns : goal.returns
returns c =
    agree_told 128 c.args.len c.args.a c.args.b _ _ c.requires c.ranges.a.fits c.ranges.b.fits c.cleared_128.ensures
    c.cleared_128-2.ensures
