use Rattle.std.proofs.Common.{◌-◌, arith}
use Rattle.urpf_base.proofs.Bits.{cleared-mask}
use Rattle.urpf_base.proofs.prefixes.cleared_128.Goals as goal

pub returns : goal.returns
returns c = cleared-mask 128 (128 - c.args.len) c.args.number (omega arith) c.ranges.number.fits
