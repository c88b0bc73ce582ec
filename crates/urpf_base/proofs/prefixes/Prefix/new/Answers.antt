use Rattle.std.proofs.Common.{ap, arith}
use Rattle.urpf_base.proofs.Bits.{cleared-cleared}
use Rattle.urpf_base.proofs.prefixes.Prefix.new.Goals as goal
use Rattle.urpf_base.specs.declared.address.Addr.TheVariants.{V4, V6}

pub invariant_of-result : goal.invariant_of-result
invariant_of-result c =
    rw c.cleared_32.ensures
    (record { within = omega arith; zeros = ap V4 (cleared-cleared 32 c.args.len c.in-V4.number) })

pub invariant_of-result-in-V6 : goal.invariant_of-result-in-V6
invariant_of-result-in-V6 c =
    rw c.cleared_128.ensures
    (record { within = omega arith; zeros = ap V6 (cleared-cleared 128 c.args.len c.in-V6.number) })
