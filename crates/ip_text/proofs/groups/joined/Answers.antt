use Rattle.std.proofs.Common.{arith}
use Rattle.ip_text.proofs.Shifts.{joined_fits}
use Rattle.ip_text.proofs.groups.joined.Goals as goal

pub overflow_add-result : goal.overflow_add-result
overflow_add-result c =
    omega (
      arith,
      c.raised.ensures,
      joined_fits c.args.count c.args.others c.args.high c.args.low (omega arith) c.requires.high_fits
          c.requires.low_fits,
    )
