use Rattle.std.proofs.Common.{◌+◌, arith}
use Rattle.ip_text.proofs.Shifts.{group_fits, fits_128}
use Rattle.ip_text.proofs.groups.with_group.Goals as goal

pub overflow_mul-result : goal.overflow_mul-result
overflow_mul-result c =
    omega (
      arith,
      fits_128 (c.args.count + 1) _ (omega arith)
          (group_fits c.args.count c.args.value 0 c.requires.small (omega arith)),
    )

pub overflow_add-result : goal.overflow_add-result
overflow_add-result c =
    omega (
      arith,
      fits_128 (c.args.count + 1) _ (omega arith)
          (group_fits c.args.count c.args.value c.args.group c.requires.small c.ranges.group.fits),
    )

pub returns-clause-fits : goal.returns-clause-fits
returns-clause-fits c = group_fits c.args.count c.args.value c.args.group c.requires.small c.ranges.group.fits
