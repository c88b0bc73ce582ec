use Rattle.std.proofs.Common.{length, ap, length-append, arith, decimal}
use Rattle.std.proofs.lemmas.Fmt.{length-decimal-le}
use Rattle.ip_text.proofs.printing.put_number.Goals as goal

pub put_digits-requires : goal.put_digits-requires
put_digits-requires c =
    omega (
      arith,
      length-decimal-le 20 c.args.n (omega arith) (omega (arith, c.ranges.n.fits)) (omega (arith, c.ranges.n.fits)),
    )

pub returns-clause-short : goal.returns-clause-short
returns-clause-short c =
    omega (
      arith,
      length-decimal-le 20 c.args.n (omega arith) (omega (arith, c.ranges.n.fits)) (omega (arith, c.ranges.n.fits)),
      ap length c.put_digits.ensures,
      length-append c.args.to.now (decimal c.args.n),
    )
