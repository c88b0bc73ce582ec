use Rattle.std.proofs.Common.{length, ap, length-append, arith, decimal}
use Rattle.std.proofs.lemmas.Fmt.{length-decimal-le}
use Rattle.ip_text.proofs.printing.put_octet.Goals as goal

pub put_digits-requires : goal.put_digits-requires
put_digits-requires c =
    omega (
      arith,
      length-decimal-le 3 c.args.octet (omega arith) (omega (arith, c.ranges.octet.fits))
          (omega (arith, c.ranges.octet.fits)),
    )

pub returns-clause-short : goal.returns-clause-short
returns-clause-short c =
    omega (
      arith,
      length-decimal-le 3 c.args.octet (omega arith) (omega (arith, c.ranges.octet.fits))
          (omega (arith, c.ranges.octet.fits)),
      ap length c.put_digits.ensures,
      length-append c.args.to.now (decimal c.args.octet),
    )
