use Rattle.std.proofs.Common.{◌++◌, ◌/◌, length, ap, sym, ◌∙◌, append_assoc, length-append, arith, decimal}
use Rattle.std.proofs.lemmas.Fmt.{decimal_digit, decimal_step, decimal_nonempty}
use Rattle.ip_text.proofs.Decimals.{length-decimal_step}
use Rattle.ip_text.proofs.printing.+put_digits.Goals as goal

pub push-requires : goal.push-requires
push-requires t c = omega (arith, decimal_nonempty c.args.n c.ranges.n.fits)

pub returns-then-n-lt10 : goal.returns-then-n-lt10
returns-then-n-lt10 t c =
    c.push.ensures ∙ ap (λ ds. c.args.to.now ++ ds) (sym (decimal_digit c.args.n c.if-n-lt10.true))

pub put_digits-requires : goal.put_digits-requires
put_digits-requires t c =
    (omega arith, omega (arith, length-decimal_step c.args.n c.if-n-lt10.false c.ranges.n.fits))

pub push-requires-2 : goal.push-requires-2
push-requires-2 t c =
    omega (
      arith,
      length-decimal_step c.args.n c.if-n-lt10.false c.ranges.n.fits,
      ap length c.put_digits.ensures,
      length-append c.args.to.now (decimal (c.args.n / 10)),
    )

pub returns : goal.returns
returns t c =
    rw (c.push-2.ensures, c.put_digits.ensures, decimal_step c.args.n c.if-n-lt10.false c.ranges.n.fits, append_assoc)
