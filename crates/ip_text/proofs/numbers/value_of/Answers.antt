use Rattle.std.proofs.Common.{arith}
use Rattle.ip_text.proofs.Decimals.{digit_within, too_large, read_more}
use Rattle.ip_text.proofs.numbers.value_of.Goals as goal

pub returns-in_default : goal.returns-in_default
returns-in_default c read =
    c.in_default.ensures.value
    (digit_within c.args.radix c.args.text.now c.loop-octet.octet-index read.0 c.loop-octet-test.true)

pub returns-then-next-most : goal.returns-then-next-most
returns-then-next-most c read =
    too_large c.args.radix c.args.most c.loop-octet.octet-index c.args.text.now c.loop-octet.value c.in-Some.digit
    c.requires.low c.loop-octet-test.true c.loop-octet.invariant.is c.in-Some.ensures.value.1 (omega arith) read.1

pub loop-octet-preserved : goal.loop-octet-preserved
loop-octet-preserved c =
    read_more c.args.radix c.args.most c.loop-octet.octet-index c.args.text.now c.loop-octet.value c.in-Some.digit
    c.loop-octet.invariant c.loop-octet-test.true c.in-Some.ensures.value.0 c.in-Some.ensures.value.1 (omega arith)
