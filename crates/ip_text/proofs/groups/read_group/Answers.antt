use Rattle.std.proofs.Common.{arith}
use Rattle.ip_text.proofs.Spelling.{group_below}
use Rattle.ip_text.proofs.groups.read_group.Goals as goal

pub returns-in_default-clause-only : goal.returns-in_default-clause-only
returns-in_default-clause-only c g is =
    absurd (c.in_default.ensures (is.digits, omega (arith, group_below c.args.text.now g is, is.value)))
