use Rattle.std.proofs.Common.{arith}
use Rattle.std.proofs.lemmas.Bool.Decides.{nat_tests}
use Rattle.cover_table.proofs.Blocks.{size_is}
use Rattle.cover_table.proofs.nodes.Entry.covers.Goals as goal

pub returns-then-bits-self : goal.returns-then-bits-self
returns-then-bits-self c =
    let is = size_is c.args.width c.args.self.now.len in
    grind (arith, nat_tests)
