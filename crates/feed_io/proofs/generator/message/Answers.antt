use Rattle.std.proofs.Common.{arith}
use Rattle.feed_io.proofs.Generated.{update_next}
use Rattle.feed_io.proofs.generator.message.Goals as goal

pub returns-clause-next : goal.returns-clause-next
returns-clause-next c =
    rw c.block_update.ensures (update_next c.args.seed c.args.count c.args.number (omega arith) c.requires.some)
