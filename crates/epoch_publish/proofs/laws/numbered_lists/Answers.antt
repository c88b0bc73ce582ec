use Rattle.std.proofs.Common.{◌+◌, length, arith}
use Rattle.epoch_publish.proofs.Numbering.{numbered_front, numbered_more}
use Rattle.epoch_publish.proofs.laws.numbered_lists.Goals as goal

pub returns-clause-begins : goal.returns-clause-begins
returns-clause-begins c = numbered_front 1

pub returns-clause-next : goal.returns-clause-next
returns-clause-next c batches batch numbered next = numbered_more 1 batches batch numbered (omega (arith, next))
