use Rattle.std.proofs.Common.{length}
use Rattle.runbook.proofs.Books.{Reached}
use Rattle.runbook.proofs.book.read_book.Given as goal

-- the lines before the rest were taken, and are in the book
abbrev pub invariant-loop-rest : goal.invariant-loop-rest
invariant-loop-rest l = Reached l.config l.text l.rest l.number l.rounds l.book

abbrev pub decreases-loop-rest : goal.decreases-loop-rest
decreases-loop-rest l = length l.rest
