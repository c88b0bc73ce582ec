use Rattle.runbook.proofs.BookLaws.{one_book, one_fault, never_both}
use Rattle.runbook.proofs.Outcomes.{some_outcome}
use Rattle.runbook.proofs.laws.one_book.Goals as goal

pub returns-clause-only : goal.returns-clause-only
returns-clause-only c = one_book

pub returns-clause-fault_only : goal.returns-clause-fault_only
returns-clause-fault_only c = one_fault

pub returns-clause-never_both : goal.returns-clause-never_both
returns-clause-never_both c = never_both

pub returns-clause-some : goal.returns-clause-some
returns-clause-some c = some_outcome
