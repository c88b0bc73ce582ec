use Rattle.runbook.proofs.Named.{book_named}
use Rattle.runbook.proofs.laws.configured_lines.Goals as goal

pub returns : goal.returns
returns c = book_named
