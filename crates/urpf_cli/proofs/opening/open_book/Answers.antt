use Rattle.runbook.proofs.Named.{book_named}
use Rattle.urpf_cli.proofs.opening.open_book.Goals as goal

pub returns-in-Ok-read_book-clause-configured : goal.returns-in-Ok-read_book-clause-configured
returns-in-Ok-read_book-clause-configured g c =
    book_named c.args.config.now c.deref.result.now c.in-Ok-read_book.book c.in-Ok-read_book.ensures.found
