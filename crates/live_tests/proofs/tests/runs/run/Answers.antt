use Rattle.runbook.proofs.Named.{book_named}
use Rattle.live_tests.proofs.tests.runs.run.Goals as goal

pub run_live-result-requires-clause-configured : goal.run_live-result-requires-clause-configured
run_live-result-requires-clause-configured g c κs within =
    book_named c.expect-config.result c.as_bytes-2.result.now c.in-Ok.book c.in-Ok.ensures.found
