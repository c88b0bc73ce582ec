use Rattle.std.proofs.Common.{length, ap, arith}
use Rattle.run_tests.proofs.Opened.{sessions_kept}
use Rattle.run_tests.proofs.tests.control.comes.Goals as goal

pub pull-result-requires-clause-session : goal.pull-result-requires-clause-session
pull-result-requires-clause-session g c = omega (
  arith,
  ap length (sessions_kept _ _ _ c.edit.result c.edit.ensures.ok c.edit.ensures.err),
  c.opened-control.ensures.sessions,
  c.requires.sessions,
)
