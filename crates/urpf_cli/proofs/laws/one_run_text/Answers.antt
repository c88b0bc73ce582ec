use Rattle.urpf_cli.proofs.OneText.{one_text}
use Rattle.urpf_cli.proofs.SameRuns.{itself}
use Rattle.run_lines.proofs.SomeText.{some_gives, some_text}
use Rattle.urpf_cli.proofs.laws.one_run_text.Goals as goal

pub returns-clause-step : goal.returns-clause-step
returns-clause-step c = some_gives

pub returns-clause-some : goal.returns-clause-some
returns-clause-some c = some_text

pub returns-clause-only : goal.returns-clause-only
returns-clause-only c = λ run. one_text run run (itself run)
