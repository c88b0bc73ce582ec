use Rattle.urpf_cli.proofs.Outputs.{one_output, same_by_cuts, some_output}
use Rattle.urpf_cli.proofs.laws.one_output.Goals as goal

pub returns-clause-some : goal.returns-clause-some
returns-clause-some c = some_output

pub returns-clause-only : goal.returns-clause-only
returns-clause-only c = one_output

pub returns-clause-cuts : goal.returns-clause-cuts
returns-clause-cuts c = same_by_cuts
