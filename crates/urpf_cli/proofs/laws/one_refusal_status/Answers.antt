use Rattle.urpf_cli.proofs.RefusalStatuses.{one_status}
use Rattle.urpf_cli.proofs.laws.one_refusal_status.Goals as goal

pub returns : goal.returns
returns c = one_status
