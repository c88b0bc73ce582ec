use Rattle.urpf_cli.proofs.Deciding.{some_opening}
use Rattle.urpf_cli.proofs.OpeningLaws.{one_opening, one_refusal, opens_or_refused}
use Rattle.urpf_cli.proofs.laws.one_opening.Goals as goal

pub returns-clause-some : goal.returns-clause-some
returns-clause-some c = some_opening

pub returns-clause-only : goal.returns-clause-only
returns-clause-only c = one_opening

pub returns-clause-refusal_only : goal.returns-clause-refusal_only
returns-clause-refusal_only c = one_refusal

pub returns-clause-never_both : goal.returns-clause-never_both
returns-clause-never_both c = opens_or_refused
