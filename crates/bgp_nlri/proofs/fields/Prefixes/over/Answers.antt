use Rattle.bgp_nlri.proofs.Laws.{in_spelled, spelled_in}
use Rattle.bgp_nlri.proofs.fields.Prefixes.over.Goals as goal

pub returns-clause-value : goal.returns-clause-value
returns-clause-value c = spelled_in c.args.family c.args.field.now c.requires.0 c.requires.1

pub returns-clause-only : goal.returns-clause-only
returns-clause-only c prefixes spelled = in_spelled c.args.family c.args.field.now prefixes spelled
