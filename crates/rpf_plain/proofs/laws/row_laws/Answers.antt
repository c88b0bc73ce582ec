use Rattle.rpf_plain.proofs.Counted.{held, same_length}
use Rattle.rpf_plain.proofs.Repeats.{repeats-append}
use Rattle.rpf_plain.proofs.laws.row_laws.Goals as goal

pub returns-clause-held : goal.returns-clause-held
returns-clause-held c = held

pub returns-clause-joined : goal.returns-clause-joined
returns-clause-joined c = repeats-append

pub returns-clause-long : goal.returns-clause-long
returns-clause-long c = same_length
