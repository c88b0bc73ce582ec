use Rattle.std.proofs.Common.{None}
use Rattle.control_core.specs.Items.{connection_at_end}
use Rattle.control_core.proofs.ItemLaws.{left_once, some_rest}
use Rattle.control_core.proofs.laws.one_rest.Goals as goal

pub returns-clause-some : goal.returns-clause-some
returns-clause-some c = λ events. some_rest (connection_at_end None events)

pub returns-clause-only : goal.returns-clause-only
returns-clause-only c = λ events a b first second. left_once (connection_at_end None events) a b first second
