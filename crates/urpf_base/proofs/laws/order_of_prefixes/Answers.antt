use Rattle.urpf_base.proofs.Order.{compares}
use Rattle.urpf_base.proofs.laws.order_of_prefixes.Goals as goal

pub returns : goal.returns
returns c = compares
