use Rattle.control_core.proofs.ItemLaws.{front_items}
use Rattle.control_core.proofs.laws.items_of_a_front.Goals as goal

pub returns : goal.returns
returns c = front_items
