use Rattle.control_core.proofs.Logs.{added_there}
use Rattle.control_core.proofs.row_updates.add_route.Goals as goal

pub remove_row-requires : goal.remove_row-requires
remove_row-requires g c = added_there (rw c.in_ok-add_row.was at c.add_row.ensures.ok)
