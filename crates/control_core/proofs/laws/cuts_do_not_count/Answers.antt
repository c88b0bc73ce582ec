use Rattle.control_core.proofs.ItemLaws.{items_by_cuts, items_cut_once, rest_by_cuts, rest_cut_once}
use Rattle.control_core.proofs.laws.cuts_do_not_count.Goals as goal

pub returns-clause-items : goal.returns-clause-items
returns-clause-items c = items_cut_once

pub returns-clause-rest : goal.returns-clause-rest
returns-clause-rest c = rest_cut_once

pub returns-clause-all : goal.returns-clause-all
returns-clause-all c = items_by_cuts

pub returns-clause-all_left : goal.returns-clause-all_left
returns-clause-all_left c = rest_by_cuts
