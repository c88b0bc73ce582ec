use Rattle.std.proofs.Common.{◌≡◌, ◌++◌, map, take, drop}
use Rattle.router_config.specs.Edits.{edited_row}
use Rattle.router_config.proofs.kinds.apply_to.Given as goal

abbrev pub invariant-loop-row : goal.invariant-loop-row
invariant-loop-row l =
    l.rows ≡ map (edited_row l.edit) (take l.row-index l.fn.rows) ++ drop l.row-index l.fn.rows
