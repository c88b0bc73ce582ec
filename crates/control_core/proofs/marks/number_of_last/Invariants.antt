use Rattle.std.proofs.Common.{◌≡◌, take}
use Rattle.control_core.specs.Worlds.{last_number}
use Rattle.control_core.proofs.marks.number_of_last.Given as goal

abbrev pub invariant-loop-mark : goal.invariant-loop-mark
invariant-loop-mark l = l.number ≡ last_number (take l.mark-index l.marks)
