use Rattle.std.proofs.Common.{◌≡◌, ◌≤◌, ◌+◌, drop, length}
use Rattle.cover_table.specs.Tables.{taken_over}
use Rattle.cover_table.proofs.snapshot.take_over.Given as goal

-- the changes that are left lead where all of them do, and there is room for them
abbrev pub invariant-loop-change : goal.invariant-loop-change
invariant-loop-change l = record {
  cells : taken_over (drop l.change-index l.changes) l.table.cells ≡ taken_over l.changes l.initial.table.cells;
  room : length l.changes ≤ l.table.spare + l.change-index;
}
