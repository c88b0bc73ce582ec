use Rattle.std.proofs.Common.{◌+◌, ◌≤◌}
use Rattle.cover_tests.proofs.tests.nested.table_of_33.Given as goal

-- there is room for the prefixes that are left
abbrev pub invariant-loop-len : goal.invariant-loop-len
invariant-loop-len g l = 33 ≤ l.table.spare + l.len
