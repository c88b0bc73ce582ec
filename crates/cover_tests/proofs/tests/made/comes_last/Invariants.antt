use Rattle.std.proofs.Common.{drop}
use Rattle.urpf_base.specs.Cells.{AllBefore}
use Rattle.cover_tests.proofs.tests.made.comes_last.Given as goal

-- only the changes that are left may still not come before the prefix
abbrev pub invariant-loop-change : goal.invariant-loop-change
invariant-loop-change l = AllBefore (drop l.change-index l.changes) l.prefix → AllBefore l.changes l.prefix
