use Rattle.std.proofs.Common.{◌-◌}
use Rattle.cover_table.proofs.forks.+fork_of.Given as goal

abbrev pub decreases-fork_of : goal.decreases-fork_of
decreases-fork_of l = l.width - l.depth
