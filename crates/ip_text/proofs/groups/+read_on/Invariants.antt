use Rattle.std.proofs.Common.{◌-◌}
use Rattle.ip_text.proofs.groups.+read_on.Given as goal

abbrev pub decreases-read_on : goal.decreases-read_on
decreases-read_on l = 8 - l.count
