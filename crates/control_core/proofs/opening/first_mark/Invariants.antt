use Rattle.std.proofs.Common.{◌≡◌}
use Rattle.control_core.specs.Openings.{zeros}
use Rattle.control_core.proofs.opening.first_mark.Given as goal

abbrev pub invariant-sessions : goal.invariant-sessions
invariant-sessions l = l.items.items ≡ zeros l.counter
