use Rattle.std.proofs.Common.{◌≡◌, length}
use Rattle.roa_irr.specs.Lines.{trimmed_end}
use Rattle.roa_irr.proofs.lines.trimmed_end.Given as goal

-- only blanks were left out
abbrev pub invariant-octets : goal.invariant-octets
invariant-octets l = trimmed_end l.left ≡ trimmed_end l.text

abbrev pub decreases-octets : goal.decreases-octets
decreases-octets l = length l.left
