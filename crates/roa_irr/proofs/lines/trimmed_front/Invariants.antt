use Rattle.std.proofs.Common.{◌≡◌, length}
use Rattle.roa_irr.specs.Lines.{trimmed_front}
use Rattle.roa_irr.proofs.lines.trimmed_front.Given as goal

-- only blanks were left out
abbrev pub invariant-octets : goal.invariant-octets
invariant-octets l = trimmed_front l.left ≡ trimmed_front l.text

abbrev pub decreases-octets : goal.decreases-octets
decreases-octets l = length l.left
