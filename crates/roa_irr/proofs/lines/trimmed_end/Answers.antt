use Rattle.std.proofs.Common.{◌-◌, length, sym, ◌∙◌, arith}
use Rattle.roa_irr.proofs.FirstLines.{trimmed_end-blank, trimmed_end-tight}
use Rattle.roa_irr.proofs.lines.trimmed_end.Goals as goal

pub returns-then-not-is_blank : goal.returns-then-not-is_blank
returns-then-not-is_blank c =
    let left = c.octets.left.now in
    sym (trimmed_end-tight left (length left - 1) (omega arith) (cc)) ∙ c.octets.invariant

pub octets-preserved : goal.octets-preserved
octets-preserved c =
    let left = c.octets.left.now in
    trimmed_end-blank left (length left - 1) (omega arith) (cc) ∙ c.octets.invariant
