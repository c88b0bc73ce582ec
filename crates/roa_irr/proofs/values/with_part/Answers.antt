use Rattle.std.proofs.Common.{sym, ◌∙◌}
use Rattle.roa_irr.proofs.Parts.{trimmed-blank, trimmed-first, trimmed-parted}
use Rattle.roa_irr.proofs.Spelled.{no_octets, parted, some_octets}
use Rattle.roa_irr.proofs.values.with_part.Goals as goal

pub returns-in_default : goal.returns-in_default
returns-in_default c joined is = trimmed-parted joined c.args.part.now (rw c.in_default.is at is)

pub returns-then-is_empty : goal.returns-then-is_empty
returns-then-is_empty c joined is =
    trimmed-blank joined c.args.part.now
    (no_octets _ _ _ c.is_empty.ensures c.if-is_empty.true c.trimmed-part.ensures) ∙ rw c.in-One.is at is

pub returns-then-is_empty-2 : goal.returns-then-is_empty-2
returns-then-is_empty-2 c joined is =
    trimmed-first joined c.args.part.now
    (no_octets _ _ _ c.is_empty-2.ensures c.if-is_empty-2.true (sym (rw c.in-One.is at is)))
    ∙ sym c.trimmed-part.ensures

pub returns : goal.returns
returns c joined is =
    parted joined c.args.part.now c.in-One.text.now c.trimmed-part.result.now (rw c.in-One.is at is)
    (sym c.trimmed-part.ensures) (some_octets _ _ c.is_empty-2.ensures c.if-is_empty-2.false)
    (some_octets _ _ c.is_empty.ensures c.if-is_empty.false)
