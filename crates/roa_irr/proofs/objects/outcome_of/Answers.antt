use Rattle.roa_irr.specs.Tables.{IsOnly}
use Rattle.roa_irr.specs.Irr.{AttributesComeTo}
use Rattle.std.proofs.Common.{subst, sym}
use Rattle.roa_irr.proofs.Seen.{held}
use Rattle.roa_irr.proofs.objects.outcome_of.Goals as goal

pub returns-in-Held : goal.returns-in-Held
returns-in-Held c attributes sees =
    subst (λ one. IsOnly AttributesComeTo attributes one) (sym c.outcome_from.ensures)
    (held attributes c.in-Held.prefix c.in-Held.origin (rw c.in-Held.is at sees))
