use Rattle.roa_irr.specs.Lines.{trimmed}
use Rattle.roa_irr.proofs.Spelled.{no_origin}
use Rattle.roa_irr.proofs.values.asn_of.Goals as goal

pub returns-in-Parted : goal.returns-in-Parted
returns-in-Parted c joined is = no_origin (trimmed joined) (rw c.in-Parted.is at is)
