use Rattle.std.proofs.Common.{Option, Some, None, refl, ap}
use Rattle.urpf_base.specs.declared.address.Addr.{Addr}
use Rattle.urpf_cli.specs.Words.{Request, check, offline}
use Rattle.urpf_cli.proofs.words.check_source.Goals as goal

-- the source that is asked for
source_of : Request → Option Addr
source_of (check session source) = Some source
source_of (offline config book pairs sessions) = None

pub returns-in-Some-Check-clause-only : goal.returns-in-Some-Check-clause-only
unfolding source_of
returns-in-Some-Check-clause-only c = λ a are.
    ap source_of (rw c.in-Some-Check.field-0-is at c.in-Some-Check.ensures.only (check are.session a) (are, refl))

pub returns-in-None-clause-only : goal.returns-in-None-clause-only
returns-in-None-clause-only c = λ a are. absurd (c.in-None.ensures.only (check are.session a) (are, refl))
