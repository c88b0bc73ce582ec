use Rattle.std.proofs.Common.{refl}
use Rattle.urpf_cli.specs.Words.{offline}
use Rattle.urpf_cli.proofs.words.session_words.Goals as goal

pub returns-in-None-clause-sessions : goal.returns-in-None-clause-sessions
returns-in-None-clause-sessions c = λ are.
    absurd (c.in-None.ensures.only (offline are.config are.book are.pairs are.sessions)
    (are, refl, refl, refl, refl))
