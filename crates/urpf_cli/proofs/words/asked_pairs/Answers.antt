use Rattle.std.proofs.Common.{map, string_bytes, refl}
use Rattle.urpf_cli.specs.Words.{AskFor, offline, request_of}
use Rattle.urpf_cli.proofs.words.asked_pairs.Goals as goal

pub returns-in-Some-Offline-clause-found : goal.returns-in-Some-Offline-clause-found
returns-in-Some-Offline-clause-found c =
    let asked : AskFor (map string_bytes c.args.words.now) (request_of c.in-Some-Offline.field-0) =
    c.in-Some-Offline.ensures.found in
    let found = rw c.in-Some-Offline.field-0-is at asked in (found.0, found.3)

pub returns-in-None-clause-none : goal.returns-in-None-clause-none
returns-in-None-clause-none c = (
  λ is are. absurd
      (c.in-None.ensures.only (offline are.config are.book are.pairs are.sessions) (are, refl, refl, refl, refl)),
  λ never. refl,
)
