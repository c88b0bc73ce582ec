use Rattle.std.proofs.Common.{◌≡◌, None, subst}
use Rattle.toml.proofs.Views.{view-Table}
use Rattle.router_config.specs.Rules.{first_broken, rules}
use Rattle.router_config.proofs.Blank.{kept_not_blank}
use Rattle.router_config.proofs.reading.read_config.Goals as goal

pub returns-in-Ok-clause-memory : goal.returns-in-Ok-clause-memory
returns-in-Ok-clause-memory c is =
    kept_not_blank c.args.text.now _ c.in-Ok.ensures.ok.1
    (subst (λ whole. first_broken (rules whole) ≡ None) (view-Table c.in-Ok.table) (c.read_document.ensures.memory is))
