use Rattle.std.proofs.Common.{◌++◌, ◌∙◌, ap}
use Rattle.std.specs.Prelude.{codes, decimal}
use Rattle.urpf_cli.proofs.Lines.{pushed_thrice}
use Rattle.urpf_cli.proofs.status_text.put_octet_limit.Goals as goal

pub returns-clause-text : goal.returns-clause-text
returns-clause-text c =
    c.push.ensures ∙ ap (λ t. t ++ codes " at octet limit") c.put_session.ensures.text
    ∙ pushed_thrice c.args.to.now (codes "session ") (decimal c.args.session) (codes " at octet limit")
