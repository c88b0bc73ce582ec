use Rattle.std.specs.Prelude.{codes, decimal}
use Rattle.urpf_cli.proofs.Lines.{pushed_four}
use Rattle.urpf_cli.proofs.status_text.put_session_count.Goals as goal

pub returns-clause-text : goal.returns-clause-text
returns-clause-text c =
    let parts =
    pushed_four c.args.to.now (decimal c.args.given) (codes " sessions given, ") (decimal c.args.wanted)
    (codes " wanted") in
    cc
