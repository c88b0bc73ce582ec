use Rattle.std.proofs.Common.{◌∙◌, Err, ap}
use Rattle.urpf_cli.proofs.CheckEnds.{some_stream}
use Rattle.urpf_cli.proofs.OpeningLaws.{config_octets, told_octets}
use Rattle.urpf_cli.proofs.opening.open_config.Goals as goal

pub returns-in-Ok-read_config-clause-some : goal.returns-in-Ok-read_config-clause-some
returns-in-Ok-read_config-clause-some g c =
    some_stream (g.S.Source.left c.args.source.now) c.in-Ok.text.items c.in-Ok.ensures.whole
    (rw c.deref.ensures.value at (config_octets c.deref.result.now c.in-Ok-read_config.config
    c.in-Ok-read_config.ensures.found))

pub returns-clause-memory : goal.returns-clause-memory
returns-clause-memory g c = λ is.
    told_octets (g.S.Source.left c.args.source.now) c.in-Ok.text.items c.in-Ok.ensures.whole
    (rw c.deref.ensures.value at (c.read_config.ensures.memory
    (c.in-Err-OutOfMemory-read_config.is ∙ ap (λ f. Err f) c.in-Err-OutOfMemory-read_config.field-0-is)))
