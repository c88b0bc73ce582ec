use Rattle.urpf_cli.specs.declared.words.TableForm.TheVariants.{Vrp, Irr}
use Rattle.urpf_cli.proofs.TableLaws.{refused_many}
use Rattle.urpf_cli.proofs.pair_table.read_table.Goals as goal

pub returns-in-Vrp-clause-many : goal.returns-in-Vrp-clause-many
returns-in-Vrp-clause-many c =
    rw c.in-Vrp.is (refused_many Vrp c.args.text.now c.read_vrps.result c.read_vrps.ensures.only)

pub returns-in-Irr-clause-many : goal.returns-in-Irr-clause-many
returns-in-Irr-clause-many c =
    rw c.in-Irr.is (refused_many Irr c.args.text.now c.read_irr.result c.read_irr.ensures.only)
