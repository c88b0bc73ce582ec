use Rattle.std.proofs.Common.{◌∙◌, sym, subst}
use Rattle.forward_worker.specs.Rows.{NamesSource}
use Rattle.forward_worker.proofs.Records.{names_source, octets_first}
use Rattle.forward_worker.proofs.record_reader.read_octets.Goals as goal

pub returns-in-Whole-clause-read : goal.returns-in-Whole-clause-read
returns-in-Whole-clause-read g c =
    let read = c.in-Whole.ensures.read in
    let e = c.source_of.ensures in (
      read.0,
      subst (λ s. NamesSource read.0 s) (sym c.ok.ensures.value)
          (names_source read.0 c.octets.result.now c.source_of.result (c.octets.ensures.octets ∙ read.3) e.found e.only),
      octets_first c.args.iface c.args.count read.0 _ _ read.2 read.1,
    )
