use Rattle.std.proofs.Common.{◌≤◌, ◌++◌, take, ap, ◌∙◌, length-append, length-take, arith}
use Rattle.std.proofs.lemmas.Grind.{common_steps}
use Rattle.std.proofs.lemmas.List.{take-append-le}
use Rattle.forward_worker.specs.declared.octet_front.TheConstants.{FRONT_OCTETS}
use Rattle.forward_worker.proofs.Octets.{front_again, read_twice}
use Rattle.forward_worker.proofs.octet_reader.read_front.Goals as goal

pub loop-missing-preserved : goal.loop-missing-preserved
loop-missing-preserved g c =
    let old = c.loop-missing.invariant.read in
    let given = c.in-Ok.given in
    let buf = c.read.new.buf in
    let piece = take given buf in
    let within : given ≤ c.loop-missing.missing = grind (arith, common_steps) in
    record {
      read = (
        old.0 ++ piece,
        read_twice old.0 piece _ _ _ old.1 c.in-Ok.ensures.octets.0,
        omega (arith, old.2, within, length-append old.0 piece, length-take given buf, c.in-Ok.ensures.bound.0),
        c.append.ensures
            ∙ ap (λ t. take FRONT_OCTETS (c.loop-missing.front ++ t)) (take-append-le given buf _ c.in-Ok.ensures.bound.0)
            ∙ ap (λ f. take FRONT_OCTETS (f ++ piece)) old.3 ∙ front_again FRONT_OCTETS old.0 piece,
      );
      kept = c.in-Ok.ensures.cause.kept ∙ c.loop-missing.invariant.kept;
    }
