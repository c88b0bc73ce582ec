use Rattle.std.proofs.Common.{Some, ap}
use Rattle.as_path.specs.Path.{IsPath}
use Rattle.as_path.specs.Front.{segments_in}
use Rattle.as_path.proofs.PathLaws.{in_spelled, spelled_in}
use Rattle.as_path.proofs.paths.PathView.read.Goals as goal
use Rattle.as_path.proofs.paths.PathView.read.Goals.{Else-not-is_path}

is_spelled : (c : Else-not-is_path) → IsPath c.args.width c.args.value.now (segments_in c.args.width c.args.value.now)
is_spelled c = let some = c.is_path.ensures.0 c.if-not-is_path.false in
    spelled_in c.args.width c.args.value.now some.0 some.1

pub invariant_of-result : goal.invariant_of-result
invariant_of-result c = (c.requires, is_spelled c)

pub returns-clause-found : goal.returns-clause-found
returns-clause-found c = is_spelled c

pub returns-clause-only : goal.returns-clause-only
returns-clause-only c segments spelled = ap (λ ss. Some ss) (in_spelled c.args.width c.args.value.now segments spelled)
