use Rattle.bgp_update.proofs.OutcomeLaws.{only_update, only_fault}
use Rattle.bgp_update.proofs.reading.read_update.Goals as goal

pub returns-clause-only : goal.returns-clause-only
returns-clause-only c update is =
    only_update c.args.width c.args.v6 c.args.body.now c.judge.result c.judge.ensures.found c.judge.ensures.fault update
    is

pub returns-clause-only_fault : goal.returns-clause-only_fault
returns-clause-only_fault c sub is =
    only_fault c.args.width c.args.v6 c.args.body.now c.judge.result c.judge.ensures.found c.judge.ensures.fault sub is
