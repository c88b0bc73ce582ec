use Rattle.router_config.specs.Kinds.{AllBelow}
use Rattle.router_config.proofs.Ascending.{IsAscending-push}
use Rattle.router_config.proofs.kinds.Kinds.push.Goals as goal

pub invariant_of-self-2 : goal.invariant_of-self-2
invariant_of-self-2 c =
    let below : AllBelow c.self.inside.rows.items c.args.id = rw c.self.view_is c.requires in
    rw c.in-Ok.ensures.items (IsAscending-push c.self.inside.rows.items (c.args.id, c.args.kind) c.self.invariant below)
