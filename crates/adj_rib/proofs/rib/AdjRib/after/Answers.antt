use Rattle.std.proofs.Common.{ap, ◌∙◌}
use Rattle.std.specs.Option.{IfSome, option_copied}
use Rattle.adj_rib.specs.Routes.{pairs_after}
use Rattle.adj_rib.proofs.Routes.{IsNext, if_some, next_is}
use Rattle.adj_rib.proofs.rib.AdjRib.after.Goals as goal

-- what the walk gives first
given : (c : goal.After-next) → IfSome c.next.result (IsNext (option_copied c.args.prefix) c.args.self.now)
given c =
    next_is (option_copied c.args.prefix) c.args.self.now c.next.result c.pairs_after.result c.next.new.self
    (c.pairs_after.ensures.list ∙ ap (pairs_after (option_copied c.args.prefix)) c.self.view_is) c.next.ensures.steps

pub returns-clause-held : goal.returns-clause-held
returns-clause-held c = if_some c.next.result (given c) (λ r is. is.held)

pub returns-clause-above : goal.returns-clause-above
returns-clause-above c = if_some c.next.result (given c) (λ r is. is.above)

pub returns-clause-first : goal.returns-clause-first
returns-clause-first c = if_some c.next.result (given c) (λ r is. is.first)
