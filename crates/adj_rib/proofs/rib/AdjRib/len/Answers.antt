use Rattle.std.proofs.Common.{ap, length, sym, ◌∙◌}
use Rattle.std.proofs.lemmas.List.{length-map}
use Rattle.std.specs.FinMap.{len, len-entries}
use Rattle.adj_rib.specs.Routes.{pairs_of}
use Rattle.adj_rib.proofs.rib.AdjRib.len.Goals as goal

pub returns-clause-count : goal.returns-clause-count
returns-clause-count c =
    c.len.ensures.count ∙ ap len c.self.view_is ∙ len-entries c.args.self.now
    ∙ sym (length-map (pairs_of c.args.self.now) (λ e. e.0))
