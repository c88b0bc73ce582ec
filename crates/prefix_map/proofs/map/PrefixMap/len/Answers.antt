use Rattle.std.proofs.Common.{◌+◌, sym, ap, ◌∙◌}
use Rattle.std.specs.FinMap.{len}
use Rattle.prefix_map.proofs.Seen.{len-seen}
use Rattle.prefix_map.proofs.map.PrefixMap.len.Goals as goal

pub returns-clause-count : goal.returns-clause-count
returns-clause-count g c =
    (λ i. c.len.ensures.len i + c.len-2.ensures.len i)
    ∙ sym (len-seen c.self.inside.short.entries c.self.inside.long.entries c.self.invariant) ∙ ap len c.self.view_is
