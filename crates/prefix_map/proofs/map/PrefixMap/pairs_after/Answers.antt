use Rattle.std.proofs.Common.{sym, ap, ◌∙◌}
use Rattle.std.specs.Option.{option_copied}
use Rattle.prefix_map.specs.Keys.{short_block, long_block}
use Rattle.prefix_map.specs.Kept.{joined}
use Rattle.prefix_map.specs.Mapped.{entries_after}
use Rattle.prefix_map.proofs.Seen.{after-seen}
use Rattle.prefix_map.proofs.map.PrefixMap.pairs_after.Goals as goal

pub returns-clause-list : goal.returns-clause-list
returns-clause-list g c =
    c.over.ensures
    ∙ (λ i. joined short_block long_block (c.range-short.ensures.between tt i) (c.range-long.ensures.between tt i))
    ∙ sym (after-seen _ _ c.self.invariant (option_copied c.args.start) c.short_start.result c.long_start.result
    c.short_start.ensures c.long_start.ensures)
    ∙ ap (entries_after (option_copied c.args.start)) c.self.view_is
