use Rattle.std.proofs.Common.{ap, subst, ◌∙◌}
use Rattle.rpf_plain.specs.Ahead.{InPrefixOrder}
use Rattle.rpf_plain.specs.Kept.{each_row}
use Rattle.rpf_plain.specs.RowKeys.{both_rows}
use Rattle.rpf_plain.proofs.Leading.{in_prefix_order}
use Rattle.rpf_plain.proofs.RowKeys.{ascending, rows_of}
use Rattle.rpf_plain.proofs.row_map.RowMap.rows.Goals as goal

pub returns-clause-list : goal.returns-clause-list
returns-clause-list c =
    (λ i. both_rows (c.keys.ensures.rest i) (c.keys-2.ensures.rest i))
    ∙ rows_of c.self.inside.short.entries c.self.inside.long.entries ∙ ap each_row c.self.view_is

pub returns-clause-order : goal.returns-clause-order
returns-clause-order c =
    subst (λ es. InPrefixOrder (each_row es)) c.self.view_is
    (in_prefix_order _ (ascending c.self.inside.short.entries c.self.inside.long.entries c.self.invariant))
