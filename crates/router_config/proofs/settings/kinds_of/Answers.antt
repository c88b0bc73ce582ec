use Rattle.std.proofs.Common.{map, sym, ◌∙◌}
use Rattle.toml.specs.View.{view}
use Rattle.router_config.proofs.Found.{rows_below-zero, rows_below-more, rows_below-AllBelow}
use Rattle.router_config.proofs.settings.kinds_of.Goals as goal

pub loop-number-init : goal.loop-number-init
loop-number-init c = c.new-kinds.ensures ∙ sym (rows_below-zero (map view c.args.interfaces.now))

pub push_kind-requires-clause-below : goal.push_kind-requires-clause-below
push_kind-requires-clause-below c =
    rw c.loop-number.invariant (rows_below-AllBelow (map view c.args.interfaces.now) c.loop-number.number)

pub loop-number-preserved : goal.loop-number-preserved
loop-number-preserved c =
    c.in_ok-push_kind.ensures.ok
    ∙ rw (c.loop-number.invariant, c.kind_at.ensures)
    (sym (rows_below-more (map view c.args.interfaces.now) c.loop-number.number))
