use Rattle.prefix_map.proofs.Outcomes.{if_ok}
use Rattle.rpf_plain.specs.World.{roles_of}
use Rattle.rpf_plain.proofs.Told.{is_table}
use Rattle.rpf_plain.proofs.table.table_of.Goals as goal

pub returns : goal.returns
returns c =
    if_ok c.with_pairs.result c.with_pairs.ensures
    (λ cells more. is_table c.args.rows.now (roles_of c.args.kinds.now) c.args.pairs.now c.customers_of-customers.result
    c.customers_of-customers.ensures c.in_ok-origins.origins.reaches c.in_ok-cells.cells cells
    c.in_ok-origins.ensures c.in_ok-cells.ensures more)
