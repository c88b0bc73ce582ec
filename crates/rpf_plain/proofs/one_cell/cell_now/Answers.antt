use Rattle.rpf_plain.specs.World.{roles_of}
use Rattle.rpf_plain.proofs.Told.{is_cell}
use Rattle.rpf_plain.proofs.one_cell.cell_now.Goals as goal

pub returns : goal.returns
returns c =
    is_cell c.args.rows.now (roles_of c.args.kinds.now) c.args.pairs.now c.customers_of-customers.result
    c.customers_of-customers.ensures c.args.prefix.now _ c.hearing.ensures c.listed.ensures c.is_in_set_z.ensures
