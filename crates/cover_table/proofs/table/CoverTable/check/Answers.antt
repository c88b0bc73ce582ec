use Rattle.std.proofs.Common.{ap, sym, ◌∙◌, arith}
use Rattle.cover_table.specs.Tables.{TableState}
use Rattle.cover_table.proofs.Blocks.{size_is}
use Rattle.cover_table.proofs.Families.{long_passes, short_passes}
use Rattle.cover_table.proofs.table.CoverTable.check.Goals as goal

pub look-requires-clause-ready : goal.look-requires-clause-ready
look-requires-clause-ready g c =
    let is = size_is 32 0 in (0, omega (arith, is), c.self.invariant.four.ready)

pub look-requires-in-V6-clause-ready : goal.look-requires-in-V6-clause-ready
look-requires-in-V6-clause-ready g c =
    let is = size_is 128 0 in (0, omega (arith, is), c.self.invariant.six.ready)

pub returns-in-V4-clause-value : goal.returns-in-V4-clause-value
returns-in-V4-clause-value g c =
    let is = size_is 32 0 in
    short_passes c.self.inside.short c.self.inside.long c.self.invariant c.args.mode c.args.iface
    (sym c.is_off.ensures ∙ c.if-is_off.false) c.args.self.now.cells (ap (λ (t : TableState). t.cells) c.self.view_is)
    c.args.addr.now c.look.result c.from-bits.result c.in-V4.number c.from-bits.ensures c.in-V4.is
    (c.look.ensures.value 0 (omega (arith, is)) c.self.invariant.four.ready)

pub returns-in-V6-clause-value : goal.returns-in-V6-clause-value
returns-in-V6-clause-value g c =
    let is = size_is 128 0 in
    long_passes c.self.inside.short c.self.inside.long c.self.invariant c.args.mode c.args.iface
    (sym c.is_off.ensures ∙ c.if-is_off.false) c.args.self.now.cells (ap (λ (t : TableState). t.cells) c.self.view_is)
    c.args.addr.now c.look-in-V6.result c.in-V6.bits c.in-V6.is
    (c.look-in-V6.ensures.value 0 (omega (arith, is)) c.self.invariant.six.ready)
