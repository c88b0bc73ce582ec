use Rattle.std.proofs.Common.{ap, subst, sym, ◌∙◌, arith}
use Rattle.cover_table.specs.Rows.{rows_written}
use Rattle.cover_table.specs.Tables.{TableState, written}
use Rattle.cover_table.specs.Trees.{IsWithin, change_for, entry_for, rows_of, tree_of}
use Rattle.cover_table.proofs.Families.{long_change, long_within, long_written, short_change, short_within, short_written}
use Rattle.cover_table.proofs.table.CoverTable.absorb.Goals as goal

pub absorb-requires-clause-within : goal.absorb-requires-clause-within
absorb-requires-clause-within c =
    subst (λ e. IsWithin 32 0 0 e)
    (sym (c.entry_of.ensures ∙ ap (λ n. entry_for n c.args.change.now) c.from.ensures))
    (short_within c.in-V4.number c.args.change.now (sym c.in-V4.ensures.value) c.in-V4.ensures.block (omega arith))

pub absorb-requires-in-V6-clause-within : goal.absorb-requires-in-V6-clause-within
absorb-requires-in-V6-clause-within c =
    subst (λ e. IsWithin 128 0 0 e) (sym c.entry_of-in-V6.ensures)
    (long_within c.in-V6.number c.args.change.now (sym c.in-V6.ensures.value) c.in-V6.ensures.block (omega arith))

pub returns-in-V4-clause-cells : goal.returns-in-V4-clause-cells
returns-in-V4-clause-cells c =
    let is = c.entry_of.ensures ∙ ap (λ n. entry_for n c.args.change.now) c.from.ensures in
    short_written c.self.inside.short c.self.inside.long c.self.invariant c.absorb.new.self c.in-V4.number
    c.args.change.now (sym c.in-V4.ensures.value)
    (c.absorb.ensures.rows
    ∙ ap (λ e. rows_written (change_for 32 e) (rows_of 32 (tree_of c.self.inside.short))) is
    ∙ ap (λ ch. rows_written ch (rows_of 32 (tree_of c.self.inside.short)))
    (short_change c.in-V4.number c.args.change.now (sym c.in-V4.ensures.value)))
    ∙ ap (λ (t : TableState). written c.args.change.now t.cells) c.self.view_is

pub returns-in-V6-clause-cells : goal.returns-in-V6-clause-cells
returns-in-V6-clause-cells c =
    long_written c.self.inside.short c.self.inside.long c.self.invariant c.absorb-in-V6.new.self c.in-V6.number
    c.args.change.now (sym c.in-V6.ensures.value)
    (c.absorb-in-V6.ensures.rows
    ∙ ap (λ e. rows_written (change_for 128 e) (rows_of 128 (tree_of c.self.inside.long))) c.entry_of-in-V6.ensures
    ∙ ap (λ ch. rows_written ch (rows_of 128 (tree_of c.self.inside.long)))
    (long_change c.in-V6.number c.args.change.now (sym c.in-V6.ensures.value)))
    ∙ ap (λ (t : TableState). written c.args.change.now t.cells) c.self.view_is
