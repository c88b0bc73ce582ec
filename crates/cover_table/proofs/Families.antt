-- The rows of both families: their order, what they are when one is written, and what they answer.
use Rattle.std.proofs.Common.{◌≡◌, ℕ, ◌^◌, ◌<◌, ◌≤◌, Bool, false, List, ◌++◌}
use Rattle.std.proofs.Common.{refl, sym, ap, subst, ◌∙◌, arith}
use Rattle.std.proofs.lemmas.List.Folds.{list_any-append}
use Rattle.std.specs.FinMap.{entries, from_sorted}
use Rattle.std.specs.List.{AllByRecursion, list_any}
use Rattle.std.specs.declared.cmp.Ordering.TheVariants.{Less}
use Rattle.urpf_base.specs.Address.{IsBlock, cleared}
use Rattle.urpf_base.specs.Order.{prefix_order}
use Rattle.urpf_base.specs.declared.address.Addr.{Addr}
use Rattle.urpf_base.specs.declared.address.Addr.TheVariants.{V4, V6}
use Rattle.urpf_base.specs.declared.cells.Cell.{Cell}
use Rattle.urpf_base.specs.declared.cells.CellChange.{CellChange}
use Rattle.urpf_base.specs.declared.kinds.Mode.{Mode}
use Rattle.prefix_map.specs.Mapped.{Mapped}
use Rattle.rpf_plain.specs.Cells.{empty_cell}
use Rattle.cover_table.specs.Judging.{admits, is_off, passes, told}
use Rattle.cover_table.specs.declared.tree.CellTree.{CellTree}
use Rattle.cover_table.specs.Rows.{AreRows, TableRow, rows_written}
use Rattle.cover_table.specs.Tables.{written}
use Rattle.cover_table.specs.Trees.{AreTrees, IsOrdered, IsWhole, IsWithin, all_rows, block_for, change_for, entry_cell}
use Rattle.cover_table.specs.Trees.{entry_for, rows_of, tree_of}
use Rattle.cover_table.proofs.Between.{all_append, are_rows, row_of, sorted_append, written_back, written_front}
use Rattle.cover_table.proofs.Between as between
use Rattle.cover_table.proofs.Looking.{and_false, none_any, or_false, or_none}
use Rattle.cover_table.proofs.Whole.{tree_is, within_all}
use Rattle.cover_table.proofs.Writes.{entries_of_rows, table_written}

ordered_of : (m : CellTree) (w : ℕ) → w ≤ 128 → IsWhole w m → IsOrdered w 0 0 (tree_of m)
ordered_of m w few whole = subst (λ t. IsOrdered w 0 0 t) (sym (tree_is m w few whole.ready)) whole.ready.ordered

module _ (short long : CellTree) (are : AreTrees short long) where
  abbrev ours : IsOrdered 32 0 0 (tree_of short)
  ours = ordered_of short 32 (omega arith) are.four

  abbrev theirs : IsOrdered 128 0 0 (tree_of long)
  theirs = ordered_of long 128 (omega arith) are.six

  abbrev fours : List TableRow
  fours = rows_of 32 (tree_of short)

  abbrev sixes : List TableRow
  sixes = rows_of 128 (tree_of long)

  -- the prefixes of IPv6 come behind those of IPv4
  behind_four : (a len : ℕ)
      → AllByRecursion (λ row. prefix_order (record { addr = V4 a; len = len }) row.0 ≡ Less) sixes
  behind_four a len =
      between.all_rows (λ row. prefix_order (record { addr = V4 a; len = len }) row.0 ≡ Less) 128 0 0 (tree_of long)
      (λ e inner _. refl) theirs

  before_six : (a len : ℕ)
      → AllByRecursion (λ row. prefix_order row.0 (record { addr = V6 a; len = len }) ≡ Less) fours
  before_six a len =
      between.all_rows (λ row. prefix_order row.0 (record { addr = V6 a; len = len }) ≡ Less) 32 0 0 (tree_of short)
      (λ e inner _. refl) ours

  pub are_all : AreRows (all_rows short long)
  are_all = record {
    ascending =
        sorted_append fours sixes (are_rows 32 0 0 (tree_of short) ours).ascending
        (are_rows 128 0 0 (tree_of long) theirs).ascending
        (between.all_rows (λ x. AllByRecursion (λ y. prefix_order x.0 y.0 ≡ Less) sixes) 32 0 0 (tree_of short)
        (λ e inner _. behind_four e.bits e.len) ours);
    filled =
        all_append (λ row. ¬ (row.1 ≡ empty_cell)) fours sixes (are_rows 32 0 0 (tree_of short) ours).filled
        (are_rows 128 0 0 (tree_of long) theirs).filled;
  }

  pub short_written : (new : CellTree) (a : ℕ) (change : CellChange) → change.prefix.addr ≡ V4 a
      → rows_of 32 (tree_of new) ≡ rows_written change fours
      → from_sorted {R = prefix_order} (all_rows new long) ≡ written change (from_sorted (all_rows short long))
  short_written new a change is rows =
      ap (λ r. from_sorted {R = prefix_order} r) (ap (λ r. r ++ sixes) rows
      ∙ sym (written_back change fours sixes
      (subst (λ x. AllByRecursion (λ row. prefix_order (record { addr = x; len = change.prefix.len }) row.0 ≡ Less) sixes)
      (sym is) (behind_four a change.prefix.len))))
      ∙ table_written change (all_rows short long) are_all

  pub long_written : (new : CellTree) (a : ℕ) (change : CellChange) → change.prefix.addr ≡ V6 a
      → rows_of 128 (tree_of new) ≡ rows_written change sixes
      → from_sorted {R = prefix_order} (all_rows short new) ≡ written change (from_sorted (all_rows short long))
  long_written new a change is rows =
      ap (λ r. from_sorted {R = prefix_order} r) (ap (λ r. fours ++ r) rows
      ∙ sym (written_front change fours sixes
      (subst (λ x. AllByRecursion (λ row. prefix_order row.0 (record { addr = x; len = change.prefix.len }) ≡ Less) fours)
      (sym is) (before_six a change.prefix.len))))
      ∙ table_written change (all_rows short long) are_all

  -- an address is asked of the rows of its family alone
  module _ (mode : Mode) (iface : ℕ) where
    pub short_answer : (a : ℕ) → list_any (admits mode iface (V4 a)) fours
        ≡ list_any (admits mode iface (V4 a)) (entries (from_sorted {R = prefix_order} (all_rows short long)))
    short_answer a =
        sym (ap (list_any (admits mode iface (V4 a))) (entries_of_rows (all_rows short long) are_all.ascending)
        ∙ list_any-append (admits mode iface (V4 a)) fours sixes
        ∙ or_none (list_any (admits mode iface (V4 a)) fours) (list_any (admits mode iface (V4 a)) sixes)
        (none_any (admits mode iface (V4 a)) sixes
        (between.all_rows (λ row. admits mode iface (V4 a) row ≡ false) 128 0 0 (tree_of long)
        (λ e inner _. and_false (told mode iface (block_for 128 e) (entry_cell e)) false refl) theirs)))

    pub long_answer : (a : ℕ) → list_any (admits mode iface (V6 a)) sixes
        ≡ list_any (admits mode iface (V6 a)) (entries (from_sorted {R = prefix_order} (all_rows short long)))
    long_answer a =
        sym (ap (list_any (admits mode iface (V6 a))) (entries_of_rows (all_rows short long) are_all.ascending)
        ∙ list_any-append (admits mode iface (V6 a)) fours sixes
        ∙ or_false (list_any (admits mode iface (V6 a)) fours) (list_any (admits mode iface (V6 a)) sixes)
        (none_any (admits mode iface (V6 a)) fours
        (between.all_rows (λ row. admits mode iface (V6 a) row ≡ false) 32 0 0 (tree_of short)
        (λ e inner _. and_false (told mode iface (block_for 32 e) (entry_cell e)) false refl) ours)))

-- the change of an entry
pub short_change : (a : ℕ) (change : CellChange) → change.prefix.addr ≡ V4 a
    → change_for 32 (entry_for a change) ≡ change
short_change a change is i = record { prefix = record { addr = sym is i; len = change.prefix.len }; cell = change.cell }

pub long_change : (a : ℕ) (change : CellChange) → change.prefix.addr ≡ V6 a
    → change_for 128 (entry_for a change) ≡ change
long_change a change is i = record { prefix = record { addr = sym is i; len = change.prefix.len }; cell = change.cell }

pub short_within : (a : ℕ) (change : CellChange) → change.prefix.addr ≡ V4 a
    → IsBlock change.prefix.addr change.prefix.len → a < 2 ^ 32 → IsWithin 32 0 0 (entry_for a change)
short_within a change is block small =
    let own : IsBlock (V4 a) change.prefix.len = subst (λ x. IsBlock x change.prefix.len) is block in
    let zeros : V4 (cleared 32 change.prefix.len a) ≡ V4 a = own.zeros in
    within_all 32 (entry_for a change) own.within (let same : cleared 32 change.prefix.len a ≡ a = cc in same) small

pub long_within : (a : ℕ) (change : CellChange) → change.prefix.addr ≡ V6 a
    → IsBlock change.prefix.addr change.prefix.len → a < 2 ^ 128 → IsWithin 128 0 0 (entry_for a change)
long_within a change is block small =
    let own : IsBlock (V6 a) change.prefix.len = subst (λ x. IsBlock x change.prefix.len) is block in
    let zeros : V6 (cleared 128 change.prefix.len a) ≡ V6 a = own.zeros in
    within_all 128 (entry_for a change) own.within (let same : cleared 128 change.prefix.len a ≡ a = cc in same) small

-- what the tree of the family answers is what the table does
module _ (short long : CellTree) (are : AreTrees short long) (mode : Mode) (iface : ℕ) (checked : is_off mode ≡ false)
    (cells : Mapped Cell) (view : from_sorted {R = prefix_order} (all_rows short long) ≡ cells) (source : Addr) (r : Bool)
  where
    pub short_passes : (n a : ℕ) → n ≡ a → source ≡ V4 a
        → r ≡ list_any (admits mode iface (V4 n)) (rows_of 32 are.four.ready.tree) → r ≡ passes mode iface cells source
    short_passes n a same is told =
        told
        ∙ ap (λ t. list_any (admits mode iface (V4 n)) (rows_of 32 t)) (sym (tree_is short 32 (omega arith) are.four.ready))
        ∙ ap (λ m. list_any (admits mode iface (V4 m)) (rows_of 32 (tree_of short))) same
        ∙ short_answer short long are mode iface a
        ∙ ap (λ m. list_any (admits mode iface (V4 a)) (entries m)) view
        ∙ ap (λ s. list_any (admits mode iface s) (entries cells)) (sym is)
        ∙ sym (or_false (is_off mode) (list_any (admits mode iface source) (entries cells)) checked)

    pub long_passes : (a : ℕ) → source ≡ V6 a
        → r ≡ list_any (admits mode iface (V6 a)) (rows_of 128 are.six.ready.tree) → r ≡ passes mode iface cells source
    long_passes a is told =
        told
        ∙ ap (λ t. list_any (admits mode iface (V6 a)) (rows_of 128 t)) (sym (tree_is long 128 (omega arith) are.six.ready))
        ∙ long_answer short long are mode iface a
        ∙ ap (λ m. list_any (admits mode iface (V6 a)) (entries m)) view
        ∙ ap (λ s. list_any (admits mode iface s) (entries cells)) (sym is)
        ∙ sym (or_false (is_off mode) (list_any (admits mode iface source) (entries cells)) checked)
