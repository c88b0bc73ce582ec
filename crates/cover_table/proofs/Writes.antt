-- Rows that are written are the table that is written.
use Rattle.std.proofs.Common.{◌≡◌, ℕ, ◌==◌, ◌&&◌, Bool, true, false, cond, not, T, List, [], ◌∷◌, Some, None}
use Rattle.std.proofs.Common.{refl, sym, ap, subst, ◌∙◌, inl, inr}
use Rattle.std.proofs.lemmas.Bool.{and_parts, cases_Bool, eqb-true}
use Rattle.std.specs.Cmp.{alike_right, eq_by_cmp_equiv}
use Rattle.std.specs.FinMap.{empty, entries, entries-from_sorted, entries-insert, from_sorted, get}
use Rattle.std.specs.FinMap.{get-from_sorted, get-remove, insert, is_sorted, remove, same_entries_map, same_map}
use Rattle.std.specs.FinMap.Entries.{by_order, find-where_key, is_sorted-put, is_sorted-where_key, put}
use Rattle.std.specs.List.{AllByRecursion, filter}
use Rattle.std.specs.Ordering.{eq_by_cmp, is_eq}
use Rattle.std.specs.declared.cmp.Ordering.{Ordering}
use Rattle.std.specs.declared.cmp.Ordering.TheVariants.{Less, Equal, Greater}
use Rattle.urpf_base.specs.Address.{Block}
use Rattle.urpf_base.specs.Order.{prefix_order}
use Rattle.urpf_base.specs.declared.cells.Cell.{Cell}
use Rattle.urpf_base.specs.declared.cells.CellChange.{CellChange}
use Rattle.prefix_map.specs.Mapped.{Mapped}
use Rattle.prefix_map.proofs.Held.{gone_here, gone_others, no_entries, set_here, set_others}
use Rattle.prefix_map.proofs.Order.{prefix_ties, prefix_total, same_or_not}
use Rattle.prefix_map.proofs.Seen.{holds}
use Rattle.rpf_plain.specs.Cells.{cell_at, cell_or_empty, empty_cell}
use Rattle.cover_table.specs.Rows.{AreRows, TableRow, rows_written}
use Rattle.cover_table.specs.Tables.{is_empty_cell, written}

-- the test for the empty cell
zeros : (f a : ℕ) (z : Bool) → is_empty_cell (record { f = f; a = a; z = z }) ≡ true
    → record { f = f; a = a; z = z } ≡ empty_cell
zeros f a true is = let no : false ≡ true = (and_parts ((f == 0) && (a == 0)) false is).1 in cc
zeros f a false is =
    let both : ((f == 0) && (a == 0)) ≡ true = (and_parts ((f == 0) && (a == 0)) true is).0 in
    let parts : ((f == 0) ≡ true) × ((a == 0) ≡ true) = and_parts (f == 0) (a == 0) both in
    λ i. record { f = eqb-true f 0 parts.0 i; a = eqb-true a 0 parts.1 i; z = false }

pub is_empty : (c : Cell) → is_empty_cell c ≡ true → c ≡ empty_cell
is_empty c is = zeros c.f c.a c.z is

pub is_filled : (c : Cell) → is_empty_cell c ≡ false → ¬ (c ≡ empty_cell)
is_filled c is same = let yes : is_empty_cell c ≡ true = ap is_empty_cell same in cc

test_of : {b : Bool} → b ≡ true → T b
test_of is = subst T (sym is) tt

filled_put_by : (p : Block) (c : Cell) (e : TableRow) (es later : List TableRow) (o : Ordering)
    → ¬ (c ≡ empty_cell) → ¬ (e.1 ≡ empty_cell) → AllByRecursion (λ row. ¬ (row.1 ≡ empty_cell)) es
    → AllByRecursion (λ row. ¬ (row.1 ≡ empty_cell)) later
    → AllByRecursion (λ row. ¬ (row.1 ≡ empty_cell)) (by_order o ((p, c) ∷ e ∷ es) ((e.0, c) ∷ es) (e ∷ later))
filled_put_by p c e es later Less own first rest more = (own, (first, rest))
filled_put_by p c e es later Equal own first rest more = (own, rest)
filled_put_by p c e es later Greater own first rest more = (first, more)

filled_put : (p : Block) (c : Cell) (rows : List TableRow) → ¬ (c ≡ empty_cell)
    → AllByRecursion (λ row. ¬ (row.1 ≡ empty_cell)) rows
    → AllByRecursion (λ row. ¬ (row.1 ≡ empty_cell)) (put prefix_order p c rows)
filled_put p c [] own all = (own, tt)
filled_put p c (e ∷ rows) own all =
    filled_put_by p c e rows (put prefix_order p c rows) (prefix_order p e.0) own all.0 all.1
    (filled_put p c rows own all.1)

filled_filter : (test : TableRow → Bool) (rows : List TableRow) → AllByRecursion (λ row. ¬ (row.1 ≡ empty_cell)) rows
    → AllByRecursion (λ row. ¬ (row.1 ≡ empty_cell)) (filter test rows)
filled_filter test [] all = tt
filled_filter test (e ∷ rows) all =
    elim (test e) as (λ b. AllByRecursion (λ row. ¬ (row.1 ≡ empty_cell))
    (cond b (e ∷ filter test rows) (filter test rows))) [
      | true ↦ (all.0, filled_filter test rows all.1)
      | false ↦ filled_filter test rows all.1
    ]

abbrev others : Block → Block → Bool
others p q = not (eq_by_cmp prefix_order p q)

pub rows_emptied : (change : CellChange) (rows : List TableRow) → is_empty_cell change.cell ≡ true
    → rows_written change rows ≡ filter (λ row. others change.prefix row.0) rows
rows_emptied change rows is =
    ap (λ b. cond b (filter (λ row. others change.prefix row.0) rows)
    (put prefix_order change.prefix change.cell rows)) is

pub rows_given : (change : CellChange) (rows : List TableRow) → is_empty_cell change.cell ≡ false
    → rows_written change rows ≡ put prefix_order change.prefix change.cell rows
rows_given change rows is =
    ap (λ b. cond b (filter (λ row. others change.prefix row.0) rows)
    (put prefix_order change.prefix change.cell rows)) is

-- rows that are written are rows of a table
pub are_written : (change : CellChange) (rows : List TableRow) → AreRows rows → AreRows (rows_written change rows)
are_written change rows are =
    elim (cases_Bool (is_empty_cell change.cell)) [
      | inl is ↦
          subst AreRows (sym (rows_emptied change rows is)) (record {
            ascending = holds _ (is_sorted-where_key prefix_order (others change.prefix) rows (test_of are.ascending));
            filled = filled_filter (λ row. others change.prefix row.0) rows are.filled;
          })
      | inr is ↦
          subst AreRows (sym (rows_given change rows is)) (record {
            ascending =
                holds _
                (is_sorted-put prefix_order prefix_total change.prefix change.cell rows (test_of are.ascending));
            filled = filled_put change.prefix change.cell rows (is_filled change.cell is) are.filled;
          })
    ]

module _ (rows : List TableRow) (sorted : is_sorted prefix_order rows ≡ true) where
  pub entries_of_rows : entries (from_sorted {R = prefix_order} rows) ≡ rows
  entries_of_rows = entries-from_sorted prefix_order rows (test_of sorted)

pub no_rows : (rows : List TableRow) → rows ≡ [] → from_sorted {R = prefix_order} rows ≡ empty
no_rows rows is =
    ap (λ xs. from_sorted {R = prefix_order} xs) is
    ∙ same_entries_map (from_sorted {R = prefix_order} []) empty (entries_of_rows [] refl ∙ sym (no_entries empty refl))

inserted : (p : Block) (c : Cell) (rows : List TableRow) → is_sorted prefix_order rows ≡ true
    → is_sorted prefix_order (put prefix_order p c rows) ≡ true
    → from_sorted {R = prefix_order} (put prefix_order p c rows) ≡ insert (from_sorted rows) p c
inserted p c rows sorted later =
    same_entries_map _ _ (entries_of_rows (put prefix_order p c rows) later
    ∙ sym (entries-insert prefix_total (from_sorted rows) p c
    ∙ ap (put prefix_order p c) (entries_of_rows rows sorted)))

swapped : {A : Type 0} (b : Bool) (x y : A) → cond (not b) x y ≡ cond b y x
swapped true x y = refl
swapped false x y = refl

removed : (p : Block) (rows : List TableRow) → is_sorted prefix_order rows ≡ true
    → is_sorted prefix_order (filter (λ row. others p row.0) rows) ≡ true
    → from_sorted {R = prefix_order} (filter (λ row. others p row.0) rows) ≡ remove (from_sorted rows) p
removed p rows sorted later = same_map prefix_total prefix_ties _ _ (λ q.
    get-from_sorted prefix_order (filter (λ row. others p row.0) rows) q (test_of later)
    ∙ find-where_key prefix_order (others p) q
    (λ x t. ap (λ r. not (is_eq r)) (sym (alike_right prefix_total q x p t))) rows
    ∙ ap (λ r. cond (others p q) r None) (sym (get-from_sorted prefix_order rows q (test_of sorted)))
    ∙ swapped (eq_by_cmp prefix_order p q) (get (from_sorted {R = prefix_order} rows) q) None
    ∙ ap (λ b. cond b None (get (from_sorted {R = prefix_order} rows) q)) ((eq_by_cmp_equiv prefix_total).symm p q)
    ∙ sym (get-remove prefix_total (from_sorted rows) p q))

-- the table of rows that are written is the table that is written
pub table_written : (change : CellChange) (rows : List TableRow) → AreRows rows
    → from_sorted {R = prefix_order} (rows_written change rows) ≡ written change (from_sorted rows)
table_written change rows are =
    let later : is_sorted prefix_order (rows_written change rows) ≡ true = (are_written change rows are).ascending in
    elim (cases_Bool (is_empty_cell change.cell)) [
      | inl is ↦
          let shorter = rows_emptied change rows is in
          ap (λ xs. from_sorted {R = prefix_order} xs) shorter
          ∙ removed change.prefix rows are.ascending
          (subst (λ xs. is_sorted prefix_order xs ≡ true) shorter later)
          ∙ sym (ap (λ b. cond b (remove (from_sorted {R = prefix_order} rows) change.prefix)
          (insert (from_sorted rows) change.prefix change.cell)) is)
      | inr is ↦
          let longer = rows_given change rows is in
          ap (λ xs. from_sorted {R = prefix_order} xs) longer
          ∙ inserted change.prefix change.cell rows are.ascending
          (subst (λ xs. is_sorted prefix_order xs ≡ true) longer later)
          ∙ sym (ap (λ b. cond b (remove (from_sorted {R = prefix_order} rows) change.prefix)
          (insert (from_sorted rows) change.prefix change.cell)) is)
    ]

module _ (change : CellChange) (cells : Mapped Cell) where
  emptied : is_empty_cell change.cell ≡ true → written change cells ≡ remove cells change.prefix
  emptied is = ap (λ b. cond b (remove cells change.prefix) (insert cells change.prefix change.cell)) is

  given : is_empty_cell change.cell ≡ false → written change cells ≡ insert cells change.prefix change.cell
  given is = ap (λ b. cond b (remove cells change.prefix) (insert cells change.prefix change.cell)) is

  pub written_here : cell_at (written change cells) change.prefix ≡ change.cell
  written_here = elim (cases_Bool (is_empty_cell change.cell)) [
    | inl is ↦
        ap cell_or_empty (gone_here cells (written change cells) change.prefix (emptied is))
        ∙ sym (is_empty change.cell is)
    | inr is ↦ ap cell_or_empty (set_here cells (written change cells) change.prefix change.cell (given is))
  ]

  pub written_others : (p : Block) → ¬ (p ≡ change.prefix) → get (written change cells) p ≡ get cells p
  written_others p other = elim (cases_Bool (is_empty_cell change.cell)) [
    | inl is ↦ gone_others cells (written change cells) change.prefix (emptied is) p other
    | inr is ↦ set_others cells (written change cells) change.prefix change.cell (given is) p other
  ]

  here_filled : ¬ (get (written change cells) change.prefix ≡ Some empty_cell)
  here_filled = elim (cases_Bool (is_empty_cell change.cell)) [
    | inl is ↦ λ some.
        let none : get (written change cells) change.prefix ≡ None =
        gone_here cells (written change cells) change.prefix (emptied is) in cc
    | inr is ↦ λ some. is_filled change.cell is (
        let own : get (written change cells) change.prefix ≡ Some change.cell =
        set_here cells (written change cells) change.prefix change.cell (given is) in cc)
  ]

  pub written_filled : ((p : Block) → ¬ (get cells p ≡ Some empty_cell))
      → (p : Block) → ¬ (get (written change cells) p ≡ Some empty_cell)
  written_filled filled p = elim (same_or_not p change.prefix) [
    | inl same ↦ subst (λ q. ¬ (get (written change cells) q ≡ Some empty_cell)) (sym same) here_filled
    | inr other ↦ λ some. filled p (sym (written_others p other) ∙ some)
  ]
