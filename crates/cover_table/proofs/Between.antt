-- The rows of a tree: their order, and what they are when the cell of one prefix is written.
use Rattle.std.proofs.Common.{◌≡◌, ℕ, ◌+◌, ◌<◌, ◌≤◌, ◌==◌, ◌&&◌, Bool, true, false, cond, List, [], ◌∷◌, ◌++◌}
use Rattle.std.proofs.Common.{inl, inr, refl, sym, ap, subst, ◌∙◌, arith}
use Rattle.std.proofs.lemmas.Bool.{cases_Bool, cases_eq}
use Rattle.std.proofs.lemmas.List.{append-nil}
use Rattle.std.proofs.lemmas.List.Elements.{filter-append}
use Rattle.std.specs.Cmp.{nat_cmp_is, tied_itself}
use Rattle.std.specs.FinMap.{is_sorted}
use Rattle.std.specs.FinMap.Entries.{below_all, by_order, put}
use Rattle.std.specs.List.{AllByRecursion, filter}
use Rattle.std.specs.Ordering.{is_lt, nat_cmp, ordering_then}
use Rattle.std.specs.declared.cmp.Ordering.TheVariants.{Less, Equal, Greater}
use Rattle.urpf_base.specs.Address.{Block}
use Rattle.urpf_base.specs.Order.{addr_order, prefix_order}
use Rattle.urpf_base.specs.declared.address.Addr.TheVariants.{V4, V6}
use Rattle.urpf_base.specs.declared.cells.Cell.{Cell}
use Rattle.urpf_base.specs.declared.cells.CellChange.{CellChange}
use Rattle.prefix_map.proofs.Order.{prefix_total}
use Rattle.prefix_map.proofs.Sorted.{head_below, tail_sorted}
use Rattle.rpf_plain.specs.Cells.{empty_cell}
use Rattle.cover_table.specs.declared.nodes.Entry.{Entry}
use Rattle.cover_table.specs.declared.nodes.Node.{Node}
use Rattle.cover_table.specs.Rows.{AreRows, TableRow, rows_written}
use Rattle.cover_table.specs.Tables.{is_empty_cell}
use Rattle.cover_table.specs.Trees.{Tree, Empty, Branch, IsOrdered, IsWithin, addr_of, block_for, change_for}
use Rattle.cover_table.specs.Trees.{entry_cell, own_rows, rows_of, size}
use Rattle.cover_table.proofs.Blocks.{size_some, within_lower, within_upper}
use Rattle.cover_table.proofs.Parts.{is_other, put_back, put_front, rid_back, rid_front, rid_over, put_over}
use Rattle.cover_table.proofs.Writes.{is_filled, rows_emptied, rows_given}

addr_cmp : (w a b : ℕ) → addr_order (addr_of w a) (addr_of w b) ≡ nat_cmp a b
addr_cmp w a b =
    elim (w == 32) as (λ t. addr_order (cond t (V4 a) (V6 a)) (cond t (V4 b) (V6 b)) ≡ nat_cmp a b)
    [ true ↦ refl | false ↦ refl ]

order_is : (w : ℕ) (x y : Entry)
    → prefix_order (block_for w x) (block_for w y) ≡ ordering_then (nat_cmp x.bits y.bits) (nat_cmp x.len y.len)
order_is w x y = ap (λ o. ordering_then o (nat_cmp x.len y.len)) (addr_cmp w x.bits y.bits)

-- the lesser address comes first
pub before_by_bits : (w : ℕ) (x y : Entry) → x.bits < y.bits → prefix_order (block_for w x) (block_for w y) ≡ Less
before_by_bits w x y less =
    order_is w x y ∙ ap (λ o. ordering_then o (nat_cmp x.len y.len)) (sym (nat_cmp_is x.bits y.bits Less less))

-- and the shorter prefix of those at one address
pub before_by_len : (w : ℕ) (x y : Entry) → x.bits ≤ y.bits → x.len < y.len
    → prefix_order (block_for w x) (block_for w y) ≡ Less
before_by_len w x y most shorter =
    elim (cases_eq x.bits y.bits) [
      | inl same ↦
          order_is w x y
          ∙ ap (λ o. ordering_then o (nat_cmp x.len y.len)) (sym (nat_cmp_is x.bits y.bits Equal same))
          ∙ sym (nat_cmp_is x.len y.len Less shorter)
      | inr other ↦ before_by_bits w x y (omega arith)
    ]

pub all_append : {A : Type 0} (P : A → Type 0) (xs ys : List A) → AllByRecursion P xs → AllByRecursion P ys
    → AllByRecursion P (xs ++ ys)
all_append P [] ys first later = later
all_append P (x ∷ xs) ys first later = (first.0, all_append P xs ys first.1 later)

all_map : {A : Type 0} (P Q : A → Type 0) → ((x : A) → P x → Q x) → (xs : List A) → AllByRecursion P xs
    → AllByRecursion Q xs
all_map P Q turn [] h = tt
all_map P Q turn (x ∷ xs) h = (turn x h.0, all_map P Q turn xs h.1)

abbrev pub row_of : ℕ → Entry → TableRow
row_of w entry = (block_for w entry, entry_cell entry)

own_all : (P : TableRow → Type 0) (w : ℕ) (entry : Entry) → (is_empty_cell (entry_cell entry) ≡ false → P (row_of w entry))
    → AllByRecursion P (own_rows w entry)
own_all P w entry h =
    elim (is_empty_cell (entry_cell entry))
    as (λ b. (b ≡ false → P (row_of w entry)) → AllByRecursion P (cond b [] (row_of w entry ∷ [])))
    [ true ↦ λ f. tt | false ↦ λ f. (f refl, tt) ] h

-- what holds of each entry of the block that is not empty holds of each row
pub all_rows : (P : TableRow → Type 0) (w low d : ℕ) (tree : Tree)
    → ((entry : Entry) → IsWithin w low d entry → is_empty_cell (entry_cell entry) ≡ false → P (row_of w entry))
    → IsOrdered w low d tree → AllByRecursion P (rows_of w tree)
all_rows P w low d Empty h ordered = tt
all_rows P w low d (Branch place node left right) h ordered =
    all_append P (own_rows w node.entry) (rows_of w left ++ rows_of w right)
    (own_all P w node.entry (h node.entry ordered.0))
    (all_append P (rows_of w left) (rows_of w right)
    (all_rows P w node.entry.bits (node.entry.len + 1) left
    (λ entry inner. h entry (within_lower w low d node.entry entry ordered.0 inner)) ordered.1)
    (all_rows P w (node.entry.bits + size w (node.entry.len + 1)) (node.entry.len + 1) right
    (λ entry inner. h entry (within_upper w low d node.entry entry ordered.0 inner)) ordered.2))

-- where the rows of a block come behind a prefix, and where before it
pub behind_above : (w low d : ℕ) (tree : Tree) (entry : Entry) → IsOrdered w low d tree → entry.bits ≤ low
    → entry.len < d → AllByRecursion (λ row. prefix_order (block_for w entry) row.0 ≡ Less) (rows_of w tree)
behind_above w low d tree entry ordered most shorter =
    all_rows (λ row. prefix_order (block_for w entry) row.0 ≡ Less) w low d tree
    (λ e inner _. before_by_len w entry e (omega (arith, inner.from)) (omega (arith, inner.deeper))) ordered

pub behind_beside : (w low d : ℕ) (tree : Tree) (entry : Entry) → IsOrdered w low d tree → entry.bits < low
    → AllByRecursion (λ row. prefix_order (block_for w entry) row.0 ≡ Less) (rows_of w tree)
behind_beside w low d tree entry ordered less =
    all_rows (λ row. prefix_order (block_for w entry) row.0 ≡ Less) w low d tree
    (λ e inner _. before_by_bits w entry e (omega (arith, inner.from))) ordered

pub before_beside : (w low d : ℕ) (tree : Tree) (entry : Entry) → IsOrdered w low d tree
    → low + size w d ≤ entry.bits
    → AllByRecursion (λ row. prefix_order row.0 (block_for w entry) ≡ Less) (rows_of w tree)
before_beside w low d tree entry ordered past =
    all_rows (λ row. prefix_order row.0 (block_for w entry) ≡ Less) w low d tree
    (λ e inner _. before_by_bits w e entry (
    let some = size_some w e.len in omega (arith, inner.to))) ordered

-- the rows ascend
both : (a b : Bool) → a ≡ true → b ≡ true → (a && b) ≡ true
both a b e f = cc

below_from : (x : Block) (es : List TableRow) → AllByRecursion (λ e. prefix_order x e.0 ≡ Less) es
    → below_all prefix_order x es ≡ true
below_from x [] h = refl
below_from x (e ∷ es) h = both _ _ (ap is_lt h.0) (below_from x es h.1)

pub sorted_append : (xs ys : List TableRow) → is_sorted prefix_order xs ≡ true → is_sorted prefix_order ys ≡ true
    → AllByRecursion (λ x. AllByRecursion (λ y. prefix_order x.0 y.0 ≡ Less) ys) xs
    → is_sorted prefix_order (xs ++ ys) ≡ true
sorted_append [] ys first later apart = later
sorted_append (x ∷ xs) ys first later apart =
    both _ _
    (below_from x.0 (xs ++ ys)
    (all_append (λ e. prefix_order x.0 e.0 ≡ Less) xs ys (head_below prefix_order x xs first) apart.0))
    (sorted_append xs ys (tail_sorted prefix_order x xs first) later apart.1)

own_sorted : (w : ℕ) (entry : Entry) → is_sorted prefix_order (own_rows w entry) ≡ true
own_sorted w entry =
    elim (is_empty_cell (entry_cell entry))
    as (λ b. is_sorted prefix_order (cond b [] (row_of w entry ∷ [])) ≡ true) [ true ↦ refl | false ↦ refl ]

pub rows_sorted : (w low d : ℕ) (tree : Tree) → IsOrdered w low d tree
    → is_sorted prefix_order (rows_of w tree) ≡ true
rows_sorted w low d Empty ordered = refl
rows_sorted w low d (Branch place node left right) ordered =
    let mid : ℕ = node.entry.bits + size w (node.entry.len + 1) in
    let deeper : ℕ = node.entry.len + 1 in
    sorted_append (own_rows w node.entry) (rows_of w left ++ rows_of w right) (own_sorted w node.entry)
    (sorted_append (rows_of w left) (rows_of w right) (rows_sorted w node.entry.bits deeper left ordered.1)
    (rows_sorted w mid deeper right ordered.2)
    (all_rows (λ x. AllByRecursion (λ y. prefix_order x.0 y.0 ≡ Less) (rows_of w right)) w node.entry.bits deeper left
    (λ e inner _. behind_beside w mid deeper right e ordered.2
    (let some = size_some w e.len in omega (arith, inner.to)))
    ordered.1))
    (own_all (λ x. AllByRecursion (λ y. prefix_order x.0 y.0 ≡ Less) (rows_of w left ++ rows_of w right)) w node.entry
    (λ _. all_append (λ y. prefix_order (block_for w node.entry) y.0 ≡ Less) (rows_of w left) (rows_of w right)
    (behind_above w node.entry.bits deeper left node.entry ordered.1 (omega arith) (omega arith))
    (behind_above w mid deeper right node.entry ordered.2 (omega arith) (omega arith))))

-- they are rows of a table
pub are_rows : (w low d : ℕ) (tree : Tree) → IsOrdered w low d tree → AreRows (rows_of w tree)
are_rows w low d tree ordered = record {
  ascending = rows_sorted w low d tree ordered;
  filled =
      all_rows (λ row. ¬ (row.1 ≡ empty_cell)) w low d tree (λ e inner filled. is_filled (entry_cell e) filled) ordered;
}

-- a cell is written in the part of the rows where its prefix belongs
put_append : (k : Block) (v : Cell) (mid back : List TableRow)
    → AllByRecursion (λ e. prefix_order k e.0 ≡ Less) back
    → put prefix_order k v (mid ++ back) ≡ put prefix_order k v mid ++ back
put_append k v [] back h = put_back prefix_total k v back h
put_append k v (e ∷ mid) back h =
    elim (prefix_order k e.0)
    as (λ o. by_order o ((k, v) ∷ e ∷ (mid ++ back)) ((e.0, v) ∷ (mid ++ back)) (e ∷ put prefix_order k v (mid ++ back))
    ≡ by_order o ((k, v) ∷ e ∷ mid) ((e.0, v) ∷ mid) (e ∷ put prefix_order k v mid) ++ back)
    [ Less ↦ refl | Equal ↦ refl | Greater ↦ ap (λ t. e ∷ t) (put_append k v mid back h) ]

module _ (change : CellChange) where
  abbrev p : Block
  p = change.prefix

  pub written_front : (front rows : List TableRow) → AllByRecursion (λ e. prefix_order e.0 p ≡ Less) front
      → rows_written change (front ++ rows) ≡ front ++ rows_written change rows
  written_front front rows before =
      elim (cases_Bool (is_empty_cell change.cell)) [
        | inl is ↦
            rows_emptied change (front ++ rows) is ∙ rid_front prefix_total p front rows before
            ∙ ap (λ t. front ++ t) (sym (rows_emptied change rows is))
        | inr is ↦
            rows_given change (front ++ rows) is ∙ put_front prefix_total p change.cell front rows before
            ∙ ap (λ t. front ++ t) (sym (rows_given change rows is))
      ]

  pub written_back : (rows back : List TableRow) → AllByRecursion (λ e. prefix_order p e.0 ≡ Less) back
      → rows_written change (rows ++ back) ≡ rows_written change rows ++ back
  written_back rows back behind =
      elim (cases_Bool (is_empty_cell change.cell)) [
        | inl is ↦
            rows_emptied change (rows ++ back) is ∙ filter-append (is_other prefix_total p) rows back
            ∙ ap (λ t. filter (is_other prefix_total p) rows ++ t) (rid_back prefix_total p back behind)
            ∙ ap (λ t. t ++ back) (sym (rows_emptied change rows is))
        | inr is ↦
            rows_given change (rows ++ back) is ∙ put_append p change.cell rows back behind
            ∙ ap (λ t. t ++ back) (sym (rows_given change rows is))
      ]

module _ (w : ℕ) (entry : Entry) where
  abbrev change : CellChange
  change = change_for w entry

  -- of no rows
  pub written_none : rows_written change [] ≡ own_rows w entry
  written_none =
      elim (is_empty_cell (entry_cell entry))
      as (λ b. cond b [] (row_of w entry ∷ []) ≡ cond b [] (row_of w entry ∷ [])) [ true ↦ refl | false ↦ refl ]

  written_row : (old : Entry) → block_for w old ≡ block_for w entry
      → rows_written change (row_of w old ∷ []) ≡ own_rows w entry
  written_row old same =
      let tied : prefix_order (block_for w entry) (block_for w old) ≡ Equal =
      subst (λ z. prefix_order (block_for w entry) z ≡ Equal) (sym same) (tied_itself prefix_total (block_for w entry)) in
      elim (cases_Bool (is_empty_cell (entry_cell entry))) [
        | inl is ↦
            rows_emptied change (row_of w old ∷ []) is
            ∙ rid_over prefix_total (block_for w entry) (row_of w old) [] tied
            ∙ sym (ap (λ b. cond b [] (row_of w entry ∷ [])) is)
        | inr is ↦
            rows_given change (row_of w old ∷ []) is
            ∙ put_over prefix_total (block_for w entry) (entry_cell entry) (row_of w old) [] tied
            ∙ ap (λ q. (q, entry_cell entry) ∷ []) same
            ∙ sym (ap (λ b. cond b [] (row_of w entry ∷ [])) is)
      ]

  -- of the row of the same prefix
  pub written_own : (old : Entry) → block_for w old ≡ block_for w entry
      → rows_written change (own_rows w old) ≡ own_rows w entry
  written_own old same =
      elim (is_empty_cell (entry_cell old))
      as (λ b. rows_written change (cond b [] (row_of w old ∷ [])) ≡ own_rows w entry)
      [ true ↦ written_none | false ↦ written_row old same ]

pub own_none : (w : ℕ) (entry : Entry) → is_empty_cell (entry_cell entry) ≡ true → own_rows w entry ≡ []
own_none w entry is = ap (λ b. cond b [] (row_of w entry ∷ [])) is

abbrev beside : List TableRow → List TableRow → List TableRow → List TableRow
beside own left right = own ++ (left ++ right)

-- the rows of a node and of what is below it, when one is written in one of them
module _ (w low d place : ℕ) (node : Node) (left right : Tree) (entry : Entry)
    (ordered : IsOrdered w low d (Branch place node left right)) where
  abbrev mid : ℕ
  mid = node.entry.bits + size w (node.entry.len + 1)

  abbrev deeper : ℕ
  deeper = node.entry.len + 1

  own_before : node.entry.bits ≤ entry.bits → node.entry.len < entry.len
      → AllByRecursion (λ e. prefix_order e.0 (block_for w entry) ≡ Less) (own_rows w node.entry)
  own_before most shorter =
      own_all (λ e. prefix_order e.0 (block_for w entry) ≡ Less) w node.entry
      (λ _. before_by_len w node.entry entry most shorter)

  pub written_left : node.entry.bits ≤ entry.bits → node.entry.len < entry.len → entry.bits < mid
      → beside (own_rows w node.entry) (rows_written (change_for w entry) (rows_of w left)) (rows_of w right)
      ≡ rows_written (change_for w entry) (rows_of w (Branch place node left right))
  written_left most shorter below =
      sym (written_front (change_for w entry) (own_rows w node.entry) (rows_of w left ++ rows_of w right)
      (own_before most shorter)
      ∙ ap (λ t. own_rows w node.entry ++ t)
      (written_back (change_for w entry) (rows_of w left) (rows_of w right)
      (behind_beside w mid deeper right entry ordered.2 below)))

  pub written_right : node.entry.bits ≤ entry.bits → node.entry.len < entry.len → mid ≤ entry.bits
      → entry.len ≤ w
      → beside (own_rows w node.entry) (rows_of w left) (rows_written (change_for w entry) (rows_of w right))
      ≡ rows_written (change_for w entry) (rows_of w (Branch place node left right))
  written_right most shorter above within =
      sym (written_front (change_for w entry) (own_rows w node.entry) (rows_of w left ++ rows_of w right)
      (own_before most shorter)
      ∙ ap (λ t. own_rows w node.entry ++ t)
      (written_front (change_for w entry) (rows_of w left) (rows_of w right)
      (before_beside w node.entry.bits deeper left entry ordered.1 above)))

  pub written_here : block_for w node.entry ≡ block_for w entry → node.entry.bits ≡ entry.bits
      → node.entry.len ≡ entry.len
      → beside (own_rows w entry) (rows_of w left) (rows_of w right)
      ≡ rows_written (change_for w entry) (rows_of w (Branch place node left right))
  written_here same bits len =
      sym (written_back (change_for w entry) (own_rows w node.entry) (rows_of w left ++ rows_of w right)
      (all_append (λ y. prefix_order (block_for w entry) y.0 ≡ Less) (rows_of w left) (rows_of w right)
      (behind_above w node.entry.bits deeper left entry ordered.1 (omega arith) (omega arith))
      (behind_above w mid deeper right entry ordered.2 (omega arith) (omega arith)))
      ∙ ap (λ t. t ++ (rows_of w left ++ rows_of w right)) (written_own w entry node.entry same))

-- the rows of a tree, and a new one before or behind all of them
module _ (w low d : ℕ) (tree : Tree) (entry : Entry) where
  pub written_first : AllByRecursion (λ e. prefix_order (block_for w entry) e.0 ≡ Less) (rows_of w tree)
      → own_rows w entry ++ rows_of w tree ≡ rows_written (change_for w entry) (rows_of w tree)
  written_first behind =
      sym (written_back (change_for w entry) [] (rows_of w tree) behind
      ∙ ap (λ t. t ++ rows_of w tree) (written_none w entry))

  pub written_last : AllByRecursion (λ e. prefix_order e.0 (block_for w entry) ≡ Less) (rows_of w tree)
      → rows_of w tree ++ own_rows w entry ≡ rows_written (change_for w entry) (rows_of w tree)
  written_last before =
      sym (ap (rows_written (change_for w entry)) (sym (append-nil (rows_of w tree)))
      ∙ written_front (change_for w entry) (rows_of w tree) [] before
      ∙ ap (λ t. rows_of w tree ++ t) (written_none w entry))
