-- What is left of changes and batches that were taken over one after the other.
use Rattle.std.proofs.Common.{◌≡◌, ℕ, true, false, cond, List, [], ◌∷◌, ◌++◌, Option, Some, None, refl, sym, ap}
use Rattle.std.proofs.Common.{subst, ◌∙◌, inl, inr}
use Rattle.std.specs.Cmp.{tied_itself}
use Rattle.std.specs.FinMap.{empty, get, get-empty}
use Rattle.std.specs.Ordering.{eq_by_cmp, is_eq}
use Rattle.std.specs.declared.cmp.Ordering.TheVariants.{Equal}
use Rattle.urpf_base.specs.Address.{Block}
use Rattle.urpf_base.specs.Cells.{AllAfter, AreAscending}
use Rattle.urpf_base.specs.Lists.{Has}
use Rattle.urpf_base.specs.Order.{IsBefore, prefix_order}
use Rattle.urpf_base.specs.declared.cells.Cell.{Cell}
use Rattle.urpf_base.specs.declared.cells.CellChange.{CellChange}
use Rattle.urpf_base.specs.declared.kinds.Kind.{Kind}
use Rattle.prefix_map.specs.Mapped.{Mapped}
use Rattle.prefix_map.proofs.Order.{no_tie, prefix_total, same_or_not}
use Rattle.rpf_plain.specs.Cells.{cell_at, cell_or_empty, empty_cell}
use Rattle.cover_table.specs.declared.batch.Batch.{Batch}
use Rattle.cover_table.specs.Folds.{AllAscend, first_there, last_kinds, last_named, last_number, named}
use Rattle.cover_table.specs.Snapshots.{Publication, after, fold, opening, step}
use Rattle.cover_table.specs.Tables.{taken_over, written}
use Rattle.cover_table.proofs.Writes.{written_filled, written_here, written_others}

abbrev pub change_of : Block → Cell → CellChange
change_of p c = record { prefix = p; cell = c }

not_before : (p : Block) → ¬ IsBefore p p
not_before p before = let tied : prefix_order p p ≡ Equal = tied_itself prefix_total p in cc

tie : (p q : Block) → p ≡ q → eq_by_cmp prefix_order p q ≡ true
tie p q same = ap is_eq (subst (λ z. prefix_order p z ≡ Equal) same (tied_itself prefix_total p))

-- what comes first names another prefix than those behind it
unnamed : (p : Block) (changes : List CellChange) → AllAfter p changes → named changes p ≡ None
unnamed p [] behind = refl
unnamed p (x ∷ changes) behind =
    let other : eq_by_cmp prefix_order p x.prefix ≡ false =
    no_tie p x.prefix (λ same. not_before p (subst (IsBefore p) same behind.0)) in
    rw other (unnamed p changes behind.1)

pub named_has : (changes : List CellChange) (p : Block) (c : Cell) → named changes p ≡ Some c
    → Has changes (change_of p c)
named_has [] p c is = absurd cc
named_has (x ∷ changes) p c is =
    elim (same_or_not p x.prefix) [
      | inl same ↦
          let own : named (x ∷ changes) p ≡ Some x.cell =
          ap (λ b. cond b (Some x.cell) (named changes p)) (tie p x.prefix same) in
          let cell : c ≡ x.cell = cc in
          inl (λ i. change_of (same i) (cell i))
      | inr other ↦
          let later : named (x ∷ changes) p ≡ named changes p =
          ap (λ b. cond b (Some x.cell) (named changes p)) (no_tie p x.prefix (λ same. other (sym same))) in
          inr (named_has changes p c (sym later ∙ is))
    ]

behind_has : (q p : Block) (c : Cell) (changes : List CellChange) → AllAfter q changes → Has changes (change_of p c)
    → IsBefore q p
behind_has q p c [] behind has = absurd has
behind_has q p c (x ∷ changes) behind (inl same) = subst (λ (y : CellChange). IsBefore q y.prefix) (sym same) behind.0
behind_has q p c (x ∷ changes) behind (inr has) = behind_has q p c changes behind.1 has

pub has_named : (changes : List CellChange) (p : Block) (c : Cell) → AreAscending changes → Has changes (change_of p c)
    → named changes p ≡ Some c
has_named [] p c ascending has = absurd has
has_named (x ∷ changes) p c ascending (inl same) =
    ap (λ b. cond b (Some x.cell) (named changes p)) (tie p x.prefix (ap (λ (y : CellChange). y.prefix) same))
    ∙ ap (λ (y : CellChange). Some y.cell) (sym same)
has_named (x ∷ changes) p c ascending (inr has) =
    let other : eq_by_cmp prefix_order p x.prefix ≡ false =
    no_tie p x.prefix (λ same. not_before p (subst (λ (q : Block). IsBefore q p) same
    (behind_has x.prefix p c changes ascending.0 has))) in
    ap (λ b. cond b (Some x.cell) (named changes p)) other ∙ has_named changes p c ascending.1 has

-- the cell that is there, or else another
abbrev pub cell_or : Option Cell → Cell → Cell
cell_or None cell = cell
cell_or (Some own) cell = own

pub taken_cell : (changes : List CellChange) (cells : Mapped Cell) (p : Block) → AreAscending changes
    → cell_at (taken_over changes cells) p ≡ cell_or (named changes p) (cell_at cells p)
taken_cell [] cells p ascending = refl
taken_cell (x ∷ changes) cells p ascending =
    let rest = taken_cell changes (written x cells) p ascending.1 in
    elim (same_or_not p x.prefix) [
      | inl same ↦
          let own : named (x ∷ changes) p ≡ Some x.cell =
          ap (λ b. cond b (Some x.cell) (named changes p)) (tie p x.prefix same) in
          let none : named changes p ≡ None =
          subst (λ q. named changes q ≡ None) (sym same) (unnamed x.prefix changes ascending.0) in
          let here : cell_at (written x cells) p ≡ x.cell =
          subst (λ q. cell_at (written x cells) q ≡ x.cell) (sym same) (written_here x cells) in
          rest ∙ ap (λ o. cell_or o (cell_at (written x cells) p)) none ∙ here
          ∙ sym (ap (λ o. cell_or o (cell_at cells p)) own)
      | inr other ↦
          let later : named (x ∷ changes) p ≡ named changes p =
          ap (λ b. cond b (Some x.cell) (named changes p)) (no_tie p x.prefix (λ same. other (sym same))) in
          rest ∙ ap (λ o. cell_or (named changes p) (cell_or_empty o)) (written_others x cells p other)
          ∙ sym (ap (λ o. cell_or o (cell_at cells p)) later)
    ]

-- a change that is there is written
pub changed : (changes : List CellChange) (cells : Mapped Cell) → AreAscending changes → (p : Block) (c : Cell)
    → Has changes (change_of p c) → cell_at (taken_over changes cells) p ≡ c
changed changes cells ascending p c has =
    taken_cell changes cells p ascending
    ∙ ap (λ o. cell_or o (cell_at cells p)) (has_named changes p c ascending has)

unchanged_by : (changes : List CellChange) (cells : Mapped Cell) (p : Block) (o : Option Cell) → named changes p ≡ o
    → ((c : Cell) → ¬ Has changes (change_of p c)) → cell_or o (cell_at cells p) ≡ cell_at cells p
unchanged_by changes cells p None is never = refl
unchanged_by changes cells p (Some c) is never = absurd (never c (named_has changes p c is))

-- and no other cell
pub unchanged : (changes : List CellChange) (cells : Mapped Cell) → AreAscending changes → (p : Block)
    → ((c : Cell) → ¬ Has changes (change_of p c)) → cell_at (taken_over changes cells) p ≡ cell_at cells p
unchanged changes cells ascending p never =
    taken_cell changes cells p ascending ∙ unchanged_by changes cells p (named changes p) refl never

pub taken_filled : (changes : List CellChange) (cells : Mapped Cell) → ((p : Block) → ¬ (get cells p ≡ Some empty_cell))
    → (p : Block) → ¬ (get (taken_over changes cells) p ≡ Some empty_cell)
taken_filled [] cells filled = filled
taken_filled (x ∷ changes) cells filled = taken_filled changes (written x cells) (written_filled x cells filled)

after_filled : (s : Publication) (batches : List Batch) → ((p : Block) → ¬ (get s.cells p ≡ Some empty_cell))
    → (p : Block) → ¬ (get (after s batches).cells p ≡ Some empty_cell)
after_filled s [] filled = filled
after_filled s (b ∷ batches) filled = after_filled (step s b) batches (taken_filled b.changes s.cells filled)

after_cell : (s : Publication) (batches : List Batch) → AllAscend batches → (p : Block)
    → cell_at (after s batches).cells p ≡ cell_or (last_named batches p) (cell_at s.cells p)
after_cell s [] ascend p = refl
after_cell s (b ∷ batches) ascend p =
    after_cell (step s b) batches ascend.1 p
    ∙ ap (cell_or (last_named batches p)) (taken_cell b.changes s.cells p ascend.0)
    ∙ joined (last_named batches p) (named b.changes p) (cell_at s.cells p)
  where
    joined : (o r : Option Cell) (c : Cell) → cell_or o (cell_or r c) ≡ cell_or (first_there o r) c
    joined None r c = refl
    joined (Some d) r c = refl

or_empty : (o : Option Cell) → cell_or o empty_cell ≡ cell_or_empty o
or_empty None = refl
or_empty (Some c) = refl

after_number : (s : Publication) (batches : List Batch) → (after s batches).number ≡ last_number s.number batches
after_number s [] = refl
after_number s (b ∷ batches) = after_number (step s b) batches

after_kinds : (s : Publication) (batches : List Batch) → (after s batches).kinds ≡ last_kinds s.kinds batches
after_kinds s [] = refl
after_kinds s (b ∷ batches) = after_kinds (step s b) batches

after_more : (s : Publication) (batches : List Batch) (b : Batch)
    → after s (batches ++ b ∷ []) ≡ step (after s batches) b
after_more s [] b = refl
after_more s (x ∷ batches) b = after_more (step s x) batches b

no_cell : (p : Block) → get (empty {X = Cell} {R = prefix_order}) p ≡ None
no_cell p = get-empty prefix_order p

pub fold_more : (kinds : List (ℕ × Kind)) (batches : List Batch) (b : Batch)
    → fold kinds (batches ++ b ∷ []) ≡ step (fold kinds batches) b
fold_more kinds batches b = after_more (opening kinds) batches b

pub fold_number : (kinds : List (ℕ × Kind)) (batches : List Batch) → (fold kinds batches).number ≡ last_number 0 batches
fold_number kinds batches = after_number (opening kinds) batches

pub fold_kinds : (kinds : List (ℕ × Kind)) (batches : List Batch)
    → (fold kinds batches).kinds ≡ last_kinds kinds batches
fold_kinds kinds batches = after_kinds (opening kinds) batches

pub fold_cells : (kinds : List (ℕ × Kind)) (batches : List Batch) → AllAscend batches → (p : Block)
    → cell_at (fold kinds batches).cells p ≡ cell_or_empty (last_named batches p)
fold_cells kinds batches ascend p =
    after_cell (opening kinds) batches ascend p
    ∙ ap (λ o. cell_or (last_named batches p) (cell_or_empty o)) (no_cell p)
    ∙ or_empty (last_named batches p)

pub fold_filled : (kinds : List (ℕ × Kind)) (batches : List Batch) (p : Block)
    → ¬ (get (fold kinds batches).cells p ≡ Some empty_cell)
fold_filled kinds batches =
    after_filled (opening kinds) batches (λ p is. let none = no_cell p in cc)
