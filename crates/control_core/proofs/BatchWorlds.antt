-- Differences that are taken over lead from the cells of one world to those of the next, and verdicts with them.
use Rattle.std.proofs.Common.{◌≡◌, ℕ, ◌+◌, ◌==◌, Bool, true, false, cond, List, [], ◌∷◌, length, Option, Some, None}
use Rattle.std.proofs.Common.{refl, sym, subst, inl, inr, arith}
use Rattle.std.specs.Option.{option_map}
use Rattle.std.proofs.lemmas.Bool.{cases_Bool}
use Rattle.urpf_base.specs.Address.{Block}
use Rattle.urpf_base.specs.Kinds.{mode_for}
use Rattle.urpf_base.specs.declared.address.Addr.{Addr}
use Rattle.urpf_base.specs.declared.cells.Cell.{Cell}
use Rattle.urpf_base.specs.declared.cells.CellChange.{CellChange}
use Rattle.urpf_base.specs.declared.kinds.Kind.{Kind}
use Rattle.urpf_base.specs.declared.verdicts.Verdict.TheVariants as verdict
use Rattle.prefix_map.specs.Mapped.{Mapped}
use Rattle.router_config.specs.Kinds.{kind_in}
use Rattle.origin_pairs.specs.Pairs.{Pair}
use Rattle.rpf_plain.specs.Cells.{IsCell, IsDifference, cell_at}
use Rattle.rpf_plain.specs.Modes.{IsVerdict, IsVerdictBy, IsVerdictFor, SomeCovers, set_of}
use Rattle.rpf_plain.specs.World.{World, role_in, roles_of}
use Rattle.rpf_plain.proofs.Changed.{same_or_other}
use Rattle.rpf_plain.proofs.Drained.{no_rows, one_cell}
use Rattle.rpf_plain.proofs.Made.{some_cell}
use Rattle.rpf_plain.proofs.Modal.{says}
use Rattle.cover_table.specs.declared.batch.Batch.{Batch}
use Rattle.cover_table.specs.Folds.{named}
use Rattle.cover_table.specs.Judging.{judge, judge_for, passes}
use Rattle.control_core.specs.Batches.{AreBatchesOf, IsBatchOf, Mark, StandsFor, first_mark, last_mark, world_of}
use Rattle.cover_table.specs.Snapshots.{Publication, after, fold, opening, step}
use Rattle.cover_table.specs.Tables.{taken_over}
use Rattle.cover_table.proofs.Folding.{cell_or, has_named, named_has, taken_cell}
use Rattle.cover_table.proofs.Passing.{SomeSays, passes_is}

module _ (old new : World) (cells : Mapped Cell) (changes : List CellChange) (p : Block)
    (was : IsCell old p (cell_at cells p)) (difference : IsDifference old new changes) where
  unnamed_cell : (c : Cell) → IsCell new p c → named changes p ≡ None → c ≡ cell_at cells p
  unnamed_cell c is none = elim (same_or_other c (cell_at cells p)) [
    | inl same ↦ same
    | inr other ↦
        let has : named changes p ≡ Some c = has_named changes p c difference.ascending
        ((difference.each p c).1 (is, λ of_old. other (one_cell old p c (cell_at cells p) of_old was))) in
        absurd cc
  ]

  cell_by : (o : Option Cell) → named changes p ≡ o → IsCell new p (cell_or o (cell_at cells p))
  cell_by None none = let (c, is) = some_cell new p in subst (IsCell new p) (unnamed_cell c is none) is
  cell_by (Some c) is = ((difference.each p c).0 (named_has changes p c is)).0

  pub cell_then : IsCell new p (cell_at (taken_over changes cells) p)
  cell_then =
      subst (IsCell new p) (sym (taken_cell changes cells p difference.ascending)) (cell_by (named changes p) refl)

pub stands_then : (number : ℕ) (before mark : Mark) (s : Publication) (batch : Batch) → StandsFor before s
    → IsBatchOf number before mark batch → StandsFor mark (step s batch)
stands_then number before mark s batch stands is = record {
  kinds = is.kinds;
  cells = λ p. cell_then (world_of before) (world_of mark) s.cells batch.changes p (stands.cells p) is.changes;
}

stands_last : (number : ℕ) (before : Mark) (marks : List Mark) (batches : List Batch) (s : Publication)
    → StandsFor before s → AreBatchesOf number before marks batches → StandsFor (last_mark before marks) (after s batches)
stands_last number before [] [] s stands are = stands
stands_last number before [] (batch ∷ batches) s stands are = absurd are
stands_last number before (mark ∷ marks) [] s stands are = absurd are
stands_last number before (mark ∷ marks) (batch ∷ batches) s stands are =
    stands_last (number + 1) mark marks batches (step s batch)
    (stands_then (number + 1) before mark s batch stands are.0) are.1

pub stands_first : (kinds : List (ℕ × Kind)) (pairs : List Pair) → StandsFor (first_mark kinds pairs) (opening kinds)
stands_first kinds pairs = record { kinds = refl; cells = (no_rows (roles_of kinds) pairs).cells }

numbered : (number : ℕ) (before : Mark) (marks : List Mark) (batches : List Batch) (s : Publication)
    → s.number ≡ number → AreBatchesOf number before marks batches → (after s batches).number ≡ number + length marks
numbered number before [] [] s is are = omega (arith, is)
numbered number before [] (batch ∷ batches) s is are = absurd are
numbered number before (mark ∷ marks) [] s is are = absurd are
numbered number before (mark ∷ marks) (batch ∷ batches) s is are =
    let later = numbered (number + 1) mark marks batches (step s batch) are.0.numbered are.1 in omega (arith, later)

-- the role of an interface is that of its kind
role_of_kind : (kinds : List (ℕ × Kind)) (i : ℕ)
    → role_in (roles_of kinds) i ≡ option_map (λ k. k.role) (kind_in kinds i)
role_of_kind [] i = refl
role_of_kind (k ∷ kinds) i =
    let more = role_of_kind kinds i in
    elim (cases_Bool (k.0 == i)) [ inl e ↦ rw e refl | inr e ↦ rw e more ]

module _ (cells : Mapped Cell) (w : World) (iface : ℕ) (is_cell : (p : Block) → IsCell w p (cell_at cells p)) where
  to_set : (kind : Kind) (source : Addr) → role_in w.roles iface ≡ Some kind.role
      → SomeSays (mode_for kind.role kind.mode) iface cells source → SomeCovers (set_of kind w iface) source
  to_set kind source role (p, told, covers) =
      (p, (says w p (cell_at cells p) iface kind (is_cell p) role).1 told, covers)

  from_set : (kind : Kind) (source : Addr) → role_in w.roles iface ≡ Some kind.role
      → SomeCovers (set_of kind w iface) source → SomeSays (mode_for kind.role kind.mode) iface cells source
  from_set kind source role (p, has, covers) =
      (p, (says w p (cell_at cells p) iface kind (is_cell p) role).0 has, covers)

  verdict_by : (kind : Kind) (source : Addr) (b : Bool) → role_in w.roles iface ≡ Some kind.role
      → passes (mode_for kind.role kind.mode) iface cells source ≡ b
      → IsVerdictBy kind w iface source (cond b verdict.Pass verdict.Drop)
  verdict_by kind source true role is =
      to_set kind source role ((passes_is (mode_for kind.role kind.mode) iface cells source).0 is)
  verdict_by kind source false role is = λ some.
      let passed = (passes_is (mode_for kind.role kind.mode) iface cells source).1 (from_set kind source role some) in
      absurd cc

  verdict_for : (kind : Option Kind) (source : Option Addr) → role_in w.roles iface ≡ option_map (λ k. k.role) kind
      → IsVerdictFor kind w iface source (judge_for kind cells iface source)
  verdict_for None source role = refl
  verdict_for (Some kind) None role = refl
  verdict_for (Some kind) (Some source) role =
      verdict_by kind source (passes (mode_for kind.role kind.mode) iface cells source) role refl

pub verdict_of : (mark : Mark) (s : Publication) → StandsFor mark s → (iface : ℕ) (source : Option Addr)
    → IsVerdict mark.kinds mark.rows mark.pairs iface source (judge s iface source)
verdict_of mark s stands iface source =
    subst (λ kinds. IsVerdictFor (kind_in mark.kinds iface) (world_of mark) iface source
    (judge_for (kind_in kinds iface) s.cells iface source)) (sym stands.kinds)
    (verdict_for s.cells (world_of mark) iface stands.cells (kind_in mark.kinds iface) source
    (role_of_kind mark.kinds iface))

pub fold_judges : (kinds : List (ℕ × Kind)) (pairs : List Pair) (marks : List Mark) (batches : List Batch)
    → AreBatchesOf 0 (first_mark kinds pairs) marks batches → (iface : ℕ) (source : Option Addr)
    → IsVerdict (last_mark (first_mark kinds pairs) marks).kinds (last_mark (first_mark kinds pairs) marks).rows
    (last_mark (first_mark kinds pairs) marks).pairs iface source (judge (fold kinds batches) iface source)
fold_judges kinds pairs marks batches are iface source =
    verdict_of (last_mark (first_mark kinds pairs) marks) (fold kinds batches)
    (stands_last 0 (first_mark kinds pairs) marks batches (opening kinds) (stands_first kinds pairs) are) iface source

pub fold_counts : (kinds : List (ℕ × Kind)) (pairs : List Pair) (marks : List Mark) (batches : List Batch)
    → AreBatchesOf 0 (first_mark kinds pairs) marks batches → (fold kinds batches).number ≡ length marks
fold_counts kinds pairs marks batches are =
    let counted = numbered 0 (first_mark kinds pairs) marks batches (opening kinds) refl are in omega (arith, counted)
