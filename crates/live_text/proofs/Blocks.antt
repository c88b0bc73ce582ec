-- The text of steps with the rows of their rounds, block by block.
use Rattle.std.proofs.Common.{◌≡◌, ℕ, ◌+◌, List, [], ◌∷◌, ◌++◌, refl, sym, ap, subst, ◌∙◌, append_assoc, arith}
use Rattle.std.specs.List.{concat}
use Rattle.run_lines.specs.Inputs.{Run}
use Rattle.cover_table.specs.declared.batch.Batch.{Batch}
use Rattle.run_lines.specs.Places.{Place, next_place, place_after}
use Rattle.run_lines.specs.Publications.{AreBatches}
use Rattle.run_lines.specs.RunText.{GiveAll}
use Rattle.run_lines.specs.Steps.{Step, pull, publish, round, check, change, summary}
use Rattle.live_text.specs.Numbers.{round_count, rounds_by}
use Rattle.live_text.specs.Tables.{Table}
use Rattle.live_text.specs.Texts.{round_text, rows_behind, with_rows}

-- a step that ends no round has no rows behind it
quiet_step : (tables : List Table) (number : ℕ) (step : Step) (steps : List Step) (texts : List (List ℕ))
    → rounds_by step ≡ 0
    → rows_behind step number tables ++ with_rows tables (number + rounds_by step) steps texts
    ≡ with_rows tables number steps texts
quiet_step tables number step steps texts none =
    ap (λ (x : List ℕ). x ++ with_rows tables (number + rounds_by step) steps texts) (nothing step none)
    ∙ ap (λ (n : ℕ). with_rows tables n steps texts) (omega (arith, none))
  where
    nothing : (step : Step) → rounds_by step ≡ 0 → rows_behind step number tables ≡ []
    nothing (pull session count) none = refl
    nothing publish none = refl
    nothing round none = absurd (omega (arith, none))
    nothing (check iface addr) none = refl
    nothing (change edit) none = refl
    nothing summary none = refl

-- steps that end no round have no rows among their texts
pub quiet_block : (run : Run) (place : Place) (tables : List Table) (number : ℕ) (first later : List Step)
    (texts others : List (List ℕ)) → GiveAll run place first texts → round_count first ≡ 0
    → with_rows tables number (first ++ later) (texts ++ others)
    ≡ concat texts ++ with_rows tables number later others
quiet_block run place tables number [] later [] others given none = refl
quiet_block run place tables number [] later (t ∷ texts) others given none = absurd given
quiet_block run place tables number (step ∷ first) later [] others given none = absurd given
quiet_block run place tables number (step ∷ first) later (t ∷ texts) others given none =
    ap (λ (x : List ℕ). t ++ x)
    (quiet_step tables number step (first ++ later) (texts ++ others) (omega (arith, none))
    ∙ quiet_block run (next_place run.inputs step place) tables number first later texts others given.1
    (omega (arith, none)))
    ∙ sym (append_assoc t (concat texts) (with_rows tables number later others))

-- the step that ends a round, and its rows
pub round_block : (tables : List Table) (number : ℕ) (text : List ℕ) (later : List Step) (others : List (List ℕ))
    → with_rows tables number (round ∷ later) (text ∷ others)
    ≡ text ++ (round_text number tables ++ with_rows tables (number + 1) later others)
round_block tables number text later others = refl

-- ---- steps and those behind them

-- their texts
pub given_then : (run : Run) (place : Place) (first later : List Step) (texts others : List (List ℕ))
    → GiveAll run place first texts → GiveAll run (place_after run.inputs first place) later others
    → GiveAll run place (first ++ later) (texts ++ others)
given_then run place [] later [] others given rest = rest
given_then run place [] later (t ∷ texts) others given rest = absurd given
given_then run place (step ∷ first) later [] others given rest = absurd given
given_then run place (step ∷ first) later (t ∷ texts) others given rest =
    (given.0, given_then run (next_place run.inputs step place) first later texts others given.1 rest)

-- and their batches
pub batches_then : (run : Run) (place : Place) (first later : List Step) (a b : List Batch)
    → AreBatches run place first a → AreBatches run (place_after run.inputs first place) later b
    → AreBatches run place (first ++ later) (a ++ b)
batches_then run place [] later a b are next =
    subst (λ (bs : List Batch). AreBatches run place later (bs ++ b)) (sym are) next
batches_then run place (step ∷ first) later a b are next = (
  are.0,
  are.1 ++ b,
  ap (λ (bs : List Batch). bs ++ b) are.2 ∙ append_assoc are.0 are.1 b,
  are.3,
  batches_then run (next_place run.inputs step place) first later are.1 b are.4 next,
)
