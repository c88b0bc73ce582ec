-- The rows of packets as they are written: each has the verdict of one publication. Our own choice.
use Rattle.std.specs.Prelude.{◌≡◌, ℕ, ◌≤◌, nat_lt, Bool, true, false, if◌then◌else◌, List, [], ◌∷◌, length, map, take}
use Rattle.std.specs.Prelude.{Option, Some, None}
use Rattle.std.specs.List.{concat}
use Rattle.urpf_base.specs.declared.address.Addr.{Addr}
use Rattle.urpf_base.specs.declared.kinds.Kind.{Kind}
use Rattle.urpf_base.specs.declared.verdicts.Verdict.{Verdict}
use Rattle.cover_table.specs.Judging.{judge}
use Rattle.cover_table.specs.Snapshots.{fold}
use Rattle.cover_table.specs.declared.batch.Batch.{Batch}
use Rattle.report_text.specs.Lines.{packet_line}
use Rattle.forward_worker.specs.declared.rows.CheckRow.{CheckRow}

-- a packet of a worker, and the verdict on it by the publication of this number
pub record Row : Type 0 where
  pub worker : ℕ
  pub place : ℕ
  pub iface : ℕ
  pub source : Option Addr
  pub number : ℕ
  pub verdict : Verdict

-- the verdict of the last publication
abbrev pub newest : List (ℕ × Kind) → List Batch → CheckRow → ℕ × Verdict
newest kinds batches row = (length batches, judge (fold kinds batches) row.iface row.source)

-- an answer counts where it names no later publication than the last one; else the verdict of the last one does
abbrev pub answer_or : List (ℕ × Kind) → List Batch → CheckRow → Option (ℕ × Verdict) → ℕ × Verdict
answer_or kinds batches row None = newest kinds batches row
answer_or kinds batches row (Some answer) =
    if nat_lt (length batches) answer.0 then newest kinds batches row else answer

-- the answers of a worker count where its checker is known to have been told of all batches
abbrev pub final_answer : Bool → List (ℕ × Kind) → List Batch → CheckRow → ℕ × Verdict
final_answer true kinds batches row = answer_or kinds batches row row.answer
final_answer false kinds batches row = newest kinds batches row

-- the packet of a row with this answer
abbrev pub row_with : CheckRow → ℕ × Verdict → Row
row_with row answer = record {
  worker = row.worker;
  place = row.place;
  iface = row.iface;
  source = row.source;
  number = answer.0;
  verdict = answer.1;
}

abbrev pub final_row : Bool → List (ℕ × Kind) → List Batch → CheckRow → Row
final_row known kinds batches row = row_with row (final_answer known kinds batches row)

-- the line of a row
abbrev pub row_line : Row → List ℕ
row_line row = packet_line row.worker row.place row.iface row.source row.verdict row.number

abbrev pub rows_text : List Row → List ℕ
rows_text rows = concat (map row_line rows)

-- each row has a number from the lowest to that of the last batch, none lower than the one before, and the verdict by so
-- many first batches
abbrev pub AreJudged : List (ℕ × Kind) → List Batch → ℕ → List Row → Type 0
AreJudged kinds batches lowest [] = Unit {0}
AreJudged kinds batches lowest (row ∷ rows) =
    (lowest ≤ row.number) × (row.number ≤ length batches)
    × (row.verdict ≡ judge (fold kinds (take row.number batches)) row.iface row.source)
    × AreJudged kinds batches row.number rows
