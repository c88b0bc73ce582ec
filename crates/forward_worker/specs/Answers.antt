-- The answers of a round's rows: which publication judged each. Our own choice.
use Rattle.std.specs.Prelude.{◌≡◌, ℕ, ◌≤◌, List, [], ◌∷◌, length, take, None, MatchOption, IsSome}
use Rattle.std.specs.Prelude.{Bool, true, false}
use Rattle.urpf_base.specs.Faults.{Rose}
use Rattle.urpf_base.specs.declared.kinds.Kind.{Kind}
use Rattle.cover_table.specs.Judging.{judge}
use Rattle.cover_table.specs.Snapshots.{fold}
use Rattle.cover_table.specs.declared.batch.Batch.{Batch}
use Rattle.forward_worker.specs.declared.rows.CheckRow.{CheckRow}

-- no row has an answer
abbrev pub NoneAnswered : List CheckRow → Type 0
NoneAnswered [] = Unit {0}
NoneAnswered (row ∷ rows) = (row.answer ≡ None) × NoneAnswered rows

-- each row has an answer
abbrev pub AllAnswered : List CheckRow → Type 0
AllAnswered [] = Unit {0}
AllAnswered (row ∷ rows) = IsSome row.answer × AllAnswered rows

-- each answer has a number from the lowest to that of the last batch, none lower than the one before, and the verdict
-- by so many first batches; behind the first row without an answer none has one
abbrev pub AreAnswered : List (ℕ × Kind) → List Batch → ℕ → List CheckRow → Type 0
AreAnswered kinds batches lowest [] = lowest ≤ length batches
AreAnswered kinds batches lowest (row ∷ rows) =
    MatchOption row.answer
    ((lowest ≤ length batches) × NoneAnswered rows)
    (λ answer. (lowest ≤ answer.0) × (answer.1 ≡ judge (fold kinds (take answer.0 batches)) row.iface row.source)
    × AreAnswered kinds batches answer.0 rows)

-- a pass that may still be asked has answered each row, and its count is the first one; it was refused else
abbrev pub Asks : Bool → ℕ → ℕ → List CheckRow → Type 0
Asks true first count rows = (count ≡ first) × AllAnswered rows
Asks false first count rows = Rose first count
