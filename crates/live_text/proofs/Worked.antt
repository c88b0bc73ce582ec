-- What a round of a worker reads of its stream, and what the rows of all rounds are.
use Rattle.std.proofs.Common.{◌≡◌, ℕ, ◌+◌, List, [], Option, Some, subst}
use Rattle.urpf_base.specs.declared.kinds.Kind.{Kind}
use Rattle.cover_table.specs.declared.batch.Batch.{Batch}
use Rattle.forward_worker.specs.Rounds.{IsRound}
use Rattle.forward_worker.specs.declared.desk.Stop.TheVariants as stop
use Rattle.run_lines.specs.Inputs.{Run}
use Rattle.run_lines.specs.Steps.{Step}
use Rattle.live_rounds.specs.Stations.{Station, WorkedRound}
use Rattle.live_text.specs.Numbers.{round_count}
use Rattle.live_text.specs.Tables.{IsTableOf, Table}
use Rattle.live_text.proofs.Joined.{IsRestOf}
use Rattle.live_text.proofs.RoundsRead.{IsEmptied, LastRead, RoundRead, last_read, round_read}

module _ (kinds : List (ℕ × Kind)) (batches : List Batch) (lowest last : ℕ) (old new : Station) (text : List ℕ)
    (has : old.left ≡ Some text) (emptied : IsEmptied old.desk text) where
  -- a round up to a marker, and a worker that saw the end in it has nothing left
  pub worked_read : (round : ℕ) → WorkedRound stop.Marker kinds batches lowest old new
      → (read : RoundRead last round old.desk new.desk text new.left new.rows new.outcome)
      × IsEmptied new.desk read.rest
  worked_read round worked =
      let read = round_read last round old.desk new.desk text new.left new.rows new.outcome emptied
      (subst (λ (o : Option (List ℕ)). IsRound stop.Marker old.desk new.desk o new.left [] new.rows new.outcome) has
      worked.round)
      worked.fine in
      (read, read.emptied worked.ended.0)

  -- the last round
  pub worked_last : WorkedRound stop.End kinds batches lowest old new
      → LastRead last old.desk new.desk text new.rows
  worked_last worked =
      last_read last old.desk new.desk text new.left new.rows new.outcome emptied
      (subst (λ (o : Option (List ℕ)). IsRound stop.End old.desk new.desk o new.left [] new.rows new.outcome) has
      worked.round)
      worked.fine

-- what a whole stream has left before the first round is the stream
pub whole_table : (run : Run) (steps : List Step) (worker : ℕ) (stream : List ℕ) (table : Table)
    → IsRestOf run steps (round_count steps + 1) worker 0 1 0 stream table → IsTableOf run steps worker stream table
whole_table run steps worker stream table is = record { good = is.good; rows = is.rows; ordered = is.ordered }
