-- How many packets the rounds of the workers read: as many as they made rows.
use Rattle.std.proofs.Common.{◌≡◌, ◌∙◌, ℕ, suc, ◌+◌, List, [], ◌∷◌, length, map}
use Rattle.std.proofs.Common.{Option, refl, ap, sym, arith}
use Rattle.std.specs.List.{AllZip}
use Rattle.std.specs.Prelude.{sum}
use Rattle.urpf_base.specs.declared.kinds.Kind.{Kind}
use Rattle.cover_table.specs.declared.batch.Batch.{Batch}
use Rattle.forward_worker.specs.Rounds.{EndsBy, IsRound}
use Rattle.forward_worker.specs.declared.desk.Desk.{Desk}
use Rattle.forward_worker.specs.declared.desk.Stop.{Stop}
use Rattle.forward_worker.specs.declared.desk.WorkerEnd.{WorkerEnd}
use Rattle.forward_worker.specs.declared.desk.WorkerEnd.TheVariants as end
use Rattle.forward_worker.specs.declared.rows.CheckRow.{CheckRow}
use Rattle.live_rounds.specs.Rounds.{packet_count}
use Rattle.live_rounds.specs.Stations.{IsFine, Station, WorkedRound}
use Rattle.live_text.proofs.RoundTexts.{sum_more}

-- ---- how many packets

-- the place after a round counts its rows
ends_place : (stop_at : Stop) (desk new : Desk) (had has : Option (List ℕ)) (outcome : WorkerEnd)
    → EndsBy stop_at desk new had has outcome → IsFine outcome → new.place ≡ desk.place
ends_place stop_at desk new had has end.Marker ends fine = ends.1.place
ends_place stop_at desk new had has end.End ends fine = ends.0.place
ends_place stop_at desk new had has end.Failed ends fine = absurd fine
ends_place stop_at desk new had has end.Bad ends fine = absurd fine
ends_place stop_at desk new had has end.Limit ends fine = absurd fine
ends_place stop_at desk new had has end.OutOfMemory ends fine = absurd fine

round_place : (stop_at : Stop) (old new : Desk) (had has : Option (List ℕ)) (rows : List CheckRow)
    (outcome : WorkerEnd) → IsRound stop_at old new had has [] rows outcome → IsFine outcome
    → new.place ≡ old.place + length rows
round_place stop_at old new had has rows outcome is fine =
    ends_place stop_at is.desk new is.behind has outcome is.ends fine ∙ is.over.place
    ∙ ap (λ (rs : List CheckRow). old.place + length rs) (sym is.over.joined)

-- all workers together
pub round_count_of : (stop_at : Stop) (kinds : List (ℕ × Kind)) (batches : List Batch) (lowest : ℕ)
    (olds news : List Station) → AllZip (WorkedRound stop_at kinds batches lowest) olds news
    → packet_count news ≡ packet_count olds + sum (map (λ (s : Station). length s.rows) news)
round_count_of stop_at kinds batches lowest [] [] worked = refl
round_count_of stop_at kinds batches lowest [] (new ∷ news) worked = absurd worked
round_count_of stop_at kinds batches lowest (old ∷ olds) [] worked = absurd worked
round_count_of stop_at kinds batches lowest (old ∷ olds) (new ∷ news) worked =
    let more = round_count_of stop_at kinds batches lowest olds news worked.1 in
    let one = round_place stop_at old.desk new.desk old.left new.left new.rows new.outcome worked.0.round worked.0.fine in
    let a = sum_more new.desk.place (map (λ (s : Station). s.desk.place) news) in
    let b = sum_more old.desk.place (map (λ (s : Station). s.desk.place) olds) in
    let c = sum_more (length new.rows) (map (λ (s : Station). length s.rows) news) in
    omega (arith, more, one, a, b, c)

-- as many workers
pub as_many_worked : (stop_at : Stop) (kinds : List (ℕ × Kind)) (batches : List Batch) (lowest : ℕ)
    (olds news : List Station) → AllZip (WorkedRound stop_at kinds batches lowest) olds news
    → length news ≡ length olds
as_many_worked stop_at kinds batches lowest [] [] worked = refl
as_many_worked stop_at kinds batches lowest [] (new ∷ news) worked = absurd worked
as_many_worked stop_at kinds batches lowest (old ∷ olds) [] worked = absurd worked
as_many_worked stop_at kinds batches lowest (old ∷ olds) (new ∷ news) worked =
    ap (λ (n : ℕ). suc n) (as_many_worked stop_at kinds batches lowest olds news worked.1)
