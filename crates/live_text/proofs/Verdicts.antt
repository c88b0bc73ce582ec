-- The verdicts of the first batches of a run are those of the worlds of its marks.
use Rattle.std.proofs.Common.{ℕ, ◌≤◌, List, length, take, Option, arith}
use Rattle.urpf_base.specs.declared.address.Addr.{Addr}
use Rattle.cover_table.specs.Judging.{judge}
use Rattle.cover_table.specs.Snapshots as snapshots
use Rattle.cover_table.specs.Snapshots.{after, fold}
use Rattle.cover_table.specs.declared.batch.Batch.{Batch}
use Rattle.run_lines.specs.Inputs.{Run}
use Rattle.run_lines.specs.Places.{opening}
use Rattle.run_lines.specs.Publications.{AreBatches}
use Rattle.run_lines.specs.Steps.{Step}
use Rattle.live_text.specs.Tables.{IsVerdictOf}
use Rattle.live_text.proofs.MarkWorlds.{first_steps, stands_opening, verdict_at}

pub verdict_of_mark : (run : Run) (steps : List Step) (batches : List Batch)
    → AreBatches run (opening run.config.sessions) steps batches → (number : ℕ) → number ≤ length batches
    → (iface : ℕ) (source : Option Addr)
    → IsVerdictOf run steps number iface source
    (judge (fold run.config.interfaces (take number batches)) iface source)
verdict_of_mark run steps batches are number most iface source =
    let first = first_steps run steps (opening run.config.sessions) (snapshots.opening run.config.interfaces) batches number
    (stands_opening run) are most in
    let shown = after (snapshots.opening run.config.interfaces) (take number batches) in
    record {
      before = first.before;
      later = first.later;
      parts = first.parts;
      numbered = let n = first.numbered in omega (arith, n);
      kinds = shown.kinds;
      world = first.stands.world;
      is = first.stands.is;
      judges = verdict_at run _ shown first.stands iface source;
    }
