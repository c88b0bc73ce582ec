use Rattle.std.proofs.Common.{◌-◌, ◌≤◌, length, slice_range}
use Rattle.live_rounds.specs.Rounds.{AreOthers}
use Rattle.live_rounds.proofs.rounds.next_round.Given as goal

-- no line so far ends a round
abbrev pub invariant-loop-k : goal.invariant-loop-k
invariant-loop-k l = record {
  from : l.from ≤ l.k;
  within : l.k ≤ length l.book;
  others : AreOthers (slice_range l.book l.from l.k);
}

abbrev pub decreases-loop-k : goal.decreases-loop-k
decreases-loop-k l = length l.book - l.k
