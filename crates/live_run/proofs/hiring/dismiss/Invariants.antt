use Rattle.std.proofs.Common.{◌≡◌, ◌≤◌, ◌+◌, ◌++◌, map, reverse, vec_capacity, vec_len}
use Rattle.live_run.proofs.hiring.dismiss.Given as goal

-- what is put back, and then what the workers hold from the last one on
abbrev pub invariant-loop-worker : goal.invariant-loop-worker
invariant-loop-worker g l = record {
  parts : l.packets.items ++ reverse (map (λ w. w.packets) l.workers.items)
      ≡ reverse (map (λ w. w.packets) l.initial.workers.items);
  counted : vec_len l.packets + vec_len l.workers ≡ vec_len l.initial.workers;
  room : vec_len l.packets + vec_len l.workers ≤ vec_capacity l.packets;
}

abbrev pub decreases-loop-worker : goal.decreases-loop-worker
decreases-loop-worker g l = vec_len l.workers
