use Rattle.std.proofs.Common.{◌≡◌, ◌≤◌, ◌+◌, [], ◌++◌, map, reverse, vec_capacity, vec_len}
use Rattle.std.specs.List.{AllByRecursion}
use Rattle.live_rounds.specs.Seats.{identity_of, list_of, opening_of}
use Rattle.live_rounds.specs.Stations.{IsReady, station_of}
use Rattle.live_run.specs.Hiring.{AreNew, SeesNone}
use Rattle.live_run.proofs.hiring.hire.Given as goal

-- the workers that were made, of the first packets, and then the packets that are left from the last one on
abbrev pub invariant-loop-source : goal.invariant-loop-source
invariant-loop-source g l = record {
  parts : map (λ w. w.packets) l.workers.items ++ reverse l.packets.items ≡ l.fn.packets.items;
  new : AreNew 0 (map (station_of g.P.PacketSource.left) l.workers.items);
  ready : AllByRecursion (IsReady identity_of opening_of list_of g.P.PacketSource.left g.J.Naming.opening []) l.workers.items;
  number : l.number ≡ vec_len l.workers;
  counted : vec_len l.workers + vec_len l.packets ≡ vec_len l.fn.packets;
  room : vec_len l.workers + vec_len l.packets ≤ vec_capacity l.workers;
  kept : vec_len l.workers + vec_len l.packets ≤ vec_capacity l.packets;
  fresh : AllByRecursion (SeesNone g.J.Naming.opening) l.passes;
}

abbrev pub decreases-loop-source : goal.decreases-loop-source
decreases-loop-source g l = vec_len l.packets
