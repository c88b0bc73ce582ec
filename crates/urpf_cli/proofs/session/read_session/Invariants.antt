use Rattle.std.proofs.Common.{◌≡◌, ◌+◌, ◌≤◌, [], length, vec_len}
use Rattle.urpf_cli.proofs.Streams.{Progress}
use Rattle.urpf_cli.proofs.session.read_session.Given as goal

abbrev pub invariant-loop-held : goal.invariant-loop-held
invariant-loop-held l = record {
  empty : l.framer ≡ [];
  progress : Progress l.stream l.left l.items.items;
  room : vec_len l.items + length l.left ≤ length l.stream;
}

abbrev pub decreases-loop-held : goal.decreases-loop-held
decreases-loop-held l = length l.left
