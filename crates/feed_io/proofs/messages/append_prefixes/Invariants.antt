use Rattle.std.proofs.Common.{◌≡◌, ◌++◌}
use Rattle.std.specs.List.{flat_map, range_with_len}
use Rattle.feed_io.specs.Generated.{prefix_field}
use Rattle.feed_io.proofs.messages.append_prefixes.Given as goal

abbrev pub invariant-loop-k : goal.invariant-loop-k
invariant-loop-k l = l.message ≡ l.initial.message ++ flat_map prefix_field (range_with_len l.first l.k)
