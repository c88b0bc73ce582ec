use Rattle.std.proofs.Common.{◌≡◌, ◌<◌, ◌+◌, None, ℕ}
use Rattle.urpf_base.specs.Address.{block_of}
use Rattle.std.specs.FinMap as map
use Rattle.prefix_map.proofs.map.PrefixMap.any_covers.Given as goal

-- no prefix of a lesser length was there, and each was one step
abbrev pub invariant-loop-len : goal.invariant-loop-len
invariant-loop-len g l = record {
  none : (k : ℕ) → k < l.len → map.get l.self (block_of k l.addr) ≡ None;
  steps : l.steps ≡ l.fn.steps + l.len;
}
