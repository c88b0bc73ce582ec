use Rattle.std.proofs.Common.{◌≡◌, vec_len}
use Rattle.set_bench.proofs.checked.drawn.Given as goal

-- there are as many sources as turns
abbrev pub invariant-loop : goal.invariant-loop
invariant-loop l = vec_len l.sources ≡ l.counter
