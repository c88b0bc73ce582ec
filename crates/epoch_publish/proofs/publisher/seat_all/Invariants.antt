use Rattle.std.proofs.Common.{◌≡◌, ◌≤◌, vec_len, vec_capacity}
use Rattle.std.specs.List.{AllByRecursion}
use Rattle.epoch_publish.specs.Publications.{fresh}
use Rattle.epoch_publish.proofs.publisher.seat_all.Given as goal

-- a fresh pass for each place so far, and room for the others
abbrev pub invariant-loop : goal.invariant-loop
invariant-loop g l = record {
  fresh : AllByRecursion (λ p. p ≡ fresh g.J.Naming.book g.J.Naming.opening) l.items.items;
  count : vec_len l.items ≡ l.counter;
  room : l.passes ≤ vec_capacity l.items;
}
