use Rattle.std.proofs.Common.{◌≡◌, ◌↔◌, ◌⊎◌, ℕ, IsTrue}
use Rattle.urpf_base.specs.Address.{Block}
use Rattle.urpf_base.specs.Masks.{InMask}
use Rattle.rpf_plain.specs.Cells.{cell_at}
use Rattle.rpf_plain.specs.Walks.{GivesPrefix, GivesToSetZ, IsFilled, SomePair}
use Rattle.rpf_plain.proofs.cells.with_pairs.Given as goal

abbrev pub invariant-loop-pair : goal.invariant-loop-pair
invariant-loop-pair l =
    let old = l.initial.cells in
    let origins = l.origins.reaches in
    record {
      f : (p : Block) → (cell_at l.cells p).f ≡ (cell_at old p).f;
      a : (p : Block) (i : ℕ)
          → (InMask (cell_at l.cells p).a i ⊎ SomePair (GivesPrefix origins l.customers i p) l.pair-iterator)
          ↔ (InMask (cell_at old p).a i ⊎ SomePair (GivesPrefix origins l.customers i p) l.pairs);
      z : (p : Block)
          → (IsTrue (cell_at l.cells p).z ⊎ SomePair (GivesToSetZ origins p) l.pair-iterator)
          ↔ (IsTrue (cell_at old p).z ⊎ SomePair (GivesToSetZ origins p) l.pairs);
      filled : IsFilled old → IsFilled l.cells;
    }
