use Rattle.std.proofs.Common.{◌↔◌, ◌⊎◌, ℕ}
use Rattle.urpf_base.specs.Masks.{InMask}
use Rattle.rpf_plain.specs.Kept.{each_row}
use Rattle.rpf_plain.specs.Walks.{IsPairListed, SomePair}
use Rattle.rpf_plain.proofs.by_pairs.listing_by_pairs.Given as goal

abbrev pub invariant-loop-pair : goal.invariant-loop-pair
invariant-loop-pair l =
    let all = each_row l.rows in
    (i : ℕ) → (InMask l.ifaces i ⊎ SomePair (IsPairListed all l.customers i l.prefix) l.pair-iterator)
    ↔ SomePair (IsPairListed all l.customers i l.prefix) l.pairs
