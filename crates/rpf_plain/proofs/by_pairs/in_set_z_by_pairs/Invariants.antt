use Rattle.std.proofs.Common.{◌↔◌}
use Rattle.rpf_plain.specs.Kept.{each_row}
use Rattle.rpf_plain.specs.Walks.{IsPairForSetZ, SomePair}
use Rattle.rpf_plain.proofs.by_pairs.in_set_z_by_pairs.Given as goal

abbrev pub invariant-loop-pair : goal.invariant-loop-pair
invariant-loop-pair l =
    let all = each_row l.rows in
    SomePair (IsPairForSetZ all l.customers l.prefix) l.pair-iterator
    ↔ SomePair (IsPairForSetZ all l.customers l.prefix) l.pairs
