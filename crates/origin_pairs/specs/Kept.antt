-- How a set of pairs is kept: the pairs of IPv4 in one ordered set, and those of IPv6 in another.
use Rattle.std.specs.Prelude.{List, map, ◌++◌}
use Rattle.std.specs.Coded.{Coded, coded×, coded_ℕ}
use Rattle.std.specs.List.Sorted.{IsStrictlySortedBy}
use Rattle.prefix_map.specs.Kept.{block_code}
use Rattle.origin_pairs.specs.Packed.{long_pair, short_pair}
use Rattle.origin_pairs.specs.Pairs.{Pair, pair_order}
use Rattle.origin_pairs.specs.declared.packed_pair.ShortPair.{ShortPair}
use Rattle.origin_pairs.specs.declared.packed_pair.LongPair.{LongPair}

-- first the pairs of IPv4, and then those of IPv6
abbrev pub all_pairs : List ShortPair → List LongPair → List Pair
all_pairs short long = map short_pair short ++ map long_pair long

-- the pairs of each family ascend
pub record AreKept (short : List ShortPair) (long : List LongPair) : Type 0 where
  pub shorts : IsStrictlySortedBy (λ x y. pair_order (short_pair x) (short_pair y)) short
  pub longs : IsStrictlySortedBy (λ x y. pair_order (long_pair x) (long_pair y)) long

-- how pairs are told apart
abbrev pub pair_code : Coded Pair
pair_code = coded× block_code coded_ℕ
