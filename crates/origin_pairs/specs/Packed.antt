-- The pairs as they are packed.
use Rattle.std.specs.Prelude.{◌+◌, ◌*◌, ◌^◌}
use Rattle.urpf_base.specs.declared.address.Addr.TheVariants.{V4, V6}
use Rattle.origin_pairs.specs.Pairs.{Pair}
use Rattle.origin_pairs.specs.declared.packed_pair.PackedPair.{PackedPair}
use Rattle.origin_pairs.specs.declared.packed_pair.PackedPair.TheVariants.{Short, Long}
use Rattle.origin_pairs.specs.declared.packed_pair.ShortPair.{ShortPair}
use Rattle.origin_pairs.specs.declared.packed_pair.LongPair.{LongPair}

-- a short pair is of IPv4
abbrev pub short_pair : ShortPair → Pair
short_pair p = (record { addr = V4 p.number; len = p.len }, p.origin)

-- a long pair is of IPv6
abbrev pub long_pair : LongPair → Pair
long_pair p = (record { addr = V6 (p.high * 2 ^ 64 + p.low); len = p.len }, p.origin)

-- the pair of either family
abbrev pub unpacked : PackedPair → Pair
unpacked (Short p) = short_pair p
unpacked (Long p) = long_pair p
