-- The prefixes of a family as the keys that they are kept under.
use Rattle.std.specs.Prelude.{◌+◌, ◌*◌, ◌^◌, ◌<◌}
use Rattle.urpf_base.specs.Address.{Block}
use Rattle.urpf_base.specs.declared.address.Addr.{Addr}
use Rattle.urpf_base.specs.declared.address.Addr.TheVariants.{V4, V6}
use Rattle.prefix_map.specs.declared.keys.ShortKey.{ShortKey}
use Rattle.prefix_map.specs.declared.keys.LongKey.{LongKey}
use Rattle.prefix_map.specs.declared.families.Key.{Key}
use Rattle.prefix_map.specs.declared.families.Key.TheVariants.{Short, Long}

-- the prefix of a short key is of IPv4
abbrev pub short_block : ShortKey → Block
short_block key = record { addr = V4 key.number; len = key.len }

-- the prefix of a long key is of IPv6
abbrev pub long_block : LongKey → Block
long_block key = record { addr = V6 (key.high * 2 ^ 64 + key.low); len = key.len }

-- the prefix of a key of either family
abbrev pub block_of_key : Key → Block
block_of_key (Short key) = short_block key
block_of_key (Long key) = long_block key

-- the number of an address has no more bits than its family
abbrev pub FitsFamily : Addr → Type 0
FitsFamily (V4 a) = a < 2 ^ 32
FitsFamily (V6 a) = a < 2 ^ 128
