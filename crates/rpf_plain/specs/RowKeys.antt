-- How an engine keeps its rows in few octets: those of IPv4 in one ordered map, and those of IPv6 in another.
use Rattle.std.specs.Prelude.{ℕ, ◌+◌, ◌*◌, ◌^◌, Bool, true, false, IsTrue, List, map, ◌++◌, Option, Some, None}
use Rattle.std.specs.FinMap.{is_sorted}
use Rattle.urpf_base.specs.declared.address.Addr.TheVariants.{V4, V6}
use Rattle.prefix_map.specs.Kept.{joined}
use Rattle.rpf_plain.specs.Rows.{row_of, row_order}
use Rattle.rpf_plain.specs.declared.rows.Row.{Row}
use Rattle.rpf_plain.specs.declared.row_keys.RowKey.{RowKey}
use Rattle.rpf_plain.specs.declared.row_keys.RowKey.TheVariants.{Long, Short}
use Rattle.rpf_plain.specs.declared.row_keys.ShortRow.{ShortRow}
use Rattle.rpf_plain.specs.declared.row_keys.LongRow.{LongRow}

-- the origin where it is known
abbrev pub origin_of : Bool → ℕ → Option ℕ
origin_of false origin = None
origin_of true origin = Some origin

-- a short key is a row of IPv4
abbrev pub short_row : ShortRow → Row
short_row k = row_of k.iface (record { addr = V4 k.number; len = k.len }) (origin_of k.known k.origin)

-- a long key is a row of IPv6
abbrev pub long_row : LongRow → Row
long_row k = row_of k.iface (record { addr = V6 (k.high * 2 ^ 64 + k.low); len = k.len }) (origin_of k.known k.origin)

-- the row of either family
abbrev pub row_of_key : RowKey → Row
row_of_key (Short k) = short_row k
row_of_key (Long k) = long_row k

-- the rows of both families, IPv4 first
abbrev pub both_rows : List ShortRow → List LongRow → List Row
both_rows short long = map short_row short ++ map long_row long

-- the same with how often each is there beyond once
abbrev pub both_counts : List (ShortRow × ℕ) → List (LongRow × ℕ) → List (Row × ℕ)
both_counts short long = joined short_row long_row short long

-- the rows of each family ascend
pub record AreCounts (short : List (ShortRow × ℕ)) (long : List (LongRow × ℕ)) : Type 0 where
  pub shorts : IsTrue (is_sorted (λ x y. row_order (short_row x) (short_row y)) short)
  pub longs : IsTrue (is_sorted (λ x y. row_order (long_row x) (long_row y)) long)
