-- The order of pairs is total, ties are equal, and it is what the comparison of packed pairs computes.
use Rattle.std.proofs.Common.{◌≡◌, ◌+◌, ◌*◌, ◌^◌, refl, ◌∙◌}
use Rattle.std.specs.declared.cmp.Ordering.{Ordering}
use Rattle.std.specs.declared.cmp.Ordering.TheVariants.{Less, Greater}
use Rattle.std.specs.Ordering.{nat_cmp, ordering_then}
use Rattle.std.specs.Cmp.{IsTotalOrder, nat_cmp_total, on_total, then_total}
use Rattle.std.specs.Cmp.Derive.{then_next}
use Rattle.std.specs.FinMap.{IsAntisymmetric, nat_cmp-IsAntisymmetric}
use Rattle.urpf_base.specs.Order.{prefix_order}
use Rattle.prefix_map.proofs.Halves.{halves_compare}
use Rattle.prefix_map.proofs.Joined.{on}
use Rattle.prefix_map.proofs.Order.{prefix_total, prefix_ties, first_tie, second_tie}
use Rattle.origin_pairs.specs.Packed.{long_pair, short_pair}
use Rattle.origin_pairs.specs.Pairs.{Pair, pair_order}
use Rattle.origin_pairs.specs.declared.packed_pair.ShortPair.{ShortPair}
use Rattle.origin_pairs.specs.declared.packed_pair.LongPair.{LongPair}
use Rattle.origin_pairs.specs.contracts.packed_pair.ShortPairOrd.TheImpl as short_ord
use Rattle.origin_pairs.specs.contracts.packed_pair.LongPairOrd.TheImpl as long_ord

pub pair_total : IsTotalOrder pair_order
pair_total = then_total (on_total (λ (p : Pair). p.0) prefix_total) (on_total (λ (p : Pair). p.1) nat_cmp_total)

pub pair_ties : IsAntisymmetric pair_order
pair_ties x y e i = (
  prefix_ties x.0 y.0 (first_tie _ _ e) i,
  nat_cmp-IsAntisymmetric x.1 y.1 (second_tie (prefix_order x.0 y.0) _ e) i,
)

abbrev pub short_order : ShortPair → ShortPair → Ordering
short_order = on pair_order short_pair

abbrev pub long_order : LongPair → LongPair → Ordering
long_order = on pair_order long_pair

-- what the comparison of the packed pairs computes
abbrev pub own_short : ShortPair → ShortPair → Ordering
own_short = (short_ord.ghosts).cmp

abbrev pub own_long : LongPair → LongPair → Ordering
own_long = (long_ord.ghosts).cmp

pub short_agrees : own_short ≡ short_order
short_agrees i x y =
    then_next (nat_cmp x.number y.number) (nat_cmp x.len y.len) (nat_cmp x.origin y.origin) refl refl i

long_compares : (x y : LongPair) → own_long x y ≡ long_order x y
long_compares x y =
    halves_compare x.high y.high x.low y.low (ordering_then (nat_cmp x.len y.len) (nat_cmp x.origin y.origin))
    x.small_low y.small_low
    ∙ then_next (nat_cmp (x.high * 2 ^ 64 + x.low) (y.high * 2 ^ 64 + y.low)) (nat_cmp x.len y.len)
    (nat_cmp x.origin y.origin) refl refl

pub long_agrees : own_long ≡ long_order
long_agrees i x y = long_compares x y i

pub apart : (x : ShortPair) (y : LongPair) → pair_order (short_pair x) (long_pair y) ≡ Less
apart x y = refl

pub back : (x : ShortPair) (y : LongPair) → pair_order (long_pair y) (short_pair x) ≡ Greater
back x y = refl
