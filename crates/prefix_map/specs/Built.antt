-- The map that pairs make as they come, one after another. Our own choice.
use Rattle.std.specs.Prelude.{List}
use Rattle.std.specs.List.{fold}
use Rattle.std.specs.FinMap.{FinMap, empty, entries, insert}
use Rattle.std.specs.declared.cmp.Ordering.{Ordering}
use Rattle.urpf_base.specs.Order.{prefix_order}
use Rattle.prefix_map.specs.declared.keys.ShortKey.{ShortKey}
use Rattle.prefix_map.specs.declared.keys.LongKey.{LongKey}
use Rattle.prefix_map.specs.Keys.{short_block, long_block}
use Rattle.prefix_map.specs.Kept.{seen}
use Rattle.prefix_map.specs.Mapped.{Mapped}

-- the pairs, inserted in turn: of a key that comes again the last value counts
abbrev pub put_in : {K X : Type 0} → (R : K → K → Ordering) → List (K × X) → FinMap R X
put_in R pairs = fold (λ m e. insert m e.0 e.1) empty pairs

-- the map that has the pairs of both families
abbrev pub built : {V : Type 0} → List (ShortKey × V) → List (LongKey × V) → Mapped V
built short long =
    seen (entries (put_in (λ x y. prefix_order (short_block x) (short_block y)) short))
    (entries (put_in (λ x y. prefix_order (long_block x) (long_block y)) long))
