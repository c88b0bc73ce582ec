-- Two lists of pairs side by side, by their prefixes. Our own choice.
use Rattle.std.specs.Prelude.{List, [], ◌∷◌, ◌++◌, map, Option, Some, None}
use Rattle.std.specs.Ordering.{is_gt, is_lt}
use Rattle.std.specs.List.{filter}
use Rattle.std.specs.FinMap.{find}
use Rattle.urpf_base.specs.Address.{Block}
use Rattle.urpf_base.specs.Order.{prefix_order}

-- what two sides have at one prefix, and none where neither has it
abbrev pub either : {V W : Type 0} → Option V → Option W → Option (Option V × Option W)
either None None = None
either None (Some w) = Some (None, Some w)
either (Some v) w = Some (Some v, w)

-- the pairs of the right side alone
abbrev pub right_alone : {V W : Type 0} → List (Block × W) → List (Block × (Option V × Option W))
right_alone ys = map (λ y. (y.0, (None, Some y.1))) ys

-- the prefixes of either list in their order, each with what the one and what the other has there
abbrev pub beside : {V W : Type 0} → List (Block × V) → List (Block × W) → List (Block × (Option V × Option W))
beside [] ys = right_alone ys
beside (x ∷ xs) ys =
    right_alone (filter (λ y. is_gt (prefix_order x.0 y.0)) ys)
    ++ (x.0, (Some x.1, find prefix_order x.0 ys)) ∷ beside xs (filter (λ y. is_lt (prefix_order x.0 y.0)) ys)

-- a pair that was taken, and those behind it; where none was taken, none are left
abbrev pub led_by : {X : Type 0} → Option X → List X → List X
led_by None later = []
led_by (Some x) later = x ∷ later
