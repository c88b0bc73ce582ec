-- Finite maps from prefixes to values, in the order of prefixes.
use Rattle.std.specs.Prelude.{List, Option}
use Rattle.std.specs.List.{filter}
use Rattle.std.specs.FinMap.{FinMap, entries}
use Rattle.urpf_base.specs.Address.{Block}
use Rattle.urpf_base.specs.Order.{prefix_order}
use Rattle.prefix_map.specs.Order.{is_after}

-- a value for each of finitely many prefixes
abbrev pub Mapped : Type 0 → Type 0
Mapped V = FinMap prefix_order V

-- the pairs whose prefix comes after the start, in the order of the prefixes
abbrev pub entries_after : {V : Type 0} → Option Block → Mapped V → List (Block × V)
entries_after start map = filter (λ e. is_after start e.0) (entries map)
