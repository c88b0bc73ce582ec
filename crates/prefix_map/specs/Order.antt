-- Walks over prefixes in their order.
use Rattle.std.specs.Prelude.{List, [], ◌∷◌, Option, Some, None, Bool, true}
use Rattle.std.specs.Ordering.{is_lt}
use Rattle.urpf_base.specs.Address.{Block}
use Rattle.urpf_base.specs.Lists.{Has}
use Rattle.urpf_base.specs.Order.{IsBefore, prefix_order}

-- each prefix of the list comes before all that stand behind it
abbrev pub IsAscending : List Block → Type 0
IsAscending [] = Unit {0}
IsAscending (p ∷ ps) = ((q : Block) → Has ps q → IsBefore p q) × IsAscending ps

-- whether a prefix comes after the start, or anywhere where no start is given
abbrev pub is_after : Option Block → Block → Bool
is_after None p = true
is_after (Some start) p = is_lt (prefix_order start p)
