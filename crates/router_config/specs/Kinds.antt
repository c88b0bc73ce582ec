-- The interfaces of a router, as the list of their numbers and kinds. Our own choice.
use Rattle.std.specs.Prelude.{ℕ, ◌<◌, ◌==◌, List, [], ◌∷◌, map, Option, option_map, find}
use Rattle.std.specs.List.{AllByRecursion}
use Rattle.urpf_base.specs.declared.kinds.Kind.{Kind}

-- an interface, by its number, and its kind
abbrev pub Row : Type 0
Row = ℕ × Kind

-- each number is below those behind it
abbrev pub AreIncreasing : List ℕ → Type 0
AreIncreasing [] = Unit {0}
AreIncreasing (number ∷ more) = AllByRecursion (λ other. number < other) more × AreIncreasing more

abbrev pub IsAscending : List Row → Type 0
IsAscending rows = AreIncreasing (map (λ row. row.0) rows)

-- the numbers of all interfaces are below this one
abbrev pub AllBelow : List Row → ℕ → Type 0
AllBelow rows number = AllByRecursion (λ other. other < number) (map (λ row. row.0) rows)

-- the kind of the interface with this number; none where it is not in the list
abbrev pub kind_in : List Row → ℕ → Option Kind
kind_in rows number = option_map (λ row. row.1) (find (λ row. row.0 == number) rows)

-- the interface with this number; none where it is not in the list
abbrev pub iface_in : List Row → ℕ → Option ℕ
iface_in rows number = option_map (λ row. row.0) (find (λ row. row.0 == number) rows)
