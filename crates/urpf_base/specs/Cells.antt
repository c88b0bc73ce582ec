-- Lists of cells, each for one prefix. Our own choice.
use Rattle.std.specs.Prelude.{List, [], ◌∷◌}
use Rattle.urpf_base.specs.Address.{Block}
use Rattle.urpf_base.specs.Order.{IsBefore}
use Rattle.urpf_base.specs.declared.cells.CellChange.{CellChange}

-- every prefix of the list comes before this one
abbrev pub AllBefore : List CellChange → Block → Type 0
AllBefore [] prefix = Unit {0}
AllBefore (change ∷ changes) prefix = IsBefore change.prefix prefix × AllBefore changes prefix

-- every prefix of the list comes behind this one
abbrev pub AllAfter : Block → List CellChange → Type 0
AllAfter prefix [] = Unit {0}
AllAfter prefix (change ∷ changes) = IsBefore prefix change.prefix × AllAfter prefix changes

-- the prefixes ascend, so none stands twice
abbrev pub AreAscending : List CellChange → Type 0
AreAscending [] = Unit {0}
AreAscending (change ∷ changes) = AllAfter change.prefix changes × AreAscending changes
