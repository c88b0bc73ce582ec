-- What contracts see of an engine of the sets, and what its calls change.
use Rattle.std.specs.Prelude.{◌≡◌, ℕ, [], ◌∷◌}
use Rattle.std.specs.FinMap.{empty}
use Rattle.urpf_base.specs.declared.cells.Cell.{Cell}
use Rattle.urpf_base.specs.declared.kinds.Role.{Role}
use Rattle.prefix_map.specs.Mapped.{Mapped}
use Rattle.origin_pairs.specs.Pairs.{HasOneMore, Pair}
use Rattle.rpf_plain.specs.Cells.{IsTable}
use Rattle.rpf_plain.specs.Rows.{AreSameRows}
use Rattle.rpf_plain.specs.World.{Roles, World, with_role}
use Rattle.rpf_plain.specs.declared.rows.Row.{Row}

-- what the sets are made of now, and the table of the cells at the last drain
pub record EngineState : Type 0 where
  pub world : World
  pub base : Mapped Cell

-- an engine of these interfaces that has no rows and no pairs, and whose table is empty
abbrev pub new_engine : Roles → EngineState
new_engine roles = record { world = record { rows = []; roles = roles; pairs = [] }; base = empty }

-- the new rows are the old ones and this one, in some order, and all else is as it was
pub record AddsRow (row : Row) (old new : EngineState) : Type 0 where
  pub rows : AreSameRows new.world.rows (row ∷ old.world.rows)
  pub roles : new.world.roles ≡ old.world.roles
  pub pairs : new.world.pairs ≡ old.world.pairs
  pub base : new.base ≡ old.base

-- the old rows are the new ones and this one, in some order, and all else is as it was
abbrev pub RemovesRow : Row → EngineState → EngineState → Type 0
RemovesRow row old new = AddsRow row new old

-- the interface has this role, and all else is as it was
pub record SetsRole (iface : ℕ) (role : Role) (old new : EngineState) : Type 0 where
  pub rows : new.world.rows ≡ old.world.rows
  pub roles : new.world.roles ≡ with_role iface role old.world.roles
  pub pairs : new.world.pairs ≡ old.world.pairs
  pub base : new.base ≡ old.base

-- the new pairs are the old ones and this one, which was not there, and all else is as it was
pub record AddsPair (pair : Pair) (old new : EngineState) : Type 0 where
  pub rows : new.world.rows ≡ old.world.rows
  pub roles : new.world.roles ≡ old.world.roles
  pub pairs : HasOneMore pair old.world.pairs new.world.pairs
  pub base : new.base ≡ old.base

-- the old pairs are the new ones and this one, which is there no more, and all else is as it was
abbrev pub RemovesPair : Pair → EngineState → EngineState → Type 0
RemovesPair pair old new = AddsPair pair new old

-- the table has the cells of now, and the world is as it was
pub record IsDrained (old new : EngineState) : Type 0 where
  pub world : new.world ≡ old.world
  pub base : IsTable new.world new.base
