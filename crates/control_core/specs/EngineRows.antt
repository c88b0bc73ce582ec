-- The rows of an engine beside the routes of the sessions: a row for each route. Our own choice.
use Rattle.std.specs.Prelude.{◌≡◌, ℕ, ◌+◌, ◌≤◌, Bool, Option, Some, None, List, [], ◌∷◌, ◌++◌, map, refl}
use Rattle.std.specs.Coded.{Coded, code_by, coded×, coded_ℕ, coded_bool}
use Rattle.urpf_base.specs.Address.{Block}
use Rattle.urpf_base.specs.declared.cells.Cell.{Cell}
use Rattle.urpf_base.specs.Lists.{AreDistinct, Has}
use Rattle.adj_rib.specs.Routes.{Routes, pairs_of, routes_at}
use Rattle.prefix_map.specs.Kept.{map_code}
use Rattle.prefix_map.specs.Mapped.{Mapped}
use Rattle.rpf_plain.specs.Engine.{EngineState}
use Rattle.rpf_plain.specs.Rows.{repeats, row_of}
use Rattle.rpf_plain.specs.World.{IsConfigured}
use Rattle.rpf_plain.specs.declared.rows.Row.{Row}

-- the rows of routes that came in on this interface: one for each route
abbrev pub rows_of : ℕ → List (Block × Option ℕ) → List Row
rows_of iface pairs = map (λ pair. row_of iface pair.0 pair.1) pairs

-- the rows of a session on this interface
abbrev pub session_rows : ℕ → Routes → List Row
session_rows iface routes = rows_of iface (pairs_of routes)

-- these rows are among those of the engine, as often
abbrev pub HasRows : List Row → EngineState → Type 0
HasRows rows engine = (row : Row) → repeats rows row ≤ repeats engine.world.rows row

-- the rows of the session are among those of the engine
abbrev pub HasRowsOf : ℕ → Routes → EngineState → Type 0
HasRowsOf iface routes engine = HasRows (session_rows iface routes) engine

-- the interface of the session is configured, and the engine has the rows of its routes
pub record HasSession (iface : ℕ) (routes : Routes) (engine : EngineState) : Type 0 where
  pub configured : IsConfigured engine.world.roles iface
  pub held : HasRowsOf iface routes engine

-- all of the engine but its rows is as it was
pub record KeepsSets (old new : EngineState) : Type 0 where
  pub roles : new.world.roles ≡ old.world.roles
  pub pairs : new.world.pairs ≡ old.world.pairs
  pub base : new.base ≡ old.base

-- these rows are taken away from the engine
pub record TakesRows (rows : List Row) (old new : EngineState) : Type 0 where
  pub taken : (row : Row) → repeats new.world.rows row + repeats rows row ≡ repeats old.world.rows row
  pub others : KeepsSets old new

-- the rows of the engine change as the routes of a session do
pub record RowsFollow (iface : ℕ) (before after : Routes) (old new : EngineState) : Type 0 where
  pub rows : (row : Row) → repeats new.world.rows row + repeats (session_rows iface before) row
      ≡ repeats old.world.rows row + repeats (session_rows iface after) row
  pub others : KeepsSets old new

-- how tables of cells are told apart
abbrev pub cell_code : Coded Cell
cell_code =
    code_by (ℕ × (ℕ × Bool)) (coded× coded_ℕ (coded× coded_ℕ coded_bool)) (λ c. (c.f, (c.a, c.z)))
    (λ t. record { f = t.0; a = t.1.0; z = t.1.1 }) (λ _. refl)

abbrev pub cells_code : Coded (Mapped Cell)
cells_code = map_code cell_code

-- the row of a route where there is one, and none where there is none
abbrev pub rows_at : ℕ → Block → Option (Option ℕ) → List Row
rows_at iface prefix None = []
rows_at iface prefix (Some origin) = row_of iface prefix origin ∷ []

-- prefixes whose routes an UPDATE changed, each with the origin that it had before, where it was there
abbrev pub Log : Type 0
Log = List (Block × Option (Option ℕ))

abbrev pub logged : Log → List Block
logged log = map (λ change. change.0) log

-- the rows of the routes that were replaced
abbrev pub replaced_rows : ℕ → Log → List Row
replaced_rows iface [] = []
replaced_rows iface (change ∷ log) = rows_at iface change.0 change.1 ++ replaced_rows iface log

-- the rows of the engine change as the routes of a session do, and there are some rows more, which are still to be
-- taken away
pub record RowsAhead (iface : ℕ) (before after : Routes) (more : List Row) (old new : EngineState) : Type 0 where
  pub rows : (row : Row) → repeats new.world.rows row + repeats (session_rows iface before) row
      ≡ repeats old.world.rows row + repeats (session_rows iface after) row + repeats more row
  pub others : KeepsSets old new

-- the prefixes of the log have this origin now, each had before what the log says, and nothing else was changed; the
-- rows of the routes that were replaced are still there
pub record IsLogged (iface : ℕ) (origin : Option ℕ) (log : Log) (before after : Routes)
    (old new : EngineState) : Type 0 where
  pub had : (p : Block) (o : Option (Option ℕ)) → Has log (p, o) → routes_at before p ≡ o
  pub has : (p : Block) → Has (logged log) p → routes_at after p ≡ Some origin
  pub others : (p : Block) → (Has (logged log) p → ⊥) → routes_at after p ≡ routes_at before p
  pub distinct : AreDistinct (logged log)
  pub ahead : RowsAhead iface before after (replaced_rows iface log) old new

-- what the log says can be taken back: it began where the engine had the rows of the routes
pub record IsOpenLog (iface : ℕ) (origin : Option ℕ) (log : Log) (now : Routes) (engine : EngineState) : Type 0 where
  pub before : Routes
  pub begun : EngineState
  pub logged_since : IsLogged iface origin log before now begun engine
  pub held : HasRowsOf iface before begun
