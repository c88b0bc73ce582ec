-- How an engine keeps its rows: each row once, with how often it is there beyond once.
use Rattle.std.specs.Prelude.{◌≡◌, Bool, ℕ, zero, suc, List, [], ◌∷◌, ◌++◌, map, Option, Some, None, ◌+◌}
use Rattle.std.specs.Coded.{Coded, code_by, coded×, coded_bool, coded_list, coded_option, coded_ℕ}
use Rattle.std.proofs.Common.{refl}
use Rattle.urpf_base.specs.Address.{Block}
use Rattle.urpf_base.specs.declared.cells.Cell.{Cell}
use Rattle.urpf_base.specs.declared.kinds.Role.{Role}
use Rattle.urpf_base.specs.declared.kinds.Role.TheVariants.{Customer, Peer, Provider}
use Rattle.prefix_map.specs.Kept.{block_code, map_code}
use Rattle.prefix_map.specs.Mapped.{Mapped}
use Rattle.rpf_plain.specs.Engine.{EngineState}
use Rattle.rpf_plain.specs.World.{World}
use Rattle.rpf_plain.specs.declared.rows.Row.{Row}

-- the row once, and so often again
abbrev pub again : ℕ → Row → List Row
again zero row = row ∷ []
again (suc n) row = row ∷ again n row

-- how often a row stands that is there so often beyond once, or is not there
abbrev pub how_often : Option ℕ → ℕ
how_often None = 0
how_often (Some n) = n + 1

-- the rows with their repeats
abbrev pub all_rows : List (Row × ℕ) → List Row
all_rows [] = []
all_rows (e ∷ es) = again e.1 e.0 ++ all_rows es

-- the rows, each once
abbrev pub each_row : List (Row × ℕ) → List Row
each_row es = map (λ e. e.0) es

-- how rows are told apart
abbrev pub row_code : Coded Row
row_code =
    code_by (Block × (ℕ × Option ℕ)) (coded× block_code (coded× coded_ℕ (coded_option coded_ℕ)))
    (λ r. (r.prefix, (r.iface, r.origin))) (λ p. record { prefix = p.0; iface = p.1.0; origin = p.1.1 }) (λ _. refl)

-- a role as a number, and the role of a number
abbrev pub role_number : Role → ℕ
role_number Customer = 0
role_number Peer = 1
role_number Provider = 2

abbrev pub role_from : ℕ → Role
role_from zero = Customer
role_from (suc zero) = Peer
role_from (suc (suc n)) = Provider

-- a role is told from its number
pub role_from-role_number : (role : Role) → role_from (role_number role) ≡ role
role_from-role_number Customer = refl
role_from-role_number Peer = refl
role_from-role_number Provider = refl

-- how roles are told apart
abbrev pub role_code : Coded Role
role_code = code_by ℕ coded_ℕ role_number role_from role_from-role_number

-- how worlds are told apart
abbrev pub world_code : Coded World
world_code =
    code_by (List Row × (List (ℕ × Role) × List (Block × ℕ)))
    (coded× (coded_list row_code)
    (coded× (coded_list (coded× coded_ℕ role_code)) (coded_list (coded× block_code coded_ℕ))))
    (λ w. (w.rows, (w.roles, w.pairs))) (λ p. record { rows = p.0; roles = p.1.0; pairs = p.1.1 }) (λ _. refl)

-- how cells are told apart
abbrev pub cell_code : Coded Cell
cell_code =
    code_by (ℕ × (ℕ × Bool)) (coded× coded_ℕ (coded× coded_ℕ coded_bool)) (λ c. (c.f, (c.a, c.z)))
    (λ p. record { f = p.0; a = p.1.0; z = p.1.1 }) (λ _. refl)

-- how states of an engine are told apart
abbrev pub engine_code : Coded EngineState
engine_code =
    code_by (World × Mapped Cell) (coded× world_code (map_code cell_code)) (λ e. (e.world, e.base))
    (λ p. record { world = p.0; base = p.1 }) (λ _. refl)
