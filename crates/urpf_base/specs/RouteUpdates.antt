-- What UPDATE messages leave in an Adj-RIB-In (RFC 4271, sections 3.2, 4.3 and 9.1.4), by last mention.
use Rattle.std.specs.Prelude.{◌≡◌, ◌⊎◌, ℕ, List, [], ◌∷◌, Option}
use Rattle.std.specs.List.{AllByRecursion}
use Rattle.urpf_base.specs.Address.{Block}
use Rattle.urpf_base.specs.Lists.{Has}

-- what one UPDATE does: it withdraws prefixes, and then announces prefixes, all with one origin
pub record RouteUpdate : Type 0 where
  pub withdrawn : List Block
  pub announced : List Block
  pub origin : Option ℕ

-- the UPDATE says nothing of the prefix
abbrev pub IsSilent : Block → RouteUpdate → Type 0
IsSilent prefix update = (Has update.withdrawn prefix → ⊥) × (Has update.announced prefix → ⊥)

-- some UPDATE announces the prefix with this origin, and no later one mentions it
abbrev pub HasRoute : List RouteUpdate → Block → Option ℕ → Type 0
HasRoute [] prefix origin = ⊥
HasRoute (u ∷ later) prefix origin =
    HasRoute later prefix origin
    ⊎ (Has u.announced prefix × (origin ≡ u.origin) × AllByRecursion (IsSilent prefix) later)
