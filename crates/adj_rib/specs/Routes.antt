-- The routes of a session, as a finite map from prefixes to origins (RFC 4271, section 3.2: Adj-RIB-In).
use Rattle.std.specs.Prelude.{◌≡◌, ℕ, List, Option}
use Rattle.std.specs.Coded.{Coded, coded_ℕ, coded_option}
use Rattle.std.specs.FinMap.{get, entries, keys}
use Rattle.urpf_base.specs.Address.{Block}
use Rattle.prefix_map.specs.Kept.{map_code}
use Rattle.prefix_map.specs.Mapped.{Mapped, entries_after}

-- an origin for each of finitely many prefixes; the origin is an AS or none
abbrev pub Routes : Type 0
Routes = Mapped (Option ℕ)

-- how routes are told apart
abbrev pub routes_code : Coded Routes
routes_code = map_code (coded_option coded_ℕ)

-- the origin that the routes have at a prefix, and none where they do not have the prefix
abbrev pub routes_at : Routes → Block → Option (Option ℕ)
routes_at routes prefix = get routes prefix

-- the pairs of prefix and origin, in the order of the prefixes
abbrev pub pairs_of : Routes → List (Block × Option ℕ)
pairs_of routes = entries routes

-- the prefixes, each once, in their order
abbrev pub prefixes_of : Routes → List Block
prefixes_of routes = keys routes

-- the pairs whose prefix comes after the start, in the order of the prefixes
abbrev pub pairs_after : Option Block → Routes → List (Block × Option ℕ)
pairs_after start routes = entries_after start routes

-- a prefix has this now, or is not there, and each other prefix has what it had
pub record ChangesAt (prefix : Block) (value : Option (Option ℕ)) (old new : Routes) : Type 0 where
  pub here : routes_at new prefix ≡ value
  pub others : (p : Block) → ¬ (p ≡ prefix) → routes_at new p ≡ routes_at old p
