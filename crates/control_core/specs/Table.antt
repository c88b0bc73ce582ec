-- A session's table of routes against the UPDATEs of the session (RFC 4271, sections 3.2 and 4.3).
use Rattle.std.specs.Prelude.{◌≡◌, ℕ, List, Option, Some, None, ◌↔◌}
use Rattle.urpf_base.specs.Address.{Block}
use Rattle.urpf_base.specs.Lists.{Has}
use Rattle.urpf_base.specs.RouteUpdates.{RouteUpdate, IsSilent, HasRoute}
use Rattle.adj_rib.specs.Routes.{Routes, routes_at}

-- the table has just the routes that the UPDATEs leave
abbrev pub HoldsRoutes : List RouteUpdate → Routes → Type 0
HoldsRoutes updates routes =
    (p : Block) (origin : Option ℕ) → (routes_at routes p ≡ Some origin) ↔ HasRoute updates p origin

-- what one UPDATE changes: an announced prefix has its origin, another withdrawn one is gone, and each other stays
pub record Applies (update : RouteUpdate) (old new : Routes) : Type 0 where
  pub announced : (p : Block) → Has update.announced p → routes_at new p ≡ Some update.origin
  pub withdrawn : (p : Block) → Has update.withdrawn p → (Has update.announced p → ⊥) → routes_at new p ≡ None
  pub others : (p : Block) → IsSilent p update → routes_at new p ≡ routes_at old p

-- what an item changes: nothing, or what its UPDATE does
abbrev pub Follows : Option RouteUpdate → Routes → Routes → Type 0
Follows None old new = new ≡ old
Follows (Some update) old new = Applies update old new
