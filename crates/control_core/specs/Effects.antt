-- Which routes the items of a session leave, by their effects (RFC 4271, section 3.2: Adj-RIB-In; RFC 4486, section 4).
use Rattle.std.specs.Prelude.{◌≡◌, ◌⊎◌, ℕ, List, [], ◌∷◌, length, Option, Some, ◌↔◌}
use Rattle.std.specs.List.{AllByRecursion}
use Rattle.urpf_base.specs.Address.{Block}
use Rattle.urpf_base.specs.Lists.{Has, AreDistinct}
use Rattle.urpf_base.specs.RouteUpdates.{IsSilent}
use Rattle.adj_rib.specs.Routes.{Routes, routes_at}
use Rattle.session_fsm.specs.declared.items.Effect.{Effect}
use Rattle.session_fsm.specs.declared.items.Effect.TheVariants.{Nothing, Advanced, Reset, Changes}

-- an item of this effect announces the prefix with this origin
abbrev pub Announces : Effect → Block → Option ℕ → Type 0
Announces Nothing prefix origin = ⊥
Announces Advanced prefix origin = ⊥
Announces (Reset cause) prefix origin = ⊥
Announces (Changes update) prefix origin = Has update.announced prefix × (origin ≡ update.origin)

-- an item of this effect leaves a route to the prefix as it was: it does not mention the prefix, and is no reset
abbrev pub Leaves : Block → Effect → Type 0
Leaves prefix Nothing = Unit {0}
Leaves prefix Advanced = Unit {0}
Leaves prefix (Reset cause) = ⊥
Leaves prefix (Changes update) = IsSilent prefix update

-- some item announces the prefix with this origin, and no later one mentions it or is a reset
abbrev pub Holds : List Effect → Block → Option ℕ → Type 0
Holds [] prefix origin = ⊥
Holds (effect ∷ later) prefix origin =
    Holds later prefix origin ⊎ (Announces effect prefix origin × AllByRecursion (Leaves prefix) later)

-- the effects leave a route to the prefix
abbrev pub Reaches : List Effect → Block → Type 0
Reaches effects prefix = (origin : Option ℕ) × Holds effects prefix origin

-- so many distinct prefixes are held
pub record HoldsSoMany (effects : List Effect) (count : ℕ) : Type 0 where
  pub prefixes : List Block
  pub distinct : AreDistinct prefixes
  pub each : (p : Block) → Has prefixes p ↔ Reaches effects p
  pub counted : count ≡ length prefixes

-- the table has just the routes that the effects leave
abbrev pub HoldsAll : List Effect → Routes → Type 0
HoldsAll effects routes = (p : Block) (origin : Option ℕ) → (routes_at routes p ≡ Some origin) ↔ Holds effects p origin
