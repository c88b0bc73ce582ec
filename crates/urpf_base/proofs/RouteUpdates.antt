-- Laws on what is left after one more UPDATE.
use Rattle.std.proofs.Common.{◌≡◌, ◌⊎◌, ℕ, List, [], ◌∷◌, ◌++◌, Option, inl, inr, refl}
use Rattle.std.specs.List.{AllByRecursion}
use Rattle.urpf_base.specs.Address.{Block}
use Rattle.urpf_base.specs.Lists.{Has}
use Rattle.urpf_base.specs.RouteUpdates.{RouteUpdate, IsSilent, HasRoute}

silent-push : (p : Block) (us : List RouteUpdate) (u : RouteUpdate) → AllByRecursion (IsSilent p) us → IsSilent p u
    → AllByRecursion (IsSilent p) (us ++ u ∷ [])
silent-push p [] u all last = (last, tt)
silent-push p (w ∷ ws) u all last = (all.0, silent-push p ws u all.1 last)

silent-front : (p : Block) (us : List RouteUpdate) (u : RouteUpdate) → AllByRecursion (IsSilent p) (us ++ u ∷ [])
    → AllByRecursion (IsSilent p) us × IsSilent p u
silent-front p [] u all = (tt, all.0)
silent-front p (w ∷ ws) u all =
    let parts = silent-front p ws u all.1 in
    ((all.0, parts.0), parts.1)

-- the last UPDATE announces the prefix, or is silent on it and those before it left the route
pub HasRoute-push : (us : List RouteUpdate) (u : RouteUpdate) (p : Block) (o : Option ℕ) → HasRoute (us ++ u ∷ []) p o
    → (Has u.announced p × (o ≡ u.origin)) ⊎ (IsSilent p u × HasRoute us p o)
HasRoute-push [] u p o (inl never) = absurd never
HasRoute-push [] u p o (inr last) = inl (last.0, last.1)
HasRoute-push (w ∷ ws) u p o (inl later) =
    elim (HasRoute-push ws u p o later) [ inl last ↦ inl last | inr kept ↦ inr (kept.0, inl kept.1) ]
HasRoute-push (w ∷ ws) u p o (inr first) =
    let parts = silent-front p ws u first.2 in
    inr (parts.1, inr (first.0, first.1, parts.0))

-- what the last UPDATE announces is a route
pub HasRoute-announced : (us : List RouteUpdate) (u : RouteUpdate) (p : Block) → Has u.announced p
    → HasRoute (us ++ u ∷ []) p u.origin
HasRoute-announced [] u p has = inr (has, refl, tt)
HasRoute-announced (w ∷ ws) u p has = inl (HasRoute-announced ws u p has)

-- a route stays where the last UPDATE is silent on its prefix
pub HasRoute-kept : (us : List RouteUpdate) (u : RouteUpdate) (p : Block) (o : Option ℕ) → IsSilent p u
    → HasRoute us p o → HasRoute (us ++ u ∷ []) p o
HasRoute-kept [] u p o silent never = absurd never
HasRoute-kept (w ∷ ws) u p o silent (inl later) = inl (HasRoute-kept ws u p o silent later)
HasRoute-kept (w ∷ ws) u p o silent (inr first) = inr (first.0, first.1, silent-push p ws u first.2 silent)
