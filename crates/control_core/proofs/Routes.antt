-- A table of routes after one more UPDATE.
use Rattle.std.proofs.Common.{◌≡◌, ℕ, List, [], ◌∷◌, ◌++◌, Option, Some, inl, inr, sym, ap, subst, ◌∙◌, unwrap_or}
use Rattle.urpf_base.specs.Address.{Block}
use Rattle.urpf_base.specs.RouteUpdates.{RouteUpdate, HasRoute}
use Rattle.urpf_base.proofs.RouteUpdates.{HasRoute-push, HasRoute-announced, HasRoute-kept}
use Rattle.urpf_base.proofs.Membership.{has_or_not}
use Rattle.adj_rib.specs.Routes.{Routes, routes_at}
use Rattle.control_core.specs.Table.{Applies, HoldsRoutes}

some_origin : (a b : Option ℕ) → Some a ≡ Some b → a ≡ b
some_origin a b e = ap (λ o. unwrap_or o a) e

route_is_left : (updates : List RouteUpdate) (u : RouteUpdate) (old new : Routes) → HoldsRoutes updates old
    → Applies u old new → (p : Block) (origin : Option ℕ) → routes_at new p ≡ Some origin
    → HasRoute (updates ++ u ∷ []) p origin
route_is_left updates u old new holds applies p origin there =
    elim (has_or_not u.announced p) [
      | inl has ↦
          let same : u.origin ≡ origin = some_origin u.origin origin (sym (applies.announced p has) ∙ there) in
          subst (λ (o : Option ℕ). HasRoute (updates ++ u ∷ []) p o) same (HasRoute-announced updates u p has)
      | inr never ↦ elim (has_or_not u.withdrawn p) [
        | inl gone ↦ let e = applies.withdrawn p gone never in cc
        | inr silent ↦ HasRoute-kept updates u p origin (silent, never)
            ((holds p origin).0 (sym (applies.others p (silent, never)) ∙ there))
      ]
    ]

left_is_there : (updates : List RouteUpdate) (u : RouteUpdate) (old new : Routes) → HoldsRoutes updates old
    → Applies u old new → (p : Block) (origin : Option ℕ) → HasRoute (updates ++ u ∷ []) p origin
    → routes_at new p ≡ Some origin
left_is_there updates u old new holds applies p origin route =
    elim (HasRoute-push updates u p origin route) [
      | inl last ↦ applies.announced p last.0 ∙ ap (λ o. Some o) (sym last.1)
      | inr kept ↦ applies.others p kept.0 ∙ (holds p origin).1 kept.1
    ]

pub holds_one_more : (updates : List RouteUpdate) (u : RouteUpdate) (old new : Routes) → HoldsRoutes updates old
    → Applies u old new → HoldsRoutes (updates ++ u ∷ []) new
holds_one_more updates u old new holds applies p origin =
    (route_is_left updates u old new holds applies p origin, left_is_there updates u old new holds applies p origin)
