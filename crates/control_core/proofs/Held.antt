-- What the effects of a session leave after one more, and a table of routes beside them.
use Rattle.std.proofs.Common.{◌≡◌, ◌⊎◌, ℕ, List, [], ◌∷◌, ◌++◌, length, Option, Some, None, inl, inr, refl, sym, ap}
use Rattle.std.proofs.Common.{subst, ◌∙◌, unwrap_or}
use Rattle.std.specs.Prelude.{IsSome}
use Rattle.std.specs.List.{AllByRecursion}
use Rattle.urpf_base.specs.Address.{Block}
use Rattle.urpf_base.specs.RouteUpdates.{RouteUpdate}
use Rattle.urpf_base.specs.declared.sessions.ResetCause.{ResetCause}
use Rattle.urpf_base.proofs.Membership.{has_or_not}
use Rattle.adj_rib.specs.Routes.{Routes, routes_at, prefixes_of}
use Rattle.adj_rib.proofs.Routes.{is_distinct, has_held}
use Rattle.session_fsm.specs.declared.items.Effect.{Effect}
use Rattle.session_fsm.specs.declared.items.Effect.TheVariants.{Nothing, Advanced, Reset, Changes}
use Rattle.control_core.specs.Effects.{Announces, Leaves, Holds, Reaches, HoldsSoMany, HoldsAll}
use Rattle.control_core.specs.Table.{Applies}

left-push : (p : Block) (es : List Effect) (e : Effect) → AllByRecursion (Leaves p) es → Leaves p e
    → AllByRecursion (Leaves p) (es ++ e ∷ [])
left-push p [] e all last = (last, tt)
left-push p (f ∷ fs) e all last = (all.0, left-push p fs e all.1 last)

left-front : (p : Block) (es : List Effect) (e : Effect) → AllByRecursion (Leaves p) (es ++ e ∷ [])
    → AllByRecursion (Leaves p) es × Leaves p e
left-front p [] e all = (tt, all.0)
left-front p (f ∷ fs) e all =
    let parts = left-front p fs e all.1 in
    ((all.0, parts.0), parts.1)

-- the last effect announces the prefix, or leaves the route of those before it
pub Holds-push : (es : List Effect) (e : Effect) (p : Block) (o : Option ℕ) → Holds (es ++ e ∷ []) p o
    → Announces e p o ⊎ (Leaves p e × Holds es p o)
Holds-push [] e p o (inl never) = absurd never
Holds-push [] e p o (inr last) = inl last.0
Holds-push (f ∷ fs) e p o (inl later) =
    elim (Holds-push fs e p o later) [ inl last ↦ inl last | inr kept ↦ inr (kept.0, inl kept.1) ]
Holds-push (f ∷ fs) e p o (inr first) =
    let parts = left-front p fs e first.1 in
    inr (parts.1, inr (first.0, parts.0))

-- what the last effect announces is held
pub Holds-announced : (es : List Effect) (e : Effect) (p : Block) (o : Option ℕ) → Announces e p o
    → Holds (es ++ e ∷ []) p o
Holds-announced [] e p o has = inr (has, tt)
Holds-announced (f ∷ fs) e p o has = inl (Holds-announced fs e p o has)

-- a route stays where the last effect leaves it
pub Holds-kept : (es : List Effect) (e : Effect) (p : Block) (o : Option ℕ) → Leaves p e → Holds es p o
    → Holds (es ++ e ∷ []) p o
Holds-kept [] e p o leaves never = absurd never
Holds-kept (f ∷ fs) e p o leaves (inl later) = inl (Holds-kept fs e p o leaves later)
Holds-kept (f ∷ fs) e p o leaves (inr first) = inr (first.0, left-push p fs e first.1 leaves)

-- no item leaves no route
pub holds_none : (routes : Routes) → ((p : Block) → routes_at routes p ≡ None) → HoldsAll [] routes
holds_none routes none p o =
    (λ there. let e = none p in let clash : None ≡ Some o = sym e ∙ there in cc, λ never. absurd never)

-- an item that does nothing leaves the routes as they were
pub holds_after_nothing : (es : List Effect) (routes : Routes) → HoldsAll es routes
    → HoldsAll (es ++ Nothing ∷ []) routes
holds_after_nothing es routes holds p o = (
  λ there. Holds-kept es Nothing p o tt ((holds p o).0 there),
  λ route. elim (Holds-push es Nothing p o route) [ inl never ↦ absurd never | inr kept ↦ (holds p o).1 kept.1 ],
)

pub holds_after_advance : (es : List Effect) (routes : Routes) → HoldsAll es routes
    → HoldsAll (es ++ Advanced ∷ []) routes
holds_after_advance es routes holds p o = (
  λ there. Holds-kept es Advanced p o tt ((holds p o).0 there),
  λ route. elim (Holds-push es Advanced p o route) [ inl never ↦ absurd never | inr kept ↦ (holds p o).1 kept.1 ],
)

-- a reset leaves none
pub holds_after_reset : (es : List Effect) (cause : ResetCause) (routes : Routes)
    → ((p : Block) → routes_at routes p ≡ None) → HoldsAll (es ++ Reset cause ∷ []) routes
holds_after_reset es cause routes none p o = (
  λ there. let clash : None ≡ Some o = sym (none p) ∙ there in cc,
  λ route. elim (Holds-push es (Reset cause) p o route) [ inl never ↦ absurd never | inr kept ↦ absurd kept.0 ],
)

some_origin : (a b : Option ℕ) → Some a ≡ Some b → a ≡ b
some_origin a b e = ap (λ o. unwrap_or o a) e

route_is_left : (es : List Effect) (u : RouteUpdate) (old new : Routes) → HoldsAll es old → Applies u old new
    → (p : Block) (o : Option ℕ) → routes_at new p ≡ Some o → Holds (es ++ Changes u ∷ []) p o
route_is_left es u old new holds applies p o there =
    elim (has_or_not u.announced p) [
      | inl has ↦
          let same : u.origin ≡ o = some_origin u.origin o (sym (applies.announced p has) ∙ there) in
          Holds-announced es (Changes u) p o (has, sym same)
      | inr never ↦ elim (has_or_not u.withdrawn p) [
        | inl gone ↦ let e = applies.withdrawn p gone never in let clash : None ≡ Some o = sym e ∙ there in cc
        | inr silent ↦ Holds-kept es (Changes u) p o (silent, never)
            ((holds p o).0 (sym (applies.others p (silent, never)) ∙ there))
      ]
    ]

left_is_there : (es : List Effect) (u : RouteUpdate) (old new : Routes) → HoldsAll es old → Applies u old new
    → (p : Block) (o : Option ℕ) → Holds (es ++ Changes u ∷ []) p o → routes_at new p ≡ Some o
left_is_there es u old new holds applies p o route =
    elim (Holds-push es (Changes u) p o route) [
      | inl last ↦ applies.announced p last.0 ∙ ap (λ x. Some x) (sym last.1)
      | inr kept ↦ applies.others p kept.0 ∙ (holds p o).1 kept.1
    ]

-- an UPDATE changes what it mentions
pub holds_after_update : (es : List Effect) (u : RouteUpdate) (old new : Routes) → HoldsAll es old → Applies u old new
    → HoldsAll (es ++ Changes u ∷ []) new
holds_after_update es u old new holds applies p o =
    (route_is_left es u old new holds applies p o, left_is_there es u old new holds applies p o)

reached : (es : List Effect) (routes : Routes) (p : Block) → HoldsAll es routes → (v : Option (Option ℕ))
    → routes_at routes p ≡ v → IsSome v → Reaches es p
reached es routes p holds None is some = let clash = some in cc
reached es routes p holds (Some o) is some = (o, (holds p o).0 is)

is_held : (es : List Effect) (routes : Routes) → HoldsAll es routes → (p : Block) → Reaches es p
    → IsSome (routes_at routes p)
is_held es routes holds p r = subst IsSome (sym ((holds p r.0).1 r.1)) refl

-- the table has as many prefixes as are held
pub holds_so_many : (es : List Effect) (routes : Routes) → HoldsAll es routes
    → HoldsSoMany es (length (prefixes_of routes))
holds_so_many es routes holds = record {
  prefixes = prefixes_of routes;
  distinct = is_distinct routes;
  each = λ p. (
    λ has. reached es routes p holds (routes_at routes p) refl ((has_held routes p).0 has),
    λ r. (has_held routes p).1 (is_held es routes holds p r),
  );
  counted = refl;
}
