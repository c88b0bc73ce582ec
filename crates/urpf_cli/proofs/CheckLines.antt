-- The line of a check out of a table of routes.
use Rattle.std.proofs.Common.{◌≡◌, ◌<◌, ℕ, ◌+◌, List, [], ◌∷◌, ◌++◌, length, take, get_or, Bool}
use Rattle.std.proofs.Common.{Option, Some, None, ap, sym, ◌∙◌, refl}
use Rattle.std.proofs.lemmas.List.{take_more}
use Rattle.std.specs.Prelude.{◌↔◌, IsSome}
use Rattle.urpf_base.specs.declared.address.Addr.{Addr}
use Rattle.urpf_base.specs.Address.{Block}
use Rattle.urpf_base.specs.Lists.{Has}
use Rattle.urpf_base.specs.RouteUpdates.{RouteUpdate, HasRoute}
use Rattle.adj_rib.specs.Routes.{Routes, routes_at, prefixes_of}
use Rattle.adj_rib.proofs.Routes.{has_held}
use Rattle.control_core.specs.Table.{Follows, HoldsRoutes}
use Rattle.control_core.proofs.Routes.{holds_one_more}
use Rattle.report_text.specs.Lines.{check_one_line}
use Rattle.urpf_cli.specs.Session.{updates_of}

some_value : (o : Option (Option ℕ)) → IsSome o → (v : Option ℕ) × (o ≡ Some v)
some_value None is = cc
some_value (Some v) is = (v, refl)

is_some_from : (o : Option (Option ℕ)) (v : Option ℕ) → o ≡ Some v → IsSome o
is_some_from None v is = cc
is_some_from (Some w) v is = refl

-- the prefixes of the table are those that the UPDATEs leave
pub has_left : (said : List (Option RouteUpdate)) (routes : Routes) → HoldsRoutes (updates_of said) routes → (p : Block)
    → Has (prefixes_of routes) p ↔ ((origin : Option ℕ) × HasRoute (updates_of said) p origin)
has_left said routes held p = (
  λ has. let found = some_value (routes_at routes p) ((has_held routes p).0 has) in
      (found.0, (held p found.0).0 found.1),
  λ left. (has_held routes p).1 (is_some_from (routes_at routes p) left.0 ((held p left.0).1 left.1)),
)

-- equal numbers make an equal line
pub line_of : (source : Addr) (passes : Bool) (messages m prefixes p rest r : ℕ) (line : List ℕ) → messages ≡ m
    → prefixes ≡ p → rest ≡ r → line ≡ check_one_line source passes messages prefixes rest
    → line ≡ check_one_line source passes m p r
line_of source passes messages m prefixes p rest r line is_m is_p is_r is =
    is ∙ ap (λ n. check_one_line source passes n prefixes rest) is_m
    ∙ ap (λ n. check_one_line source passes m n rest) is_p
    ∙ ap (λ n. check_one_line source passes m p n) is_r

-- the UPDATEs of one item more
updates_of-keepalive : (ss : List (Option RouteUpdate)) → updates_of (ss ++ None ∷ []) ≡ updates_of ss
updates_of-keepalive [] = refl
updates_of-keepalive (None ∷ ss) = updates_of-keepalive ss
updates_of-keepalive (Some u ∷ ss) = ap (λ us. u ∷ us) (updates_of-keepalive ss)

updates_of-update : (ss : List (Option RouteUpdate)) (u : RouteUpdate)
    → updates_of (ss ++ Some u ∷ []) ≡ updates_of ss ++ u ∷ []
updates_of-update [] u = refl
updates_of-update (None ∷ ss) u = updates_of-update ss u
updates_of-update (Some v ∷ ss) u = ap (λ us. v ∷ us) (updates_of-update ss u)

-- a table after one item more
pub held_next : (ss : List (Option RouteUpdate)) (s : Option RouteUpdate) (old new : Routes)
    → HoldsRoutes (updates_of ss) old → Follows s old new → HoldsRoutes (updates_of (ss ++ s ∷ [])) new
held_next ss None old new held follows = rw (updates_of-keepalive ss, follows) held
held_next ss (Some u) old new held follows =
    rw (updates_of-update ss u) (holds_one_more (updates_of ss) u old new held follows)

-- the same where the items are a list and one more of them was taken
pub held_more : (items : List (Option RouteUpdate)) (i : ℕ) (item seen : Option RouteUpdate) (old new : Routes)
    → i < length items → item ≡ get_or items i item → seen ≡ item → HoldsRoutes (updates_of (take i items)) old
    → Follows seen old new → HoldsRoutes (updates_of (take (i + 1) items)) new
held_more items i item seen old new within is same held follows =
    let more : take (i + 1) items ≡ take i items ++ seen ∷ [] = take_more items i item within
    ∙ ap (λ s. take i items ++ s ∷ []) (sym is ∙ sym same) in
    rw more (held_next (take i items) seen old new held follows)
