-- What holds of all routes, as it does of every map by prefix.
use Rattle.std.proofs.Common.{◌≡◌, ℕ, true, [], ◌∷◌, List, map, Option, Some, None, sym, ap, ◌∙◌, ◌↔◌}
use Rattle.std.specs.Iterator.{YieldsFirst}
use Rattle.std.specs.Option.{IsSome, IfSome}
use Rattle.std.specs.FinMap.{empty, insert, remove}
use Rattle.urpf_base.specs.Address.{Block}
use Rattle.urpf_base.specs.Lists.{Has, AreDistinct}
use Rattle.prefix_map.specs.Order.{is_after, IsAscending}
use Rattle.prefix_map.proofs.Held as held
use Rattle.prefix_map.proofs.Seen.{after-none, entries_ascend}
use Rattle.prefix_map.proofs.Walk.{walk, first_has}
use Rattle.adj_rib.specs.Routes.{ChangesAt, Routes, routes_at, prefixes_of, pairs_of, pairs_after}

-- each prefix stands once in the list
pub is_distinct : (routes : Routes) → AreDistinct (prefixes_of routes)
is_distinct routes = held.is_distinct routes

-- the list has the prefixes that have an origin
pub has_held : (routes : Routes) (p : Block) → Has (prefixes_of routes) p ↔ IsSome (routes_at routes p)
has_held routes p = held.has_held routes p

-- the pairs are what the map has
pub has_pair : (routes : Routes) (p : Block) (o : Option ℕ)
    → Has (pairs_of routes) (p, o) ↔ (routes_at routes p ≡ Some o)
has_pair routes p o = held.has_pair routes p o

-- routes that have the same at each prefix are the same
pub same_routes : (a b : Routes) → ((p : Block) → routes_at a p ≡ routes_at b p) → a ≡ b
same_routes a b h = held.same_held a b h

pub is_ascending : (routes : Routes) → IsAscending (prefixes_of routes)
is_ascending routes = held.is_ascending routes

-- where no start is given, all pairs come after it
pub pairs_after-none : (routes : Routes) → pairs_after None routes ≡ pairs_of routes
pairs_after-none routes = after-none routes

-- no routes
pub no_prefixes : (routes : Routes) → routes ≡ empty → prefixes_of routes ≡ []
no_prefixes routes is = ap (map (λ e. e.0)) (held.no_entries routes is)

-- a pair was put in, or taken out
pub set_changes : (inside old new : Routes) (p : Block) (o : Option ℕ) → inside ≡ old → new ≡ insert inside p o
    → ChangesAt p (Some o) old new
set_changes inside old new p o view is =
    let put : new ≡ insert old p o = is ∙ ap (λ m. insert m p o) view in
    record { here = held.set_here old new p o put; others = held.set_others old new p o put }

pub gone_changes : (inside old new : Routes) (p : Block) → inside ≡ old → new ≡ remove inside p
    → ChangesAt p None old new
gone_changes inside old new p view is =
    let taken : new ≡ remove old p = is ∙ ap (λ m. remove m p) view in
    record { here = held.gone_here old new p taken; others = held.gone_others old new p taken }

-- the first of the pairs after a prefix is of the map, comes after the prefix, and behind it come those after its own
-- prefix
pub record IsNext (start : Option Block) (routes : Routes) (r : Block × Option ℕ) : Type 0 where
  pub held : routes_at routes r.0 ≡ Some r.1
  pub above : is_after start r.0 ≡ true
  pub first : pairs_after start routes ≡ r ∷ pairs_after (Some r.0) routes

pub next_is : (start : Option Block) (routes : Routes) (r : Option (Block × Option ℕ))
    (all later : List (Block × Option ℕ)) → all ≡ pairs_after start routes → YieldsFirst (λ s. s) all r later
    → IfSome r (IsNext start routes)
next_is start routes None all later is step = tt
next_is start routes (Some r) all later is step =
    let list : pairs_after start routes ≡ r ∷ later = sym is ∙ step in
    let there : Has (pairs_of routes) r × (is_after start r.0 ≡ true) = first_has start (pairs_of routes) r later list
    in
    record {
      held = (has_pair routes r.0 r.1).0 there.0;
      above = there.1;
      first = list ∙ ap (λ l. r ∷ l) (sym (walk start (pairs_of routes) r later (entries_ascend routes) list));
    }

pub if_some : {X : Type 0} {P Q : X → Type 0} (r : Option X) → IfSome r P → ((x : X) → P x → Q x) → IfSome r Q
if_some None h f = h
if_some (Some x) h f = f x h
