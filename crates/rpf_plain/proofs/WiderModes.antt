-- An interface in a wider mode, and in a router with more routes and pairs.
use Rattle.std.proofs.Common.{◌≡◌, ℕ, ◌==◌, IsSome, IsTrue, List, [], ◌∷◌, Option, Some, None, inl, inr, refl}
use Rattle.std.proofs.Common.{sym, subst}
use Rattle.std.proofs.lemmas.Bool.{cases_Bool}
use Rattle.urpf_base.specs.Address.{Block}
use Rattle.urpf_base.specs.Kinds.{mode_for}
use Rattle.urpf_base.specs.Lists.{Has}
use Rattle.urpf_base.specs.declared.address.Addr.{Addr}
use Rattle.urpf_base.specs.declared.kinds.Kind.{Kind}
use Rattle.urpf_base.specs.declared.kinds.Mode.{Mode}
use Rattle.urpf_base.specs.declared.kinds.Mode.TheVariants.{Feasible, Loose, EfpA, EfpB}
use Rattle.urpf_base.specs.declared.kinds.Role.{Role}
use Rattle.urpf_base.specs.declared.kinds.Role.TheVariants.{Customer, Peer, Provider}
use Rattle.urpf_base.specs.declared.verdicts.Verdict.TheVariants.{Pass}
use Rattle.router_config.specs.Edits.{edited}
use Rattle.router_config.specs.Kinds.{kind_in}
use Rattle.router_config.specs.declared.edits.Edit.TheVariants as edit
use Rattle.origin_pairs.specs.Pairs.{Pair}
use Rattle.rpf_plain.specs.declared.rows.Row.{Row}
use Rattle.rpf_plain.specs.Modes.{IsVerdict, IsVerdictFor, set_in}
use Rattle.rpf_plain.specs.Sets.{set_z}
use Rattle.rpf_plain.specs.World.{Roles, World, is_customer, roles_of, world_for}
use Rattle.rpf_plain.proofs.Alike.{AreIn, ArePairsIn, world}
use Rattle.rpf_plain.proofs.Listed.{either_way, mode_edited, role_of_kind}
use Rattle.rpf_plain.proofs.Members.{from_picked, has_append}
use Rattle.rpf_plain.proofs.Verdicts.{covers_by, in_mode}
use Rattle.rpf_plain.proofs.Wider.{a_in_z_with_pairs, feasible_in_a, feasible_in_z, listed_with_pairs, z_in_any}
use Rattle.rpf_plain.proofs.Wider.{z_with_pairs}

-- the kind of an interface of this role that is configured with this mode
abbrev pub kind_of : Role → Mode → Kind
kind_of role mode = record { role = role; mode = mode }

mode_now : (kinds : List (ℕ × Kind)) (i : ℕ) (mode : Mode) (kind : Kind) → kind_in kinds i ≡ Some kind
    → kind_in (edited (edit.Mode i mode) kinds) i ≡ Some (record { role = kind.role; mode = mode })
mode_now [] i mode kind is = cc
mode_now (k ∷ kinds) i mode kind is =
    let more = mode_now kinds i mode kind in
    elim (cases_Bool (k.0 == i)) [
      | inl e ↦
          let same : k.1 ≡ kind = let here = rw e at is in cc in
          rw (either_way i k.0, e, e) (λ j. Some (record { role = (same j).role; mode = mode }))
      | inr e ↦ rw (either_way i k.0, e, e) (more (rw e at is))
    ]

of_customer : (kinds : List (ℕ × Kind)) (i : ℕ) (mode : Mode) → kind_in kinds i ≡ Some (kind_of Customer mode)
    → IsTrue (is_customer (roles_of kinds) i)
of_customer kinds i mode is = rw (role_of_kind kinds i, is) refl

-- the set of the one mode has no more prefixes than that of the other
abbrev IsWithin : World → ℕ → Mode → Mode → Type 0
IsWithin w i m n = (p : Block) → Has (set_in m w i) p → Has (set_in n w i) p

-- so what passes in the one mode passes in the other
wider : (kinds : List (ℕ × Kind)) (i : ℕ) (role : Role) (m n : Mode) (rows : List Row) (pairs : List Pair)
    → kind_in kinds i ≡ Some (kind_of role m)
    → IsWithin (world_for kinds rows pairs) i (mode_for role m) (mode_for role n)
    → (source : Option Addr) → IsVerdict kinds rows pairs i source Pass
    → IsVerdict (edited (edit.Mode i n) kinds) rows pairs i source Pass
wider kinds i role m n rows pairs is more source passes =
    let w = world_for kinds rows pairs in
    let before : IsVerdictFor (Some (kind_of role m)) w i source Pass =
    subst (λ o. IsVerdictFor o w i source Pass) is passes in
    let after : IsVerdictFor (Some (kind_of role n)) w i source Pass = passes_more source before in
    let same : world_for (edited (edit.Mode i n) kinds) rows pairs ≡ w =
    λ j. record { rows = rows; roles = mode_edited kinds i n j; pairs = pairs } in
    subst (λ (x : World). IsVerdictFor (kind_in (edited (edit.Mode i n) kinds) i) x i source Pass) (sym same)
    (subst (λ o. IsVerdictFor o w i source Pass) (sym (mode_now kinds i n (kind_of role m) is)) after)
  where
    passes_more : (source : Option Addr)
        → IsVerdictFor (Some (kind_of role m)) (world_for kinds rows pairs) i source Pass
        → IsVerdictFor (Some (kind_of role n)) (world_for kinds rows pairs) i source Pass
    passes_more None h = h
    passes_more (Some source) (p, has, covers) = (p, more p has, covers)

module _ (kinds : List (ℕ × Kind)) (i : ℕ) (rows : List Row) (pairs : List Pair) where
  abbrev w : World
  w = world_for kinds rows pairs

  pub feasible_to_a : kind_in kinds i ≡ Some (kind_of Customer Feasible)
      → ((row : Row) → Has rows row → row.iface ≡ i → IsSome row.origin)
      → (source : Option Addr) → IsVerdict kinds rows pairs i source Pass
      → IsVerdict (edited (edit.Mode i EfpA) kinds) rows pairs i source Pass
  feasible_to_a is all =
      wider kinds i Customer Feasible EfpA rows pairs is
      (λ p h. listed_with_pairs w i p (feasible_in_a w i (of_customer kinds i Feasible is) all p h))

  feasible_in_b : (role : Role) → kind_in kinds i ≡ Some (kind_of role Feasible)
      → IsWithin w i (mode_for role Feasible) (mode_for role EfpB)
  feasible_in_b Customer is p h = z_with_pairs w p (feasible_in_z w i (of_customer kinds i Feasible is) p h)
  feasible_in_b Peer is p h = from_picked (λ q. q.iface == i) rows p h
  feasible_in_b Provider is p h = from_picked (λ q. q.iface == i) rows p h

  pub feasible_to_b : (role : Role) → kind_in kinds i ≡ Some (kind_of role Feasible)
      → (source : Option Addr) → IsVerdict kinds rows pairs i source Pass
      → IsVerdict (edited (edit.Mode i EfpB) kinds) rows pairs i source Pass
  feasible_to_b role is = wider kinds i role Feasible EfpB rows pairs is (feasible_in_b role is)

  a_in_b : (role : Role) → kind_in kinds i ≡ Some (kind_of role EfpA)
      → IsWithin w i (mode_for role EfpA) (mode_for role EfpB)
  a_in_b Customer is p h = a_in_z_with_pairs w i (of_customer kinds i EfpA is) p h
  a_in_b Peer is p h = h
  a_in_b Provider is p h = h

  pub a_to_b : (role : Role) → kind_in kinds i ≡ Some (kind_of role EfpA)
      → (source : Option Addr) → IsVerdict kinds rows pairs i source Pass
      → IsVerdict (edited (edit.Mode i EfpB) kinds) rows pairs i source Pass
  a_to_b role is = wider kinds i role EfpA EfpB rows pairs is (a_in_b role is)

module _ (kinds : List (ℕ × Kind)) (i : ℕ) (rows : List Row) where
  b_in_loose : (role : Role) → IsWithin (world_for kinds rows []) i (mode_for role EfpB) Loose
  b_in_loose Customer p h =
      let v = world_for kinds rows [] in
      z_in_any v p (elim ((has_append (set_z v) [] p).0 h) [ inl of_z ↦ of_z | inr none ↦ absurd none ])
  b_in_loose Peer p h = h
  b_in_loose Provider p h = h

  loose_for : (role : Role) → mode_for role Loose ≡ Loose
  loose_for Customer = refl
  loose_for Peer = refl
  loose_for Provider = refl

  pub b_to_loose : (role : Role) → kind_in kinds i ≡ Some (kind_of role EfpB)
      → (source : Option Addr) → IsVerdict kinds rows [] i source Pass
      → IsVerdict (edited (edit.Mode i Loose) kinds) rows [] i source Pass
  b_to_loose role is =
      wider kinds i role EfpB Loose rows [] is (rw (loose_for role) (b_in_loose role))

-- more rows and pairs let in no less
more_for : (o : Option Kind) (a b : List Row) → AreIn a b → (roles : Roles) (pairs like : List Pair)
    → ArePairsIn pairs like → (i : ℕ) (source : Option Addr)
    → IsVerdictFor o (world roles pairs a) i source Pass → IsVerdictFor o (world roles like b) i source Pass
more_for None a b within roles pairs like pairs_within i source passes = passes
more_for (Some kind) a b within roles pairs like pairs_within i None passes = passes
more_for (Some kind) a b within roles pairs like pairs_within i (Some source) passes =
    covers_by a b within roles pairs like pairs_within i kind source passes

pub more_verdicts : (kinds : List (ℕ × Kind)) (rows others : List Row) → AreIn rows others
    → (pairs like : List Pair) → ArePairsIn pairs like → (i : ℕ) (source : Option Addr)
    → IsVerdict kinds rows pairs i source Pass → IsVerdict kinds others like i source Pass
more_verdicts kinds rows others within pairs like pairs_within i source =
    more_for (kind_in kinds i) rows others within (roles_of kinds) pairs like pairs_within i source

pub more_members : (v w : World) → v.roles ≡ w.roles → AreIn v.rows w.rows → ArePairsIn v.pairs w.pairs
    → (m : Mode) (i : ℕ) (p : Block) → Has (set_in m v i) p → Has (set_in m w i) p
more_members v w roles within pairs_within m i p h =
    in_mode v.rows w.rows within w.roles v.pairs w.pairs pairs_within i m p
    (subst (λ (x : World). Has (set_in m x i) p) (λ j. record { rows = v.rows; roles = roles j; pairs = v.pairs }) h)
