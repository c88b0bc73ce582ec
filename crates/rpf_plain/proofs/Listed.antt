-- Interfaces that customers are behind.
use Rattle.std.proofs.Common.{Option, None, if◌then◌else◌}
use Rattle.std.proofs.Common.{◌≡◌, ◌↔◌, ◌≤◌, ◌<◌, ◌+◌, ◌==◌, inl, inr, ℕ, zero, suc, Bool, true, false, IsTrue, List}
use Rattle.std.proofs.Common.{[], ◌∷◌}
use Rattle.std.proofs.Common.{drop, length, map, refl, sym, ap, subst, ◌∙◌, Some, arith, add-one, drop-cons, get_or}
use Rattle.std.specs.List.{AllByRecursion}
use Rattle.std.proofs.lemmas.Bool.{cases_Bool, eq-eqb, eqb-true, eqb-false}
use Rattle.urpf_base.specs.Address.{Block}
use Rattle.urpf_base.specs.declared.kinds.Kind.{Kind}
use Rattle.urpf_base.specs.declared.kinds.Mode.{Mode}
use Rattle.urpf_base.specs.declared.kinds.Role.{Role}
use Rattle.std.specs.Option.{IsSome, option_map}
use Rattle.urpf_base.specs.declared.kinds.Role.TheVariants.{Customer, Peer, Provider}
use Rattle.router_config.specs.Edits.{edited}
use Rattle.router_config.specs.Kinds.{IsAscending, Row as KindRow, kind_in}
use Rattle.router_config.specs.declared.edits.Edit.TheVariants as edit
use Rattle.rpf_plain.specs.Walks.{HasCustomer}
use Rattle.rpf_plain.specs.World.{IsConfigured, Roles, is_customer, is_customer_role, role_in, roles_of, with_role}

drop-all : (kinds : List (ℕ × Kind)) (n : ℕ) → length kinds ≤ n → drop n kinds ≡ []
drop-all [] zero h = refl
drop-all [] (suc n) h = refl
drop-all (k ∷ kinds) zero h = absurd (omega arith)
drop-all (k ∷ kinds) (suc n) h = drop-all kinds n (omega arith)

no_one : (kinds : List (ℕ × Kind)) (i : ℕ) → kinds ≡ [] → ¬ HasCustomer kinds i
no_one [] i e h = h
no_one (k ∷ kinds) i e h = cc

-- behind the last interface none is listed
pub no_listed : (kinds : List (ℕ × Kind)) (n : ℕ) → length kinds ≤ n → (i : ℕ) → ¬ HasCustomer (drop n kinds) i
no_listed kinds n h i = no_one (drop n kinds) i (drop-all kinds n h)

abbrev numbers : List (ℕ × Kind) → List ℕ
numbers kinds = map (λ k. k.0) kinds

not_later : (kinds : List (ℕ × Kind)) (i n : ℕ) → AllByRecursion (λ m. n < m) (numbers kinds) → n ≡ i
    → ¬ HasCustomer kinds i
not_later [] i n below e h = h
not_later (k ∷ kinds) i n below e (inl here) =
    let same : k.0 ≡ i = here.0 in let less : n < k.0 = below.0 in omega arith
not_later (k ∷ kinds) i n below e (inr later) = not_later kinds i n below.1 e later

the_role : (role : Role) → IsTrue (is_customer_role (Some role)) → role ≡ Customer
the_role Customer h = refl
the_role Peer h = cc
the_role Provider h = cc

-- the customer interfaces of a list by ascending numbers
pub listed : (kinds : List (ℕ × Kind)) → IsAscending kinds → (i : ℕ)
    → (HasCustomer kinds i ↔ IsTrue (is_customer (roles_of kinds) i))
listed [] ascending i = (λ h. absurd h, λ h. absurd cc)
listed (k ∷ kinds) ascending i =
    by_place (k.0 == i) refl (listed kinds ascending.1 i)
  where
    by_place : (b : Bool) → (k.0 == i) ≡ b → (HasCustomer kinds i ↔ IsTrue (is_customer (roles_of kinds) i))
        → (HasCustomer (k ∷ kinds) i ↔ IsTrue (is_customer (roles_of (k ∷ kinds)) i))
    by_place true e more =
        let same : k.0 ≡ i = eqb-true k.0 i e in
        rw e (
          λ h. elim h [
            | inl here ↦ subst (λ r. IsTrue (is_customer_role (Some r))) (sym here.1) refl
            | inr later ↦ absurd (not_later kinds i k.0 ascending.0 same later)
          ],
          λ h. inl (same, the_role k.1.role h),
        )
    by_place false e more =
        rw e (
          λ h. elim h [
            | inl here ↦ absurd (eqb-false k.0 i e here.0)
            | inr later ↦ more.0 later
          ],
          λ h. inr (more.1 h),
        )

-- the interfaces from a place on are the one there and those behind it
pub rest_of : (kinds : List (ℕ × Kind)) (n : ℕ) (k : ℕ × Kind) → n < length kinds → k ≡ get_or kinds n k
    → drop n kinds ≡ k ∷ drop (n + 1) kinds
rest_of kinds n k within is = drop-cons kinds n k within ∙ (λ i. sym is i ∷ drop (sym (add-one n) i) kinds)

-- numbers are compared either way
pub either_way : (a b : ℕ) → (a == b) ≡ (b == a)
either_way a b =
    elim (cases_Bool (a == b)) [
      | inl e ↦ e ∙ sym (eq-eqb b a (sym (eqb-true a b e)))
      | inr e ↦ elim (cases_Bool (b == a)) [
        | inl f ↦ absurd (eqb-false a b e (sym (eqb-true b a f)))
        | inr f ↦ e ∙ sym f
      ]
    ]

with_its_role : (b : Bool) (k : ℕ × Kind) (role : Role)
    → let r : KindRow = if b then (k.0, record { role = role; mode = k.1.mode }) else k in
    ◌≡◌ {A = ℕ × Role} (r.0, r.1.role) (if b then (k.0, role) else (k.0, k.1.role))
with_its_role true k role = refl
with_its_role false k role = refl

-- the roles once one was edited
pub roles_edited : (iface : ℕ) (role : Role) (kinds : List (ℕ × Kind))
    → roles_of (edited (edit.Role iface role) kinds) ≡ with_role iface role (roles_of kinds)
roles_edited iface role [] = refl
roles_edited iface role (k ∷ kinds) =
    (λ i. with_its_role (iface == k.0) k role i ∷ roles_edited iface role kinds i)
    ∙ ap (λ b. (if b then (k.0, role) else (k.0, k.1.role)) ∷ with_role iface role (roles_of kinds))
    (either_way iface k.0)

-- the role of an interface is that of its kind
pub role_of_kind : (kinds : List (ℕ × Kind)) (i : ℕ)
    → role_in (roles_of kinds) i ≡ option_map (λ k. k.role) (kind_in kinds i)
role_of_kind [] i = refl
role_of_kind (k ∷ kinds) i =
    let more = role_of_kind kinds i in
    elim (cases_Bool (k.0 == i)) [ inl e ↦ rw e refl | inr e ↦ rw e more ]

some_mapped : {A B : Type 0} (f : A → B) (o : Option A) → IsSome (option_map f o) ↔ IsSome o
some_mapped f None = (λ h. h, λ h. h)
some_mapped f (Some a) = (λ h. refl, λ h. refl)

pub configured : (kinds : List (ℕ × Kind)) (i : ℕ) → IsConfigured (roles_of kinds) i ↔ IsSome (kind_in kinds i)
configured kinds i =
    let told = some_mapped (λ (k : Kind). k.role) (kind_in kinds i) in (
      λ h. told.0 (subst IsSome (role_of_kind kinds i) h),
      λ h. subst IsSome (sym (role_of_kind kinds i)) (told.1 h),
    )

with_its_mode : (b : Bool) (k : ℕ × Kind) (mode : Mode)
    → let r : KindRow = if b then (k.0, record { role = k.1.role; mode = mode }) else k in
    ◌≡◌ {A = ℕ × Role} (r.0, r.1.role) (k.0, k.1.role)
with_its_mode true k mode = refl
with_its_mode false k mode = refl

-- a mode is no role
pub mode_edited : (kinds : List (ℕ × Kind)) (iface : ℕ) (mode : Mode)
    → roles_of (edited (edit.Mode iface mode) kinds) ≡ roles_of kinds
mode_edited [] iface mode = refl
mode_edited (k ∷ kinds) iface mode =
    λ i. with_its_mode (iface == k.0) k mode i ∷ mode_edited kinds iface mode i

-- an edit of a pair leaves the interfaces as they are
as_they_are : (kinds : List (ℕ × Kind)) → map (λ (k : ℕ × Kind). k) kinds ≡ kinds
as_they_are [] = refl
as_they_are (k ∷ kinds) = ap (λ l. k ∷ l) (as_they_are kinds)

pub pair_edited : (kinds : List (ℕ × Kind)) (prefix : Block) (asn : ℕ)
    → (roles_of (edited (edit.PairAdd prefix asn) kinds) ≡ roles_of kinds)
    × (roles_of (edited (edit.PairDel prefix asn) kinds) ≡ roles_of kinds)
pair_edited kinds prefix asn = (ap roles_of (as_they_are kinds), ap roles_of (as_they_are kinds))

-- another role leaves the interfaces as they are
pub role_kept : (roles : Roles) (iface : ℕ) (role : Role) (i : ℕ)
    → IsConfigured (with_role iface role roles) i ↔ IsConfigured roles i
role_kept [] iface role i = (λ h. h, λ h. h)
role_kept (r ∷ roles) iface role i =
    let more = role_kept roles iface role i in
    elim (cases_Bool (r.0 == iface)) [
      | inl e ↦ rw e
          (elim (cases_Bool (r.0 == i)) [ inl here ↦ rw here (λ h. refl, λ h. refl) | inr other ↦ rw other more ])
      | inr e ↦ rw e
          (elim (cases_Bool (r.0 == i)) [ inl here ↦ rw here (λ h. refl, λ h. refl) | inr other ↦ rw other more ])
    ]
