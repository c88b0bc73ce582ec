-- What a cell says by a mode is what the set of that mode has.
use Rattle.std.proofs.Common.{◌≡◌, ◌↔◌, inl, inr, ℕ, ◌<◌, true, IsTrue, List, [], ◌∷◌, Some, refl, sym}
use Rattle.std.proofs.Common.{ap, subst, nat_lt}
use Rattle.std.proofs.lemmas.Bool.{cases_Bool, ltb-true, lt-ltb}
use Rattle.urpf_base.specs.Address.{Block}
use Rattle.urpf_base.specs.Kinds.{mode_for}
use Rattle.urpf_base.specs.Lists.{Has}
use Rattle.urpf_base.specs.Masks.{InMask}
use Rattle.urpf_base.specs.declared.cells.Cell.{Cell}
use Rattle.urpf_base.specs.declared.kinds.Kind.{Kind}
use Rattle.urpf_base.specs.declared.kinds.Mode.{Mode}
use Rattle.urpf_base.specs.declared.kinds.Mode.TheVariants.{Off, Feasible, Loose, LooseNoDefault, EfpA, EfpB}
use Rattle.urpf_base.specs.declared.kinds.Role.{Role}
use Rattle.urpf_base.specs.declared.kinds.Role.TheVariants.{Customer, Peer, Provider}
use Rattle.urpf_base.proofs.Members.{masks_same}
use Rattle.rpf_plain.specs.declared.rows.Row.{Row}
use Rattle.rpf_plain.specs.Cells.{IsCell}
use Rattle.rpf_plain.specs.Modes.{Says, no_defaults, set_in, set_of}
use Rattle.rpf_plain.specs.Sets.{any, has_prefix, prefixes_of}
use Rattle.rpf_plain.specs.World.{World, is_customer, is_customer_role, role_in}
use Rattle.rpf_plain.proofs.Members.{from_picked, has_prefix_by, picked, some_row}
use Rattle.rpf_plain.proofs.Turns.{no_member, not_empty}
use Rattle.std.specs.Prelude.{◌==◌}
use Rattle.std.proofs.lemmas.Bool.{eq-eqb}

pub some_prefix : (rows : List Row) (p : Block) → Has (prefixes_of rows) p → (r : Row) × Has rows r × (r.prefix ≡ p)
some_prefix [] p none = absurd none
some_prefix (r ∷ rows) p (inl same) = (r, inl refl, sym same)
some_prefix (r ∷ rows) p (inr later) = let (q, has, is) = some_prefix rows p later in (q, inr has, is)

pub a_prefix : (rows : List Row) (r : Row) → Has rows r → Has (prefixes_of rows) r.prefix
a_prefix [] r none = absurd none
a_prefix (q ∷ rows) r (inl same) = inl (ap (λ x. x.prefix) same)
a_prefix (q ∷ rows) r (inr later) = inr (a_prefix rows r later)

-- the prefixes that are no default route
pub in_no_defaults : (ps : List Block) (p : Block) → (Has (no_defaults ps) p ↔ (Has ps p × (0 < p.len)))
in_no_defaults [] p = (λ h. absurd h, λ h. absurd h.0)
in_no_defaults (q ∷ ps) p =
    let more = in_no_defaults ps p in
    elim (cases_Bool (nat_lt 0 q.len)) [
      | inl e ↦ (
        λ h. elim (rw e at h) [
          | inl same ↦ (inl same, subst (λ (b : Block). 0 < b.len) (sym same) (ltb-true 0 q.len e))
          | inr later ↦ let told = more.0 later in (inr told.0, told.1)
        ],
        λ h. rw e (elim h.0 [ inl same ↦ inl same | inr later ↦ inr (more.1 (later, h.1)) ]),
      )
      | inr e ↦ (
        λ h. let told = more.0 (rw e at h) in (inr told.0, told.1),
        λ h. rw e (elim h.0 [
          | inl same ↦ let long : nat_lt 0 q.len ≡ true =
              lt-ltb 0 q.len (subst (λ (b : Block). 0 < b.len) same h.1) in absurd cc
          | inr later ↦ more.1 (later, h.1)
        ]),
      )
    ]

module _ (w : World) (p : Block) (c : Cell) (is : IsCell w p c) where
  -- the interface of a row of the prefix has it
  on_one : (r : Row) → Has w.rows r → r.prefix ≡ p → InMask c.f r.iface
  on_one r has same =
      (is.f r.iface).1
      ((picked (λ q. q.iface == r.iface) w.rows p).1
      (some_row (λ q. (q.prefix ≡ p) × ((q.iface == r.iface) ≡ true)) w.rows r has (same, eq-eqb r.iface r.iface refl)))

  in_any : Has (any w) p ↔ ¬ (c.f ≡ 0)
  in_any = (
    λ h. let (r, has, same) = some_prefix w.rows p h in not_empty c.f r.iface (on_one r has same),
    λ some. elim (cases_Bool (has_prefix (any w) p)) [
      | inl there ↦ (has_prefix_by (any w) p).0 there
      | inr none ↦ absurd (some (masks_same c.f 0 (λ i. (
        λ h. absurd (let there : has_prefix (any w) p ≡ true =
            (has_prefix_by (any w) p).1 (from_picked (λ q. q.iface == i) w.rows p ((is.f i).0 h)) in cc),
        λ h. absurd (no_member i h),
      ))))
    ],
  )

  -- by a mode that the interface may have
  pub says_in : (m : Mode) (i : ℕ) → (m ≡ EfpA → IsTrue (is_customer w.roles i)) → (Has (set_in m w i) p ↔ Says m i p c)
  says_in Off i mine = (λ h. h, λ h. h)
  says_in Feasible i mine = ((is.f i).1, (is.f i).0)
  says_in Loose i mine = in_any
  says_in LooseNoDefault i mine =
      let told = in_no_defaults (any w) p in (
        λ h. let parts = told.0 h in (parts.1, in_any.0 parts.0),
        λ h. told.1 (in_any.1 h.1, h.0),
      )
  says_in EfpA i mine = (λ h. (is.a i).1 (mine refl, h), λ h. ((is.a i).0 h).1)
  says_in EfpB i mine = (is.z.1, is.z.0)

-- only a customer's interface is checked by Algorithm A
of_customer : (role : Role) (mode : Mode) → mode_for role mode ≡ EfpA → IsTrue (is_customer_role (Some role))
of_customer Customer mode e = refl
of_customer Peer Off e = cc
of_customer Peer Feasible e = cc
of_customer Peer Loose e = cc
of_customer Peer LooseNoDefault e = cc
of_customer Peer EfpA e = cc
of_customer Peer EfpB e = cc
of_customer Provider Off e = cc
of_customer Provider Feasible e = cc
of_customer Provider Loose e = cc
of_customer Provider LooseNoDefault e = cc
of_customer Provider EfpA e = cc
of_customer Provider EfpB e = cc

pub says : (w : World) (p : Block) (c : Cell) (i : ℕ) (kind : Kind) → IsCell w p c → role_in w.roles i ≡ Some kind.role
    → Has (set_of kind w i) p ↔ Says (mode_for kind.role kind.mode) i p c
says w p c i kind is role =
    says_in w p c is (mode_for kind.role kind.mode) i
    (λ e. subst (λ o. IsTrue (is_customer_role o)) (sym role) (of_customer kind.role kind.mode e))
