-- What is known of the origin of a row, and what the row says of its prefix.
use Rattle.std.proofs.Common.{◌≡◌, ◌⊎◌, ◌↔◌, inl, inr, ℕ, IsTrue, Option, Some, None, List, refl, subst}
use Rattle.std.specs.BTreeMap.{BTreeMap}
use Rattle.urpf_base.specs.Masks.{InMask}
use Rattle.rpf_plain.specs.declared.origins.Reach.{Reach}
use Rattle.rpf_plain.specs.declared.rows.Row.{Row}
use Rattle.rpf_plain.specs.Walks.{Admits, AreReaches, InSetA, IsAdmitted, Reaches, reach_of}

module _ (rows : List Row) (customers : ℕ) (origins : BTreeMap ℕ Reach) (are : AreReaches rows customers origins) where
  of_set_a : (o : Option ℕ)
      → (IsTrue (reach_of origins o).in_set_a ↔ ((a : ℕ) × (o ≡ Some a) × InSetA rows customers a))
  of_set_a None = (λ h. absurd cc, λ (a, is, in_a). absurd cc)
  of_set_a (Some b) = (
    λ h. (b, refl, (are.in_set_a b).0 h),
    λ (a, is, in_a). let same : a ≡ b = cc in (are.in_set_a b).1 (subst (InSetA rows customers) same in_a),
  )

  -- a row admits its prefix to the customer interfaces that its origin reaches
  pub admits : (i : ℕ) (o : Option ℕ)
      → (Admits (reach_of origins o) customers i
      ↔ (InMask customers i × ((a : ℕ) × (o ≡ Some a) × InSetA rows customers a × Reaches rows a i)))
  admits i None = (λ h. let no = h.0 in absurd cc, λ h. let no = h.1.1 in absurd cc)
  admits i (Some b) = (
    λ h. (h.1, (b, refl, (are.in_set_a b).0 h.0, (are.ifaces b i).0 h.2)),
    λ h.
        let same : h.1.0 ≡ b = let is = h.1.1 in cc in (
          (are.in_set_a b).1 (subst (InSetA rows customers) same h.1.2),
          h.0,
          (are.ifaces b i).1 (subst (λ a. Reaches rows a i) same h.1.3),
        ),
  )

  -- and to Set Z where it is of a customer interface or its origin is in Set A
  pub admitted : (row : Row)
      → ((InMask customers row.iface ⊎ IsTrue (reach_of origins row.origin).in_set_a) ↔ IsAdmitted rows customers row)
  admitted row = (
    λ h. elim h [ inl m ↦ inl m | inr t ↦ inr ((of_set_a row.origin).0 t) ],
    λ h. elim h [ inl m ↦ inl m | inr t ↦ inr ((of_set_a row.origin).1 t) ],
  )
