-- A pair whose AS no row has as its origin adds nothing.
use Rattle.std.proofs.Common.{◌≡◌, ◌↔◌, inl, inr, ℕ, Bool, false, List, ◌∷◌, ◌++◌, refl, sym, ap, subst, Some}
use Rattle.std.proofs.Common.{IsTrue}
use Rattle.std.specs.List.{filter}
use Rattle.std.proofs.lemmas.Bool.{cases_Bool}
use Rattle.urpf_base.specs.Address.{Block}
use Rattle.urpf_base.specs.Lists.{Has}
use Rattle.urpf_base.specs.Masks.{InMask}
use Rattle.urpf_base.specs.declared.cells.Cell.{Cell}
use Rattle.origin_pairs.specs.Pairs.{Pair}
use Rattle.rpf_plain.specs.declared.rows.Row.{Row}
use Rattle.rpf_plain.specs.Cells.{IsCell}
use Rattle.rpf_plain.specs.Sets.{has_as, list_a, list_a_with_pairs, origins_of, paired, rows_on, set_a, set_z}
use Rattle.rpf_plain.specs.Sets.{set_z_with_pairs}
use Rattle.rpf_plain.specs.World.{World, is_customer, with_pair}
use Rattle.rpf_plain.proofs.Members.{has_as_by, named, the_row}

-- an AS that no row has as its origin is not among the origins of some rows
no_origin : (t : Row → Bool) (rows : List Row) (asn : ℕ) → ((row : Row) → Has rows row → ¬ (row.origin ≡ Some asn))
    → has_as (origins_of (filter t rows)) asn ≡ false
no_origin t rows asn none =
    elim (cases_Bool (has_as (origins_of (filter t rows)) asn)) [
      | inl found ↦
          let (row, has, is) =
          the_row _ rows ((named t rows asn).0 ((has_as_by (origins_of (filter t rows)) asn).0 found)) in
          absurd (none row has is.0)
      | inr absent ↦ absent
    ]

-- a pair is passed over where its AS is not in the list
passed : (pairs : List Pair) (prefix : Block) (asn : ℕ) (numbers : List ℕ) → has_as numbers asn ≡ false
    → paired ((prefix, asn) ∷ pairs) numbers ≡ paired pairs numbers
passed pairs prefix asn numbers absent = rw absent refl

module _ (w : World) (prefix : Block) (asn : ℕ) (none : (row : Row) → Has w.rows row → ¬ (row.origin ≡ Some asn)) where
  same_list : (i : ℕ) → list_a_with_pairs (with_pair (prefix, asn) w) i ≡ list_a_with_pairs w i
  same_list i =
      ap (λ l. list_a w i ++ l)
      (passed w.pairs prefix asn (origins_of (rows_on w i)) (no_origin _ w.rows asn none))

  same_z : set_z_with_pairs (with_pair (prefix, asn) w) ≡ set_z_with_pairs w
  same_z = ap (λ l. set_z w ++ l) (passed w.pairs prefix asn (set_a w) (no_origin _ w.rows asn none))

  -- the cells are as they are without the pair
  pub unheard : (p : Block) (c : Cell) → (IsCell (with_pair (prefix, asn) w) p c ↔ IsCell w p c)
  unheard p c = (
    λ is. record {
      f = is.f;
      a = λ i. subst (λ l. InMask c.a i ↔ (IsTrue (is_customer w.roles i) × Has l p)) (same_list i) (is.a i);
      z = subst (λ l. IsTrue c.z ↔ Has l p) same_z is.z;
    },
    λ is. record {
      f = is.f;
      a = λ i. subst (λ l. InMask c.a i ↔ (IsTrue (is_customer w.roles i) × Has l p)) (sym (same_list i)) (is.a i);
      z = subst (λ l. IsTrue c.z ↔ Has l p) (sym same_z) is.z;
    },
  )
