-- The sets of an interface widen: feasible paths, Algorithm A, Algorithm B, loose mode.
use Rattle.std.proofs.Common.{◌≡◌, ◌↔◌, inl, inr, ℕ, true, ◌==◌, ◌&&◌, not, IsSome, IsTrue, Option, Some, None}
use Rattle.std.proofs.Common.{refl}
use Rattle.std.proofs.lemmas.Bool.{and_from, cases_Bool, eq-eqb, eqb-true}
use Rattle.urpf_base.specs.Address.{Block}
use Rattle.urpf_base.specs.Lists.{Has}
use Rattle.rpf_plain.specs.declared.rows.Row.{Row}
use Rattle.rpf_plain.specs.Rows.{row_of}
use Rattle.rpf_plain.specs.Sets.{any, feasible, has_origin, has_prefix, is_origin, list_a, list_a_with_pairs}
use Rattle.rpf_plain.specs.Sets.{origins_of, paired, received, rows_on, set_a, set_p, set_q, set_x, set_z}
use Rattle.rpf_plain.specs.Sets.{set_z_with_pairs}
use Rattle.rpf_plain.specs.World.{World, is_customer}
use Rattle.rpf_plain.proofs.Members.{any_by, from_picked, has_append, has_origin_by, has_prefix_by, in_paired}
use Rattle.rpf_plain.proofs.Members.{in_union, is_origin_by, named, picked, some_row, the_row}

an_origin : (o : Option ℕ) → IsSome o → (n : ℕ) × (o ≡ Some n)
an_origin None none = cc
an_origin (Some n) some = (n, refl)

module _ (w : World) where
  -- the origin of a row of a customer's interface is in Set A
  in_set_a : (r : Row) (n : ℕ) → Has w.rows r → IsTrue (is_customer w.roles r.iface) → r.origin ≡ Some n
      → Has (set_a w) n
  in_set_a r n has customer is =
      (named (λ q. is_customer w.roles q.iface) w.rows n).1
      (some_row (λ q. (q.origin ≡ Some n) × (is_customer w.roles q.iface ≡ true)) w.rows r has (is, customer))

  -- a row of the interface with this prefix
  row_on : (i : ℕ) (p : Block) → Has (feasible w i) p
      → (r : Row) × Has w.rows r × (r.prefix ≡ p) × (r.iface ≡ i)
  row_on i p h =
      let (r, has, (same, on_i)) =
      the_row (λ q. (q.prefix ≡ p) × ((q.iface == i) ≡ true)) w.rows ((picked (λ q. q.iface == i) w.rows p).0 h) in
      (r, has, same, eqb-true r.iface i on_i)

  in_list : (i : ℕ) (p : Block) → Has (feasible w i) p → (r : Row) → Has w.rows r → r.prefix ≡ p
      → IsTrue (has_origin (set_a w) r.origin) → Has (list_a w i) p
  in_list i p here r has same heard =
      let (n, is, of_a) = (has_origin_by (set_a w) r.origin).0 heard in
      let there : Has (set_x w n) p =
      (picked (λ q. is_origin n q.origin) w.rows p).1
      (some_row (λ q. (q.prefix ≡ p) × (is_origin n q.origin ≡ true)) w.rows r has
      (same, (is_origin_by n r.origin).1 is)) in
      (in_union (set_x w) (received w i) (set_a w) p).1 (
        n,
        of_a,
        (any_by (has_prefix (feasible w i)) (set_x w n)).1 (p, there, (has_prefix_by (feasible w i) p).1 here),
        there,
      )

  of_list : (i : ℕ) (p : Block) → Has (list_a w i) p
      → (r : Row) × Has w.rows r × (r.prefix ≡ p) × IsTrue (has_origin (set_a w) r.origin)
  of_list i p h =
      let (n, of_a, is, there) = (in_union (set_x w) (received w i) (set_a w) p).0 h in
      let (r, has, (same, of_n)) =
      the_row (λ q. (q.prefix ≡ p) × (is_origin n q.origin ≡ true)) w.rows
      ((picked (λ q. is_origin n q.origin) w.rows p).0 there) in
      (r, has, same, (has_origin_by (set_a w) r.origin).1 (n, (is_origin_by n r.origin).0 of_n, of_a))

  -- what Algorithm A keeps of the feasible paths
  pub kept_in_a : (i : ℕ) (p : Block) → Has (feasible w i) p
      → Has (list_a w i) p
      ↔ ((r : Row) × Has w.rows r × (r.prefix ≡ p) × IsTrue (has_origin (set_a w) r.origin))
  kept_in_a i p here = (of_list i p, λ (r, has, same, heard). in_list i p here r has same heard)

  -- a route of a customer's interface with an origin is kept
  pub routes_in_a : (i : ℕ) → IsTrue (is_customer w.roles i) → (p : Block) (n : ℕ) → Has w.rows (row_of i p (Some n))
      → Has (list_a w i) p
  routes_in_a i customer p n has =
      let r : Row = row_of i p (Some n) in
      let here : Has (feasible w i) p =
      (picked (λ q. q.iface == i) w.rows p).1
      (some_row (λ q. (q.prefix ≡ p) × ((q.iface == i) ≡ true)) w.rows r has (refl, eq-eqb i i refl)) in
      in_list i p here r has refl ((has_origin_by (set_a w) r.origin).1 (n, refl, in_set_a r n has customer refl))

  pub feasible_in_a : (i : ℕ) → IsTrue (is_customer w.roles i)
      → ((r : Row) → Has w.rows r → r.iface ≡ i → IsSome r.origin)
      → (p : Block) → Has (feasible w i) p → Has (list_a w i) p
  feasible_in_a i customer all p here =
      let (r, has, same, on_i) = row_on i p here in
      let (n, is) = an_origin r.origin (all r has on_i) in
      let of_customer : IsTrue (is_customer w.roles r.iface) = rw on_i customer in
      in_list i p here r has same ((has_origin_by (set_a w) r.origin).1 (n, is, in_set_a r n has of_customer is))

  in_p : (r : Row) (p : Block) → Has w.rows r → r.prefix ≡ p → IsTrue (is_customer w.roles r.iface)
      → Has (set_p w) p
  in_p r p has same customer =
      (picked (λ q. is_customer w.roles q.iface) w.rows p).1
      (some_row (λ q. (q.prefix ≡ p) × (is_customer w.roles q.iface ≡ true)) w.rows r has (same, customer))

  pub feasible_in_z : (i : ℕ) → IsTrue (is_customer w.roles i) → (p : Block) → Has (feasible w i) p
      → Has (set_z w) p
  feasible_in_z i customer p here =
      let (r, has, same, on_i) = row_on i p here in
      (has_append (set_p w) (set_q w) p).1 (inl (in_p r p has same (rw on_i customer)))

  pub a_in_z : (i : ℕ) (p : Block) → Has (list_a w i) p → Has (set_z w) p
  a_in_z i p h =
      let (r, has, same, heard) = of_list i p h in
      (has_append (set_p w) (set_q w) p).1 (elim (cases_Bool (is_customer w.roles r.iface)) [
        | inl customer ↦ inl (in_p r p has same customer)
        | inr other ↦
            let in_q : (not (is_customer w.roles r.iface) && has_origin (set_a w) r.origin) ≡ true =
            and_from _ _ (rw other refl) heard in
            inr
            ((picked (λ q. not (is_customer w.roles q.iface) && has_origin (set_a w) q.origin) w.rows p).1
            (some_row
            (λ q. (q.prefix ≡ p) × ((not (is_customer w.roles q.iface) && has_origin (set_a w) q.origin) ≡ true))
            w.rows r has (same, in_q)))
      ])

  pub z_in_any : (p : Block) → Has (set_z w) p → Has (any w) p
  z_in_any p h =
      elim ((has_append (set_p w) (set_q w) p).0 h) [
        | inl of_p ↦ from_picked (λ q. is_customer w.roles q.iface) w.rows p of_p
        | inr of_q ↦
            from_picked (λ q. not (is_customer w.roles q.iface) && has_origin (set_a w) q.origin) w.rows p of_q
      ]

  -- with the prefixes of the pairs
  pub a_in_z_with_pairs : (i : ℕ) → IsTrue (is_customer w.roles i) → (p : Block)
      → Has (list_a_with_pairs w i) p → Has (set_z_with_pairs w) p
  a_in_z_with_pairs i customer p h =
      (has_append (set_z w) (paired w.pairs (set_a w)) p).1
      (elim ((has_append (list_a w i) (paired w.pairs (origins_of (rows_on w i))) p).0 h) [
        | inl listed ↦ inl (a_in_z i p listed)
        | inr given ↦
            let (n, of_pair, heard) = (in_paired w.pairs (origins_of (rows_on w i)) p).0 given in
            let (r, has, (is, on_i)) =
            the_row (λ q. (q.origin ≡ Some n) × ((q.iface == i) ≡ true)) w.rows
            ((named (λ q. q.iface == i) w.rows n).0 heard) in
            let of_customer : IsTrue (is_customer w.roles r.iface) = rw (eqb-true r.iface i on_i) customer in
            inr ((in_paired w.pairs (set_a w) p).1 (n, of_pair, in_set_a r n has of_customer is))
      ])

  pub listed_with_pairs : (i : ℕ) (p : Block) → Has (list_a w i) p → Has (list_a_with_pairs w i) p
  listed_with_pairs i p h = (has_append (list_a w i) (paired w.pairs (origins_of (rows_on w i))) p).1 (inl h)

  pub z_with_pairs : (p : Block) → Has (set_z w) p → Has (set_z_with_pairs w) p
  z_with_pairs p h = (has_append (set_z w) (paired w.pairs (set_a w)) p).1 (inl h)
