-- What walks over the rows find is what the source sets have.
use Rattle.std.proofs.Common.{◌≡◌, ◌⊎◌, ◌↔◌, inl, inr, ℕ, zero, suc, Bool, true, IsTrue, ◌==◌, ◌&&◌, not, List, []}
use Rattle.std.proofs.Common.{◌∷◌, ◌++◌}
use Rattle.std.proofs.Common.{Some, refl, sym, ap, subst}
use Rattle.std.specs.BTreeMap.{BTreeMap}
use Rattle.std.proofs.lemmas.Bool.{cases_Bool, and_from, and_parts, eqb-true, eq-eqb}
use Rattle.urpf_base.specs.Address.{Block}
use Rattle.urpf_base.specs.Lists.{Has}
use Rattle.urpf_base.specs.Masks.{InMask}
use Rattle.urpf_base.specs.declared.cells.Cell.{Cell}
use Rattle.origin_pairs.specs.Pairs.{Pair}
use Rattle.prefix_map.specs.Mapped.{Mapped}
use Rattle.rpf_plain.specs.declared.origins.Reach.{Reach}
use Rattle.rpf_plain.specs.declared.rows.Row.{Row}
use Rattle.rpf_plain.specs.Cells.{IsCell, IsTable, cell_at}
use Rattle.rpf_plain.specs.Kept.{again, all_rows, each_row}
use Rattle.rpf_plain.specs.Sets.{feasible, has_origin, has_prefix, is_origin, list_a, list_a_with_pairs, received}
use Rattle.rpf_plain.specs.Sets.{origins_of, paired, rows_on, set_a, set_p, set_q, set_x, set_z, set_z_with_pairs}
use Rattle.rpf_plain.specs.Walks.{AreCells, AreReaches, HavePairsToo, Hears, InListA, InListWithPairs, InSetA, InSetZ}
use Rattle.rpf_plain.specs.Walks.{InSetZWithPairs, IsAdmitted, IsCustomers, IsForSetZ, IsHeard, IsListed, IsOwn}
use Rattle.rpf_plain.specs.Walks.{IsPairListed, IsReached, Owns, Reaches, SomeRow}
use Rattle.rpf_plain.specs.World.{Roles, World, is_customer}
use Rattle.rpf_plain.proofs.Members.{any_by, has_append, has_origin_by, has_prefix_by, in_union, is_origin_by, named}
use Rattle.rpf_plain.proofs.Members.{picked}
use Rattle.rpf_plain.proofs.Members.{some_by, some_row, the_row}
use Rattle.rpf_plain.proofs.Paired.{by_pairs, given, given_to_z, pair_by, some_pair, the_pair}
use Rattle.rpf_plain.proofs.Turns.{both, sides}

some_append : (P : Row → Type 0) (xs ys : List Row) → (SomeRow P (xs ++ ys) ↔ (SomeRow P xs ⊎ SomeRow P ys))
some_append P [] ys = (λ h. inr h, λ h. elim h [ inl none ↦ absurd none | inr there ↦ there ])
some_append P (x ∷ xs) ys =
    let more = some_append P xs ys in (
      λ h. elim h [
        | inl here ↦ inl (inl here)
        | inr later ↦ elim (more.0 later) [ inl left ↦ inl (inr left) | inr right ↦ inr right ]
      ],
      λ h. elim h [
        | inl left ↦ elim left [ inl here ↦ inl here | inr later ↦ inr (more.1 (inl later)) ]
        | inr right ↦ inr (more.1 (inr right))
      ],
    )

some_again : (P : Row → Type 0) (n : ℕ) (r : Row) → (SomeRow P (again n r) ↔ P r)
some_again P zero r = (λ h. elim h [ inl here ↦ here | inr none ↦ absurd none ], λ h. inl h)
some_again P (suc n) r =
    let more = some_again P n r in (λ h. elim h [ inl here ↦ here | inr later ↦ more.0 later ], λ h. inl h)

-- repeats do not count
pub some_of : (P : Row → Type 0) (es : List (Row × ℕ)) → (SomeRow P (all_rows es) ↔ SomeRow P (each_row es))
some_of P [] = (λ h. h, λ h. h)
some_of P (e ∷ es) =
    let more = some_of P es in
    let one = some_again P e.1 e.0 in
    let parts = some_append P (again e.1 e.0) (all_rows es) in (
      λ h. elim (parts.0 h) [ inl here ↦ inl (one.0 here) | inr later ↦ inr (more.0 later) ],
      λ h. parts.1 (elim h [ inl here ↦ inl (one.1 here) | inr later ↦ inr (more.1 later) ]),
    )

-- the same by other words
pub by_words : (P Q : Row → Type 0) → ((r : Row) → (P r ↔ Q r)) → (es : List (Row × ℕ))
    → (SomeRow P (all_rows es) ↔ SomeRow Q (each_row es))
by_words P Q words es = (
  λ h. some_by P Q (λ r. (words r).0) (each_row es) ((some_of P es).0 h),
  λ h. (some_of P es).1 (some_by Q P (λ r. (words r).1) (each_row es) h),
)

module _ (es : List (Row × ℕ)) (roles : Roles) (pairs : List Pair) where
  abbrev w : World
  w = record { rows = all_rows es; roles = roles; pairs = pairs }

  pub in_feasible : (i : ℕ) (p : Block) → (Has (feasible w i) p ↔ Hears (each_row es) i p)
  in_feasible i p =
      both (picked (λ r. r.iface == i) (all_rows es) p)
      (by_words (λ r. (r.prefix ≡ p) × ((r.iface == i) ≡ true)) (IsHeard i p)
      (λ r. (λ h. (h.0, eqb-true r.iface i h.1), λ h. (h.0, eq-eqb r.iface i h.1))) es)

  in_x : (a : ℕ) (p : Block)
      → (Has (set_x w a) p ↔ SomeRow (λ r. (r.prefix ≡ p) × (r.origin ≡ Some a)) (each_row es))
  in_x a p =
      both (picked (λ r. is_origin a r.origin) (all_rows es) p)
      (by_words (λ r. (r.prefix ≡ p) × (is_origin a r.origin ≡ true)) (λ r. (r.prefix ≡ p) × (r.origin ≡ Some a))
      (λ r. (λ h. (h.0, (is_origin_by a r.origin).0 h.1), λ h. (h.0, (is_origin_by a r.origin).1 h.1))) es)

  pub is_received : (i a : ℕ) → (received w i a ≡ true ↔ Reaches (each_row es) a i)
  is_received i a =
      let Of : Block → Row → Type 0 = λ p r. (r.prefix ≡ p) × (r.origin ≡ Some a) in
      let told = any_by (has_prefix (feasible w i)) (set_x w a) in (
        λ h.
            let (p, in_list, is) = told.0 h in
            let heard = (in_feasible i p).0 ((has_prefix_by (feasible w i) p).0 is) in
            some_by (Of p) (IsReached (each_row es) a i)
            (λ r here. (here.1, subst (Hears (each_row es) i) (sym here.0) heard)) (each_row es) ((in_x a p).0 in_list),
        λ h.
            let (r, has, is) = the_row (IsReached (each_row es) a i) (each_row es) h in
            told.1 (
              r.prefix,
              (in_x a r.prefix).1 (some_row (Of r.prefix) (each_row es) r has (refl, is.0)),
              (has_prefix_by (feasible w i) r.prefix).1 ((in_feasible i r.prefix).1 is.1),
            ),
      )

  is_owned : (i a : ℕ) → (Has (origins_of (rows_on w i)) a ↔ Owns (each_row es) a i)
  is_owned i a =
      both (named (λ r. r.iface == i) (all_rows es) a)
      (by_words (λ r. (r.origin ≡ Some a) × ((r.iface == i) ≡ true)) (IsOwn a i)
      (λ r. (λ h. (h.0, eqb-true r.iface i h.1), λ h. (h.0, eq-eqb r.iface i h.1))) es)

  module _ (customers : ℕ) (are : (i : ℕ) → (InMask customers i ↔ IsTrue (is_customer roles i))) where
    pub in_a : (a : ℕ) → (Has (set_a w) a ↔ InSetA (each_row es) customers a)
    in_a a =
        both (named (λ r. is_customer roles r.iface) (all_rows es) a)
        (by_words (λ r. (r.origin ≡ Some a) × (is_customer roles r.iface ≡ true)) (IsCustomers customers a)
        (λ r. (λ h. (h.0, (are r.iface).1 h.1), λ h. (h.0, (are r.iface).0 h.1))) es)

    in_list_a : (i : ℕ) (p : Block)
        → ((IsTrue (is_customer roles i) × Has (list_a w i) p) ↔ InListA (each_row es) customers i p)
    in_list_a i p =
        let told = in_union (set_x w) (received w i) (set_a w) p in (
          λ h.
              let (a, of_a, is, there) = told.0 h.1 in
              some_by (λ r. (r.prefix ≡ p) × (r.origin ≡ Some a)) (IsListed (each_row es) customers i p)
              (λ r here. (here.0, ((are i).1 h.0, (a, here.1, (in_a a).0 of_a, (is_received i a).0 is)))) (each_row es)
              ((in_x a p).0 there),
          λ h.
              let (r, has, (here, (mine, (a, is, of_a, reached)))) =
              the_row (IsListed (each_row es) customers i p) (each_row es) h in (
                (are i).0 mine,
                told.1 (
                  a,
                  (in_a a).1 of_a,
                  (is_received i a).1 reached,
                  (in_x a p).1 (some_row (λ q. (q.prefix ≡ p) × (q.origin ≡ Some a)) (each_row es) r has (here, is)),
                ),
              ),
        )

    pub in_list : (i : ℕ) (p : Block)
        → ((IsTrue (is_customer roles i) × Has (list_a_with_pairs w i) p)
        ↔ InListWithPairs (each_row es) pairs customers i p)
    in_list i p =
        let origins = origins_of (rows_on w i) in
        let parts = has_append (list_a w i) (paired pairs origins) p in
        let told = by_pairs pairs origins (λ a. Owns (each_row es) a i) (is_owned i) p in
        let Of : Pair → Type 0 = λ pair. (pair.0 ≡ p) × Owns (each_row es) pair.1 i in
        let Is : Pair → Type 0 = IsPairListed (each_row es) customers i p in (
          λ h. elim (parts.0 h.1) [
            | inl left ↦ inl ((in_list_a i p).0 (h.0, left))
            | inr right ↦ inr (pair_by Of Is (λ pair is. (is.0, ((are i).1 h.0, is.1))) pairs (told.0 right))
          ],
          λ h. elim h [
            | inl left ↦ let is = (in_list_a i p).1 left in (is.0, parts.1 (inl is.1))
            | inr right ↦
                let (pair, has, (here, (mine, owns))) = the_pair Is pairs right in
                ((are i).0 mine, parts.1 (inr (told.1 (some_pair Of pairs pair has (here, owns)))))
          ],
        )

    in_p : (p : Block)
        → (Has (set_p w) p ↔ SomeRow (λ r. (r.prefix ≡ p) × (is_customer roles r.iface ≡ true)) (each_row es))
    in_p p = both (picked (λ r. is_customer roles r.iface) (all_rows es) p) (some_of _ es)

    abbrev for_q : Row → Bool
    for_q r = not (is_customer roles r.iface) && has_origin (set_a w) r.origin

    in_q : (p : Block) → (Has (set_q w) p ↔ SomeRow (λ r. (r.prefix ≡ p) × (for_q r ≡ true)) (each_row es))
    in_q p = both (picked for_q (all_rows es) p) (some_of _ es)

    admitted_by : (r : Row) → IsAdmitted (each_row es) customers r
        → (is_customer roles r.iface ≡ true) ⊎ (for_q r ≡ true)
    admitted_by r (inl mine) = inl ((are r.iface).0 mine)
    admitted_by r (inr (a, is, of_a)) =
        elim (cases_Bool (is_customer roles r.iface)) [
          | inl e ↦ inl e
          | inr e ↦ inr (and_from _ _ (ap not e) ((has_origin_by (set_a w) r.origin).1 (a, is, (in_a a).1 of_a)))
        ]

    in_set_z : (p : Block) → (Has (set_z w) p ↔ InSetZ (each_row es) customers p)
    in_set_z p =
        let halves = has_append (set_p w) (set_q w) p in
        let P : Row → Type 0 = λ r. (r.prefix ≡ p) × (is_customer roles r.iface ≡ true) in
        let Q : Row → Type 0 = λ r. (r.prefix ≡ p) × (for_q r ≡ true) in (
          λ h. elim (halves.0 h) [
            | inl left ↦ some_by P (IsForSetZ (each_row es) customers p)
                (λ r is. (is.0, inl ((are r.iface).1 is.1))) (each_row es) ((in_p p).0 left)
            | inr right ↦ some_by Q (IsForSetZ (each_row es) customers p)
                (λ r is.
                let (a, of, of_a) = (has_origin_by (set_a w) r.origin).0 (and_parts _ _ is.1).1 in
                (is.0, inr (a, of, (in_a a).0 of_a)))
                (each_row es) ((in_q p).0 right)
          ],
          λ h.
              let (r, has, (here, is)) = the_row (IsForSetZ (each_row es) customers p) (each_row es) h in
              halves.1 (elim (admitted_by r is) [
                | inl left ↦ inl ((in_p p).1 (some_row P (each_row es) r has (here, left)))
                | inr right ↦ inr ((in_q p).1 (some_row Q (each_row es) r has (here, right)))
              ]),
        )

    pub in_z : (p : Block) → (Has (set_z_with_pairs w) p ↔ InSetZWithPairs (each_row es) pairs customers p)
    in_z p =
        both (has_append (set_z w) (paired pairs (set_a w)) p)
        (sides (in_set_z p) (by_pairs pairs (set_a w) (InSetA (each_row es) customers) in_a p))

    -- a cell that has what walks over the rows and the pairs find
    pub is_cell : (p : Block) (c : Cell) → ((i : ℕ) → (InMask c.f i ↔ Hears (each_row es) i p))
        → ((i : ℕ) → (InMask c.a i ↔ InListWithPairs (each_row es) pairs customers i p))
        → (IsTrue c.z ↔ InSetZWithPairs (each_row es) pairs customers p) → IsCell w p c
    is_cell p c f a z = record {
      f = λ i. both (f i) (flipped (in_feasible i p));
      a = λ i. both (a i) (flipped (in_list i p));
      z = both z (flipped (in_z p));
    }
      where
        flipped : {A B : Type 0} → (A ↔ B) → (B ↔ A)
        flipped both_ways = (both_ways.1, both_ways.0)

    -- and a table of such cells
    pub is_table : (origins : BTreeMap ℕ Reach) (old new : Mapped Cell) → AreReaches (each_row es) customers origins
        → AreCells (each_row es) customers old → HavePairsToo pairs origins customers old new → IsTable w new
    is_table origins old new reaches told more =
        let rows = each_row es in
        record {
          cells = λ p. is_cell p (cell_at new p)
              (λ i. subst (λ m. InMask m i ↔ Hears rows i p) (sym (more.f p)) (told.f p i))
              (λ i. both (more.a p i) (sides (told.a p i) (given rows customers origins reaches pairs p i)))
              (both (more.z p) (sides (told.z p) (given_to_z rows customers origins reaches pairs p)));
          filled = more.filled told.filled;
        }
