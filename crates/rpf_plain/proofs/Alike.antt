-- The sets depend on which rows there are, and not on their order or on how often they are there.
use Rattle.std.proofs.Common.{◌≡◌, ◌↔◌, inl, inr, ℕ, Bool, true, ◌==◌, ◌&&◌, not, List, Some, sym}
use Rattle.std.proofs.Common.{subst, ◌<◌}
use Rattle.std.specs.List.{filter}
use Rattle.std.proofs.lemmas.Bool.{and_from, and_parts}
use Rattle.urpf_base.specs.Address.{Block}
use Rattle.urpf_base.specs.Lists.{Has}
use Rattle.urpf_base.specs.declared.cells.Cell.{Cell}
use Rattle.rpf_plain.specs.declared.rows.Row.{Row}
use Rattle.rpf_plain.specs.Cells.{IsCell}
use Rattle.rpf_plain.specs.Rows.{AreSameRows}
use Rattle.rpf_plain.specs.Sets.{feasible, has_origin, has_prefix, is_origin, list_a, list_a_with_pairs}
use Rattle.rpf_plain.specs.Sets.{origins_of, paired}
use Rattle.rpf_plain.specs.Sets.{prefixes_of, received, rows_on, set_a, set_p, set_q, set_x, set_z, set_z_with_pairs}
use Rattle.origin_pairs.specs.Pairs.{AreSamePairs, Pair}
use Rattle.rpf_plain.specs.World.{Roles, World, is_customer}
use Rattle.rpf_plain.proofs.Counted.{counted}
use Rattle.rpf_plain.proofs.Members.{any_by, has_append, has_origin_by, has_prefix_by, in_paired, in_union, named}
use Rattle.rpf_plain.proofs.Members.{picked, some_row}
use Rattle.rpf_plain.proofs.Members.{the_row}
use Rattle.rpf_plain.proofs.Repeats.{repeats-some}

abbrev pub world : Roles → List Pair → List Row → World
world roles pairs rows = record { rows = rows; roles = roles; pairs = pairs }

-- the rows of the one list stand in the other
abbrev pub AreIn : List Row → List Row → Type 0
AreIn a b = (r : Row) → Has a r → Has b r

-- the pairs of the one list stand in the other
abbrev pub ArePairsIn : List Pair → List Pair → Type 0
ArePairsIn pairs like = (pair : Pair) → Has pairs pair → Has like pair

module _ (a b : List Row) (within : AreIn a b) where
  by_prefix : (t u : Row → Bool) → ((r : Row) → t r ≡ true → u r ≡ true) → (p : Block)
      → Has (prefixes_of (filter t a)) p → Has (prefixes_of (filter u b)) p
  by_prefix t u more p h =
      let (r, has, (is, yes_r)) = the_row (λ r. (r.prefix ≡ p) × (t r ≡ true)) a ((picked t a p).0 h) in
      (picked u b p).1 (some_row (λ r. (r.prefix ≡ p) × (u r ≡ true)) b r (within r has) (is, more r yes_r))

  by_origin : (t : Row → Bool) (n : ℕ) → Has (origins_of (filter t a)) n → Has (origins_of (filter t b)) n
  by_origin t n h =
      let (r, has, is) = the_row (λ r. (r.origin ≡ Some n) × (t r ≡ true)) a ((named t a n).0 h) in
      (named t b n).1 (some_row (λ r. (r.origin ≡ Some n) × (t r ≡ true)) b r (within r has) is)

  module _ (roles : Roles) (pairs like : List Pair) (pairs_within : ArePairsIn pairs like) where
    abbrev v : World
    v = world roles pairs a

    abbrev w : World
    w = world roles like b

    more_paired : (ms ns : List ℕ) → ((n : ℕ) → Has ms n → Has ns n) → (p : Block) → Has (paired pairs ms) p
        → Has (paired like ns) p
    more_paired ms ns more p h =
        let (n, has, there) = (in_paired pairs ms p).0 h in
        (in_paired like ns p).1 (n, pairs_within (p, n) has, more n there)

    pub in_feasible : (i : ℕ) (p : Block) → Has (feasible v i) p → Has (feasible w i) p
    in_feasible i p = by_prefix (λ r. r.iface == i) (λ r. r.iface == i) (λ r h. h) p

    in_set_a : (n : ℕ) → Has (set_a v) n → Has (set_a w) n
    in_set_a n = by_origin (λ r. is_customer roles r.iface) n

    in_set_x : (n : ℕ) (p : Block) → Has (set_x v n) p → Has (set_x w n) p
    in_set_x n p = by_prefix (λ r. is_origin n r.origin) (λ r. is_origin n r.origin) (λ r h. h) p

    is_received : (i n : ℕ) → received v i n ≡ true → received w i n ≡ true
    is_received i n h =
        let (p, has, heard) = (any_by (has_prefix (feasible v i)) (set_x v n)).0 h in
        (any_by (has_prefix (feasible w i)) (set_x w n)).1 (
          p,
          in_set_x n p has,
          (has_prefix_by (feasible w i) p).1 (in_feasible i p ((has_prefix_by (feasible v i) p).0 heard)),
        )

    in_list_a : (i : ℕ) (p : Block) → Has (list_a v i) p → Has (list_a w i) p
    in_list_a i p h =
        let (n, of_a, is, there) = (in_union (set_x v) (received v i) (set_a v) p).0 h in
        (in_union (set_x w) (received w i) (set_a w) p).1 (n, in_set_a n of_a, is_received i n is, in_set_x n p there)

    pub in_list : (i : ℕ) (p : Block) → Has (list_a_with_pairs v i) p → Has (list_a_with_pairs w i) p
    in_list i p h =
        let ms = origins_of (rows_on v i) in
        let ns = origins_of (rows_on w i) in
        (has_append (list_a w i) (paired like ns) p).1
        (elim ((has_append (list_a v i) (paired pairs ms) p).0 h) [
          | inl left ↦ inl (in_list_a i p left)
          | inr right ↦ inr (more_paired ms ns (by_origin (λ r. r.iface == i)) p right)
        ])

    in_set_q : (p : Block) → Has (set_q v) p → Has (set_q w) p
    in_set_q p =
        by_prefix (λ r. not (is_customer roles r.iface) && has_origin (set_a v) r.origin)
        (λ r. not (is_customer roles r.iface) && has_origin (set_a w) r.origin)
        (λ r h.
        let parts = and_parts _ _ h in
        let (n, is, of_a) = (has_origin_by (set_a v) r.origin).0 parts.1 in
        and_from _ _ parts.0 ((has_origin_by (set_a w) r.origin).1 (n, is, in_set_a n of_a)))
        p

    in_set_z : (p : Block) → Has (set_z v) p → Has (set_z w) p
    in_set_z p h =
        (has_append (set_p w) (set_q w) p).1 (elim ((has_append (set_p v) (set_q v) p).0 h) [
          | inl left ↦ inl
              (by_prefix (λ r. is_customer roles r.iface) (λ r. is_customer roles r.iface) (λ r e. e) p left)
          | inr right ↦ inr (in_set_q p right)
        ])

    pub in_z : (p : Block) → Has (set_z_with_pairs v) p → Has (set_z_with_pairs w) p
    in_z p h =
        (has_append (set_z w) (paired like (set_a w)) p).1
        (elim ((has_append (set_z v) (paired pairs (set_a v)) p).0 h) [
          | inl left ↦ inl (in_set_z p left)
          | inr right ↦ inr (more_paired (set_a v) (set_a w) in_set_a p right)
        ])

-- a cell of the one world is one of the other
same_cell : (a b : List Row) (roles : Roles) (pairs like : List Pair) → AreIn a b → AreIn b a → AreSamePairs pairs like
    → (p : Block) (c : Cell) → IsCell (world roles pairs a) p c → IsCell (world roles like b) p c
same_cell a b roles pairs like to from same p c is =
    let there : ArePairsIn pairs like = λ q. (same q).0 in
    let back : ArePairsIn like pairs = λ q. (same q).1 in
    record {
      f = λ i. (
        λ h. in_feasible a b to roles pairs like there i p ((is.f i).0 h),
        λ h. (is.f i).1 (in_feasible b a from roles like pairs back i p h),
      );
      a = λ i. (
        λ h. let told = (is.a i).0 h in (told.0, in_list a b to roles pairs like there i p told.1),
        λ h. (is.a i).1 (h.0, in_list b a from roles like pairs back i p h.1),
      );
      z = (
        λ h. in_z a b to roles pairs like there p (is.z.0 h),
        λ h. is.z.1 (in_z b a from roles like pairs back p h),
      );
    }

-- the same at worlds of one kind
pub same_members : (v w : World) → ((row : Row) → Has v.rows row ↔ Has w.rows row) → v.roles ≡ w.roles
    → AreSamePairs v.pairs w.pairs → (p : Block) (c : Cell) → IsCell v p c → IsCell w p c
same_members v w same roles pairs p c is =
    same_cell v.rows w.rows w.roles v.pairs w.pairs (λ r. (same r).0) (λ r. (same r).1) pairs p c
    (subst (λ (x : World). IsCell x p c) (λ i. record { rows = v.rows; roles = roles i; pairs = v.pairs }) is)

same_in : (a b : List Row) → AreSameRows a b → AreIn a b
same_in a b same r h = counted b r (subst (λ n. 0 < n) (same r) (repeats-some a r h))

-- and so at worlds that have each row equally often
pub same_worlds : (v w : World) → AreSameRows v.rows w.rows → v.roles ≡ w.roles → AreSamePairs v.pairs w.pairs
    → (p : Block) (c : Cell) → IsCell v p c → IsCell w p c
same_worlds v w same =
    same_members v w (λ r. (same_in v.rows w.rows same r, same_in w.rows v.rows (λ q. sym (same q)) r))
