-- A world has a cell for each prefix, and a table of them.
use Rattle.std.proofs.Common.{◌≡◌, ◌⊎◌, inl, inr, ℕ, true, ◌==◌, ◌&&◌, List, [], ◌∷◌, ◌++◌, map}
use Rattle.std.proofs.Common.{Some, None, refl, sym, ap, subst, ◌∙◌}
use Rattle.std.specs.FinMap.{empty, get, insert}
use Rattle.std.proofs.lemmas.Bool.{and_from, and_parts, cases_Bool, eqb-true}
use Rattle.urpf_base.specs.Address.{Block}
use Rattle.urpf_base.specs.Lists.{Has}
use Rattle.urpf_base.specs.declared.cells.Cell.{Cell}
use Rattle.prefix_map.specs.Mapped.{Mapped}
use Rattle.prefix_map.proofs.Held.{none_held, set_here, set_others}
use Rattle.prefix_map.proofs.Order.{same_or_not}
use Rattle.rpf_plain.specs.declared.rows.Row.{Row}
use Rattle.rpf_plain.specs.Cells.{IsCell, IsTable, cell_at, empty_cell}
use Rattle.rpf_plain.specs.Sets.{feasible, has_as, has_prefix, is_origin, list_a, list_a_with_pairs}
use Rattle.rpf_plain.specs.Sets.{origins_of, paired, prefixes_of, received, rows_on, set_a, set_p, set_q, set_x, set_z}
use Rattle.rpf_plain.specs.Sets.{set_z_with_pairs}
use Rattle.origin_pairs.specs.Pairs.{Pair}
use Rattle.rpf_plain.specs.World.{World, is_customer}
use Rattle.rpf_plain.proofs.Changed.{same_or_other}
use Rattle.rpf_plain.proofs.Drained.{one_cell}
use Rattle.rpf_plain.proofs.Masks.{mask_of}
use Rattle.rpf_plain.proofs.Members.{any_by, from_picked, has_append, has_prefix_by, in_union, named, picked, the_row}
use Rattle.rpf_plain.proofs.Tables.{here, nothing, others}
use Rattle.rpf_plain.proofs.Turns.{no_member}

abbrev ifaces_of : List Row → List ℕ
ifaces_of rows = map (λ row. row.iface) rows

an_iface : (rows : List Row) (r : Row) → Has rows r → Has (ifaces_of rows) r.iface
an_iface [] r none = absurd none
an_iface (q ∷ rows) r (inl same) = inl (ap (λ x. x.iface) same)
an_iface (q ∷ rows) r (inr later) = inr (an_iface rows r later)

-- the prefix of a pair
in_pairs : (pairs : List Pair) (ns : List ℕ) (p : Block) → Has (paired pairs ns) p → Has (map (λ pair. pair.0) pairs) p
in_pairs [] ns p h = h
in_pairs (pair ∷ pairs) ns p h =
    elim (cases_Bool (has_as ns pair.1)) [
      | inl e ↦ elim (rw e at h) [ inl same ↦ inl same | inr later ↦ inr (in_pairs pairs ns p later) ]
      | inr e ↦ inr (in_pairs pairs ns p (rw e at h))
    ]

-- pairs add nothing where there are no origins
some_origin : (pairs : List Pair) (ns : List ℕ) (p : Block) → Has (paired pairs ns) p → (n : ℕ) × Has ns n
some_origin [] ns p h = absurd h
some_origin (pair ∷ pairs) [] p h = some_origin pairs [] p h
some_origin (pair ∷ pairs) (n ∷ ns) p h = (n, inl refl)

module _ (w : World) where
  iface_by : (i : ℕ) (r : Row) → Has w.rows r → (r.iface == i) ≡ true → Has (ifaces_of w.rows) i
  iface_by i r has is = subst (Has (ifaces_of w.rows)) (eqb-true r.iface i is) (an_iface w.rows r has)

  -- an interface with a feasible prefix has a row
  by_feasible : (i : ℕ) (p : Block) → Has (feasible w i) p → Has (ifaces_of w.rows) i
  by_feasible i p h =
      let (r, has, is) =
      the_row (λ r. (r.prefix ≡ p) × ((r.iface == i) ≡ true)) w.rows ((picked (λ r. r.iface == i) w.rows p).0 h) in
      iface_by i r has is.1

  by_origin : (i n : ℕ) → Has (origins_of (rows_on w i)) n → Has (ifaces_of w.rows) i
  by_origin i n h =
      let (r, has, is) =
      the_row (λ r. (r.origin ≡ Some n) × ((r.iface == i) ≡ true)) w.rows ((named (λ r. r.iface == i) w.rows n).0 h) in
      iface_by i r has is.1

  -- and so has one with a list by Algorithm A
  by_list : (i : ℕ) (p : Block) → Has (list_a_with_pairs w i) p → Has (ifaces_of w.rows) i
  by_list i p h =
      elim ((has_append (list_a w i) (paired w.pairs (origins_of (rows_on w i))) p).0 h) [
        | inl left ↦
            let (n, of_a, is, there) = (in_union (set_x w) (received w i) (set_a w) p).0 left in
            let (q, of_x, heard) = (any_by (has_prefix (feasible w i)) (set_x w n)).0 is in
            by_feasible i q ((has_prefix_by (feasible w i) q).0 heard)
        | inr right ↦
            let (n, has) = some_origin w.pairs (origins_of (rows_on w i)) p right in
            by_origin i n has
      ]

  -- a world has a cell for a prefix
  pub some_cell : (p : Block) → (c : Cell) × IsCell w p c
  some_cell p =
      let (f, in_f) = mask_of (λ i. has_prefix (feasible w i) p) (ifaces_of w.rows) in
      let (a, in_a) =
      mask_of (λ i. is_customer w.roles i && has_prefix (list_a_with_pairs w i) p) (ifaces_of w.rows) in
      let c : Cell = record { f = f; a = a; z = has_prefix (set_z_with_pairs w) p } in (
        c,
        record {
          f = λ i. (
            λ h. (has_prefix_by (feasible w i) p).0 ((in_f i).0 h).1,
            λ h. (in_f i).1 (by_feasible i p h, (has_prefix_by (feasible w i) p).1 h),
          );
          a = λ i. (
            λ h.
                let parts = and_parts _ _ ((in_a i).0 h).1 in
                (parts.0, (has_prefix_by (list_a_with_pairs w i) p).0 parts.1),
            λ h. (in_a i).1
                (by_list i p h.1, and_from _ _ h.0 ((has_prefix_by (list_a_with_pairs w i) p).1 h.1)),
          );
          z = has_prefix_by (set_z_with_pairs w) p;
        },
      )

  -- the prefixes of the rows and of the pairs
  abbrev mentioned : List Block
  mentioned = prefixes_of w.rows ++ map (λ pair. pair.0) w.pairs

  of_row : (p : Block) → Has (prefixes_of w.rows) p → Has mentioned p
  of_row p h = (has_append (prefixes_of w.rows) (map (λ pair. pair.0) w.pairs) p).1 (inl h)

  of_pair : (ns : List ℕ) (p : Block) → Has (paired w.pairs ns) p → Has mentioned p
  of_pair ns p h =
      (has_append (prefixes_of w.rows) (map (λ pair. pair.0) w.pairs) p).1 (inr (in_pairs w.pairs ns p h))

  of_list : (i : ℕ) (p : Block) → Has (list_a_with_pairs w i) p → Has mentioned p
  of_list i p h =
      elim ((has_append (list_a w i) (paired w.pairs (origins_of (rows_on w i))) p).0 h) [
        | inl left ↦
            let (n, of_a, is, there) = (in_union (set_x w) (received w i) (set_a w) p).0 left in
            of_row p (from_picked (λ r. is_origin n r.origin) w.rows p there)
        | inr right ↦ of_pair (origins_of (rows_on w i)) p right
      ]

  of_z : (p : Block) → Has (set_z_with_pairs w) p → Has mentioned p
  of_z p h =
      elim ((has_append (set_z w) (paired w.pairs (set_a w)) p).0 h) [
        | inl left ↦ elim ((has_append (set_p w) (set_q w) p).0 left) [
          | inl of_p ↦ of_row p (from_picked (λ r. is_customer w.roles r.iface) w.rows p of_p)
          | inr of_q ↦ of_row p (from_picked _ w.rows p of_q)
        ]
        | inr right ↦ of_pair (set_a w) p right
      ]

  -- the cell of another prefix is empty
  none_mentioned : (p : Block) → ¬ Has mentioned p → IsCell w p empty_cell
  none_mentioned p none = record {
    f = λ i. (
      λ h. absurd (no_member i h),
      λ h. absurd (none (of_row p (from_picked (λ r. r.iface == i) w.rows p h))),
    );
    a = λ i. (λ h. absurd (no_member i h), λ h. absurd (none (of_list i p h.1)));
    z = (λ h. absurd cc, λ h. absurd (none (of_z p h)));
  }

-- the table has the cell of each prefix of a list, or the empty one, and holds none that is empty
record HasCells (cells : Block → Cell) (ps : List Block) (m : Mapped Cell) : Type 0 where
  at : (p : Block) → Has ps p ⊎ (cells p ≡ empty_cell) → cell_at m p ≡ cells p
  filled : (p : Block) → ¬ (get m p ≡ Some empty_cell)

table_over : (cells : Block → Cell) (ps : List Block) → (m : Mapped Cell) × HasCells cells ps m
table_over cells [] =
    let start : Mapped Cell = empty in (
      start,
      record {
        at = λ p told. nothing start p refl ∙ elim told [ inl none ↦ absurd none | inr e ↦ sym e ];
        filled = λ p there. let none : get start p ≡ None = none_held start p refl in absurd cc;
      },
    )
table_over cells (q ∷ ps) =
    let (m, has) = table_over cells ps in
    elim (same_or_other (cells q) empty_cell) [
      | inl e ↦ (
        m,
        record {
          at = λ p told. has.at p (elim told [
            | inl listed ↦ elim listed [
              | inl same ↦ inr (ap cells same ∙ e)
              | inr later ↦ inl later
            ]
            | inr none ↦ inr none
          ]);
          filled = has.filled;
        },
      )
      | inr some ↦
          let n : Mapped Cell = insert m q (cells q) in (
            n,
            record {
              at = λ p told. elim (same_or_not q p) [
                | inl same ↦ here m n q (cells q) refl p same ∙ ap cells same
                | inr other ↦ others m n q (cells q) refl p other ∙ has.at p (elim told [
                  | inl listed ↦ elim listed [ inl same ↦ absurd (other (sym same)) | inr later ↦ inl later ]
                  | inr none ↦ inr none
                ])
              ];
              filled = λ p there. elim (same_or_not q p) [
                | inl same ↦
                    let new : get n p ≡ Some (cells q) =
                    subst (λ z. get n z ≡ Some (cells q)) same (set_here m n q (cells q) refl) in
                    some (let both : Some (cells q) ≡ Some empty_cell = sym new ∙ there in cc)
                | inr other ↦
                    has.filled p (sym (set_others m n q (cells q) refl p (λ e. other (sym e))) ∙ there)
              ];
            },
          )
    ]

-- a world has a table of its cells
pub some_table : (w : World) → (m : Mapped Cell) × IsTable w m
some_table w =
    let cells : Block → Cell = λ p. (some_cell w p).0 in
    let (m, has) = table_over cells (mentioned w) in (
      m,
      record {
        cells = λ p. subst (IsCell w p)
            (sym (has.at p (elim (cases_Bool (has_prefix (mentioned w) p)) [
              | inl e ↦ inl ((has_prefix_by (mentioned w) p).0 e)
              | inr e ↦ inr (one_cell w p (cells p) empty_cell (some_cell w p).1
                  (none_mentioned w p (λ h.
                  let there : has_prefix (mentioned w) p ≡ true = (has_prefix_by (mentioned w) p).1 h in cc)))
            ]))) (some_cell w p).1;
        filled = has.filled;
      },
    )
