-- How often the rows of a session stand in lists of rows, as its routes change.
use Rattle.std.proofs.Common.{◌≡◌, ℕ, ◌+◌, ◌≤◌, Bool, true, false, cond, List, [], ◌∷◌, ◌++◌, map, Option, Some, None}
use Rattle.std.proofs.Common.{refl, sym, ap, subst, ◌∙◌, inl, inr, arith, zero-add}
use Rattle.std.specs.Ordering.{is_eq, ordering_then}
use Rattle.std.specs.declared.cmp.Ordering.{Ordering}
use Rattle.std.specs.declared.cmp.Ordering.TheVariants.{Less, Equal, Greater}
use Rattle.std.specs.FinMap.{find, get-entries}
use Rattle.std.specs.Cmp.{tied_itself}
use Rattle.std.proofs.lemmas.Bool.{cases_Bool}
use Rattle.urpf_base.specs.Address.{Block}
use Rattle.urpf_base.specs.Lists.{AreDistinct, Has}
use Rattle.urpf_base.specs.Order.{prefix_order}
use Rattle.prefix_map.proofs.Order.{no_tie, prefix_total, same_or_not}
use Rattle.adj_rib.proofs.Routes.{is_distinct}
use Rattle.adj_rib.specs.Routes.{ChangesAt, Routes, pairs_of, routes_at}
use Rattle.rpf_plain.proofs.Orders.{same_from_tie, tie}
use Rattle.rpf_plain.specs.Rows.{repeats, row_of, row_order}
use Rattle.rpf_plain.specs.declared.rows.Row.{Row}
use Rattle.control_core.specs.EngineRows.{rows_at, rows_of, session_rows}
use Rattle.control_core.proofs.RowLengths.{hit}

-- how often a row stands among those of one route to its prefix
abbrev pub route_count : ℕ → Option (Option ℕ) → Row → ℕ
route_count iface None row = 0
route_count iface (Some origin) row = hit (row_of iface row.prefix origin) row

pub repeats-append : (a b : List Row) (row : Row) → repeats (a ++ b) row ≡ repeats a row + repeats b row
repeats-append [] b row = sym (zero-add (repeats b row))
repeats-append (r ∷ a) b row = omega (arith, repeats-append a b row)

not_equal : (o later : Ordering) → is_eq o ≡ false → is_eq (ordering_then o later) ≡ false
not_equal Less later e = refl
not_equal Equal later e = let clash : true ≡ false = e in cc
not_equal Greater later e = refl

-- rows of another prefix are other rows
other_row : (iface : ℕ) (p : Block) (origin : Option ℕ) (row : Row) → ¬ (row.prefix ≡ p)
    → is_eq (row_order (row_of iface p origin) row) ≡ false
other_row iface p origin row other = not_equal (prefix_order p row.prefix) _ (no_tie p row.prefix other)

-- no route of the list is to the prefix of the row
none_there : (iface : ℕ) (pairs : List (Block × Option ℕ)) (row : Row)
    → (Has (map (λ pair. pair.0) pairs) row.prefix → ⊥) → repeats (rows_of iface pairs) row ≡ 0
none_there iface [] row never = refl
none_there iface (pair ∷ pairs) row never =
    let head : hit (row_of iface pair.0 pair.1) row ≡ 0 =
    ap (λ (b : Bool). cond b 1 0) (other_row iface pair.0 pair.1 row (λ same. never (inl same))) in
    let later : repeats (rows_of iface pairs) row ≡ 0 = none_there iface pairs row (λ has. never (inr has)) in
    omega (arith, head, later)

-- of each prefix there is one route at most
count_list : (iface : ℕ) (pairs : List (Block × Option ℕ)) (row : Row) → AreDistinct (map (λ pair. pair.0) pairs)
    → repeats (rows_of iface pairs) row ≡ route_count iface (find prefix_order row.prefix pairs) row
count_list iface [] row distinct = refl
count_list iface (pair ∷ pairs) row distinct =
    elim (same_or_not row.prefix pair.0) [
      | inl same ↦
          let found : find prefix_order row.prefix (pair ∷ pairs) ≡ Some pair.1 =
          ap (λ (o : Ordering). cond (is_eq o) (Some pair.1) (find prefix_order row.prefix pairs))
          (ap (prefix_order row.prefix) (sym same) ∙ tied_itself prefix_total row.prefix) in
          let none : repeats (rows_of iface pairs) row ≡ 0 = none_there iface pairs row
          (λ there. distinct.0 (subst (Has (map (λ p. p.0) pairs)) same there)) in
          let head : repeats (rows_of iface (pair ∷ pairs)) row ≡ hit (row_of iface pair.0 pair.1) row
          = omega (arith, none) in
          head
          ∙ ap (λ (p : Block). hit (row_of iface p pair.1) row) (sym same)
          ∙ sym (ap (λ (o : Option (Option ℕ)). route_count iface o row) found)
      | inr other ↦
          let skipped : find prefix_order row.prefix (pair ∷ pairs) ≡ find prefix_order row.prefix pairs =
          ap (λ (b : Bool). cond b (Some pair.1) (find prefix_order row.prefix pairs))
          (no_tie row.prefix pair.0 (λ same. other (sym same))) in
          ap (λ (b : Bool). cond b 1 0 + repeats (rows_of iface pairs) row) (other_row iface pair.0 pair.1 row other)
          ∙ zero-add (repeats (rows_of iface pairs) row)
          ∙ count_list iface pairs row distinct.1
          ∙ sym (ap (λ (o : Option (Option ℕ)). route_count iface o row) skipped)
    ]

-- the row of a route is once among the rows of a session that has the route, and else never
pub count_session : (iface : ℕ) (routes : Routes) (row : Row)
    → repeats (session_rows iface routes) row ≡ route_count iface (routes_at routes row.prefix) row
count_session iface routes row =
    count_list iface (pairs_of routes) row (is_distinct routes)
    ∙ sym (ap (λ (o : Option (Option ℕ)). route_count iface o row) (get-entries routes row.prefix))

-- the rows of one prefix, for a row of that prefix and for another
count_here : (iface : ℕ) (origin : Option (Option ℕ)) (row : Row)
    → repeats (rows_at iface row.prefix origin) row ≡ route_count iface origin row
count_here iface None row = refl
count_here iface (Some origin) row = omega arith

count_elsewhere : (iface : ℕ) (p : Block) (origin : Option (Option ℕ)) (row : Row) → ¬ (row.prefix ≡ p)
    → repeats (rows_at iface p origin) row ≡ 0
count_elsewhere iface p None row other = refl
count_elsewhere iface p (Some origin) row other =
    ap (λ (b : Bool). cond b 1 0 + 0) (other_row iface p origin row other)

-- where the route to one prefix is changed, its old row goes and its new row comes
pub count_changed : (iface : ℕ) (p : Block) (value : Option (Option ℕ)) (old new : Routes) (row : Row)
    → ChangesAt p value old new
    → repeats (session_rows iface new) row + repeats (rows_at iface p (routes_at old p)) row
    ≡ repeats (session_rows iface old) row + repeats (rows_at iface p value) row
count_changed iface p value old new row change =
    elim (same_or_not row.prefix p) [
      | inl same ↦
          let before : repeats (rows_at iface p (routes_at old p)) row ≡ repeats (session_rows iface old) row =
          ap (λ (q : Block). repeats (rows_at iface q (routes_at old q)) row) (sym same)
          ∙ count_here iface (routes_at old row.prefix) row ∙ sym (count_session iface old row) in
          let after : repeats (rows_at iface p value) row ≡ repeats (session_rows iface new) row =
          ap (λ (q : Block). repeats (rows_at iface q value) row) (sym same) ∙ count_here iface value row
          ∙ sym (ap (λ (o : Option (Option ℕ)). route_count iface o row)
          (ap (routes_at new) same ∙ change.here)) ∙ sym (count_session iface new row) in
          omega (arith, before, after)
      | inr other ↦
          let before = count_elsewhere iface p (routes_at old p) row other in
          let after = count_elsewhere iface p value row other in
          let kept : repeats (session_rows iface new) row ≡ repeats (session_rows iface old) row =
          count_session iface new row
          ∙ ap (λ (o : Option (Option ℕ)). route_count iface o row) (change.others row.prefix other)
          ∙ sym (count_session iface old row) in
          omega (arith, before, after, kept)
    ]

pub row_ties_itself : (row : Row) → hit row row ≡ 1
row_ties_itself row = ap (λ (b : Bool). cond b 1 0) (tie row)

-- a row that stands there once or more is there
pub row_there : (rows : List Row) (row : Row) → 1 ≤ repeats rows row → Has rows row
row_there [] row some = absurd (omega (arith, some))
row_there (r ∷ rows) row some =
    elim (cases_Bool (is_eq (row_order r row))) [
      | inl same ↦ inl (sym (same_from_tie r row same))
      | inr other ↦
          let head : hit r row ≡ 0 = ap (λ (b : Bool). cond b 1 0) other in
          inr (row_there rows row (omega (arith, head, some)))
    ]
