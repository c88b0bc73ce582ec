-- What a tree answers about a source: of the rows only those of one side can admit it.
use Rattle.std.proofs.Common.{◌≡◌, ◌↔◌, ◌⊎◌, ℕ, ◌+◌, ◌-◌, ◌*◌, ◌/◌, ◌^◌, ◌<◌, ◌≤◌, ◌&&◌, ◌||◌, not, Bool, true, false, cond, List, [], ◌∷◌, ◌++◌}
use Rattle.std.proofs.Common.{inl, inr, refl, sym, subst, ◌∙◌, arith}
use Rattle.std.proofs.lemmas.Bool.{cases_Bool, cases_lt}
use Rattle.std.proofs.lemmas.List.Folds.{list_any-append}
use Rattle.std.specs.List.{AllByRecursion, list_any}
use Rattle.std.proofs.Math.Nat.{div-mul-le_self, lt-div-mul-add}
use Rattle.urpf_base.specs.Address.{Covers, FirstBitsAgree, cleared}
use Rattle.urpf_base.specs.declared.kinds.Mode.{Mode}
use Rattle.urpf_base.proofs.Bits.{agree_from_cleared, cleared-agree, cleared-cleared}
use Rattle.cover_table.specs.Judging.{admits, covers, told}
use Rattle.cover_table.specs.Rows.{TableRow}
use Rattle.cover_table.specs.Tables.{is_empty_cell}
use Rattle.cover_table.specs.declared.nodes.Entry.{Entry}
use Rattle.cover_table.specs.declared.nodes.Node.{Node}
use Rattle.cover_table.specs.declared.tree.CellTree.{CellTree}
use Rattle.cover_table.specs.Trees.{Tree, Empty, Branch, Holds, IsAt, IsOrdered, IsReady, IsWithin, addr_of, block_for}
use Rattle.cover_table.specs.Trees.{entry_cell, no_place, own_rows, rows_of, size}
use Rattle.cover_table.proofs.Between.{all_rows, row_of}
use Rattle.cover_table.proofs.Blocks.{ends_before, same_bits, size_is, size_some, two_halves}
use Rattle.cover_table.proofs.Covering.{covers_is}
use Rattle.cover_table.proofs.Turning.{left_holds, right_holds}
use Rattle.cover_table.proofs.Writing.{by_node}

-- the bits that agree, as blocks
cleared_of : (w : ℕ) (e : Entry) (b : ℕ) → e.len ≤ w → cleared w e.len e.bits ≡ e.bits → e.bits ≤ b
    → b < e.bits + size w e.len → cleared w e.len e.bits ≡ cleared w e.len b
cleared_of w e b within zeros from below =
    let x : ℕ = cleared w e.len b in
    let other : Entry = record e { bits = x } in
    let is = size_is w e.len in
    let some = size_some w e.len in
    let zeros' : cleared w e.len x ≡ x = cleared-cleared w e.len b in
    let least : x ≤ b = low_of w e.len b in
    let most : b < x + size w e.len = high_of w e.len b in
    elim (cases_lt x e.bits) [
      | inl less ↦
          let ends : x + size w e.len ≤ e.bits = ends_before w other e within zeros' (omega arith) zeros less in
          absurd (omega arith)
      | inr more ↦
          zeros ∙ same_bits w e other refl within zeros zeros' more (omega arith)
    ]
  where
    low_of : (w len b : ℕ) → cleared w len b ≤ b
    low_of w len b = omega (arith, mul_low b (2 ^ (w - len)))
      where
        mul_low : (n m : ℕ) → n / m * m ≤ n
        mul_low n m = div-mul-le_self n m

    high_of : (w len b : ℕ) → b < cleared w len b + size w len
    high_of w len b =
        let is = size_is w len in
        let some = size_some w len in
        let pos : 0 < 2 ^ (w - len) = omega arith in
        let high : b < b / 2 ^ (w - len) * 2 ^ (w - len) + 2 ^ (w - len) = lt-div-mul-add pos in
        omega arith

interval_of : (w : ℕ) (e : Entry) (b : ℕ) → cleared w e.len e.bits ≡ e.bits
    → cleared w e.len e.bits ≡ cleared w e.len b → (e.bits ≤ b) × (b < e.bits + size w e.len)
interval_of w e b zeros same =
    let is = size_is w e.len in
    let some = size_some w e.len in
    let pos : 0 < 2 ^ (w - e.len) = omega arith in
    let high : b < b / 2 ^ (w - e.len) * 2 ^ (w - e.len) + 2 ^ (w - e.len) = lt-div-mul-add pos in
    let low : b / 2 ^ (w - e.len) * 2 ^ (w - e.len) ≤ b = div-mul-le_self b (2 ^ (w - e.len)) in
    let mine : e.bits ≡ b / 2 ^ (w - e.len) * 2 ^ (w - e.len) = sym zeros ∙ same in
    (omega arith, omega arith)

agree_iff : (w : ℕ) (e : Entry) (b : ℕ) → e.len ≤ w → cleared w e.len e.bits ≡ e.bits → e.bits < 2 ^ w → b < 2 ^ w
    → FirstBitsAgree w e.len e.bits b ↔ ((e.bits ≤ b) × (b < e.bits + size w e.len))
agree_iff w e b within zeros small small' = (
  λ agree. interval_of w e b zeros (cleared-agree w e.len e.bits b within small small' agree),
  λ both. agree_from_cleared w e.len e.bits b within (cleared_of w e b within zeros both.0 both.1),
)

-- a prefix covers an address where that is in its block
pub covers_iff : (w : ℕ) (e : Entry) (b : ℕ) → (w ≡ 32) ⊎ (w ≡ 128) → e.len ≤ w → cleared w e.len e.bits ≡ e.bits
    → e.bits < 2 ^ w → b < 2 ^ w
    → (covers (block_for w e) (addr_of w b) ≡ true) ↔ ((e.bits ≤ b) × (b < e.bits + size w e.len))
covers_iff w e b family within zeros small small' =
    let iff : FirstBitsAgree w e.len e.bits b ↔ ((e.bits ≤ b) × (b < e.bits + size w e.len)) =
    agree_iff w e b within zeros small small' in
    let is : (covers (block_for w e) (addr_of w b) ≡ true) ↔ Covers (block_for w e) (addr_of w b) =
    covers_is (block_for w e) (addr_of w b) in
    let same : Covers (block_for w e) (addr_of w b) ≡ FirstBitsAgree w e.len e.bits b = covers_by w e b family in (
      λ yes. iff.0 (subst (λ (A : Type 0). A) same (is.0 yes)),
      λ both. is.1 (subst (λ (A : Type 0). A) (sym same) (iff.1 both)),
    )
  where
    covers_by : (w : ℕ) (e : Entry) (b : ℕ) → (w ≡ 32) ⊎ (w ≡ 128)
        → ◌≡◌ {A = Type 0} (Covers (block_for w e) (addr_of w b)) (FirstBitsAgree w e.len e.bits b)
    covers_by w e b (inl short) =
        subst (λ v. ◌≡◌ {A = Type 0} (Covers (block_for v e) (addr_of v b)) (FirstBitsAgree v e.len e.bits b)) (sym short) refl
    covers_by w e b (inr long) =
        subst (λ v. ◌≡◌ {A = Type 0} (Covers (block_for v e) (addr_of v b)) (FirstBitsAgree v e.len e.bits b)) (sym long) refl

pub and_false : (a b : Bool) → b ≡ false → (a && b) ≡ false
and_false true b is = is
and_false false b is = refl

pub or_false : (a b : Bool) → a ≡ false → (a || b) ≡ b
or_false true b is = absurd cc
or_false false b is = refl

or_true : (a b : Bool) → a ≡ true → (a || b) ≡ true
or_true true b is = refl
or_true false b is = absurd cc

pub or_none : (a b : Bool) → b ≡ false → (a || b) ≡ a
or_none true b is = refl
or_none false b is = is

pub none_any : (f : TableRow → Bool) (rows : List TableRow) → AllByRecursion (λ row. f row ≡ false) rows
    → list_any f rows ≡ false
none_any f [] all = refl
none_any f (row ∷ rows) all = or_false (f row) (list_any f rows) all.0 ∙ none_any f rows all.1

module _ (mode : Mode) (iface w bits : ℕ) (family : (w ≡ 32) ⊎ (w ≡ 128)) (small : bits < 2 ^ w) where
  abbrev test : TableRow → Bool
  test = admits mode iface (addr_of w bits)

  -- a row of a block that the address is not in does not admit it
  not_covered : (e : Entry) → e.len ≤ w → cleared w e.len e.bits ≡ e.bits → e.bits + size w e.len ≤ 2 ^ w
      → ¬ ((e.bits ≤ bits) × (bits < e.bits + size w e.len)) → covers (block_for w e) (addr_of w bits) ≡ false
  not_covered e within zeros fits outside =
      let some = size_some w e.len in
      let iff = covers_iff w e bits family within zeros (omega arith) small in
      elim (cases_Bool (covers (block_for w e) (addr_of w bits))) [
        | inl is ↦ absurd (outside (iff.0 is))
        | inr isnt ↦ isnt
      ]

  pub none_in : (low d : ℕ) (tree : Tree) → IsOrdered w low d tree → low + size w d ≤ 2 ^ w
      → (bits < low) ⊎ (low + size w d ≤ bits) → list_any test (rows_of w tree) ≡ false
  none_in low d tree ordered fits outside =
      none_any test (rows_of w tree)
      (all_rows (λ row. test row ≡ false) w low d tree (λ e inner _.
      and_false (told mode iface (block_for w e) (entry_cell e)) (covers (block_for w e) (addr_of w bits))
      (not_covered e inner.within inner.zeros (omega (arith, inner.to)) (λ both. elim outside [
        | inl before ↦ absurd (omega (arith, inner.from, both.0))
        | inr past ↦ absurd (omega (arith, inner.to, both.1))
      ]))) ordered)

  own_any : (e : Entry) → e.len ≤ w → cleared w e.len e.bits ≡ e.bits → e.bits + size w e.len ≤ 2 ^ w
      → e.bits ≤ bits → bits < e.bits + size w e.len
      → list_any test (own_rows w e)
      ≡ (not (is_empty_cell (entry_cell e)) && told mode iface (block_for w e) (entry_cell e))
  own_any e within zeros fits from below =
      let some = size_some w e.len in
      let iff = covers_iff w e bits family within zeros (omega arith) small in
      let covered : covers (block_for w e) (addr_of w bits) ≡ true = iff.1 (from, below) in
      elim (is_empty_cell (entry_cell e))
      as (λ b. list_any test (cond b [] (row_of w e ∷ [])) ≡ (not b && told mode iface (block_for w e) (entry_cell e))) [
        | true ↦ refl
        | false ↦ by (told mode iface (block_for w e) (entry_cell e)) (covers (block_for w e) (addr_of w bits)) covered
      ]
    where
      by : (t c : Bool) → c ≡ true → ((t && c) || false) ≡ t
      by true true is = refl
      by false true is = refl
      by t false is = absurd cc

  module _ (old : CellTree) (low d at : ℕ) (node : Node) (here : IsAt old.nodes.items at node)
      (some : ¬ (at ≡ no_place)) (ready : IsReady old w at low d) (fits : low + size w d ≤ 2 ^ w) where
    -- the node does not cover the address, and so nothing below it does
    pub look_none : ¬ ((node.entry.bits ≤ bits) × (bits < node.entry.bits + size w node.entry.len))
        → false ≡ list_any test (rows_of w ready.tree)
    look_none outside =
        by_node (λ tree. IsOrdered w low d tree → false ≡ list_any test (rows_of w tree)) old at ready.tree
        ready.holds.stands node here some (λ place left right ordered.
        let inner : IsWithin w low d node.entry = ordered.0 in
        let own : IsWithin w node.entry.bits node.entry.len node.entry = record {
          deeper = omega arith;
          within = inner.within;
          from = omega arith;
          to = omega arith;
          zeros = inner.zeros;
        } in
        sym (none_in node.entry.bits node.entry.len (Branch place node left right) (own, ordered.1, ordered.2)
        (omega (arith, inner.to)) (elim (cases_lt bits node.entry.bits) [
          | inl before ↦ inl before
          | inr from ↦ elim (cases_lt bits (node.entry.bits + size w node.entry.len)) [
            | inl below ↦ absurd (outside (from, below))
            | inr past ↦ inr past
          ]
        ]))) ready.ordered

    module _ (from : node.entry.bits ≤ bits) (below : bits < node.entry.bits + size w node.entry.len) where
      abbrev own_told : Bool
      own_told = not (is_empty_cell (entry_cell node.entry)) && told mode iface (block_for w node.entry) (entry_cell node.entry)

      pub look_here : own_told ≡ true → true ≡ list_any test (rows_of w ready.tree)
      look_here is =
          by_node (λ tree. IsOrdered w low d tree → true ≡ list_any test (rows_of w tree)) old at ready.tree
          ready.holds.stands node here some (λ place left right ordered.
          let inner : IsWithin w low d node.entry = ordered.0 in
          sym (list_any-append test (own_rows w node.entry) (rows_of w left ++ rows_of w right)
          ∙ or_true (list_any test (own_rows w node.entry)) (list_any test (rows_of w left ++ rows_of w right))
          (own_any node.entry inner.within inner.zeros (omega (arith, inner.to)) from below ∙ is))) ready.ordered

      module _ (untold : own_told ≡ false) where
        -- neither the node nor the higher side
        pub look_left : bits < node.entry.bits + size w (node.entry.len + 1) → node.entry.len < w → (r : Bool)
            → ((low' : ℕ) → low' + size w (node.entry.len + 1) ≤ 2 ^ w
            → (own : IsReady old w node.left low' (node.entry.len + 1)) → r ≡ list_any test (rows_of w own.tree))
            → r ≡ list_any test (rows_of w ready.tree)
        look_left less more r call =
            by_node (λ tree. Holds old at tree ready.free → IsOrdered w low d tree → r ≡ list_any test (rows_of w tree)) old at
            ready.tree ready.holds.stands node here some (λ place left right h ordered.
            let inner : IsWithin w low d node.entry = ordered.0 in
            let halves = two_halves w node.entry.len more in
            call node.entry.bits (omega (arith, inner.to)) (record {
              tree = left;
              free = ready.free;
              holds = left_holds old at place node left right ready.free h;
              ordered = ordered.1;
            })
            ∙ sym (list_any-append test (own_rows w node.entry) (rows_of w left ++ rows_of w right)
            ∙ or_false (list_any test (own_rows w node.entry)) (list_any test (rows_of w left ++ rows_of w right))
            (own_any node.entry inner.within inner.zeros (omega (arith, inner.to)) from below ∙ untold)
            ∙ list_any-append test (rows_of w left) (rows_of w right)
            ∙ or_none (list_any test (rows_of w left)) (list_any test (rows_of w right))
            (none_in (node.entry.bits + size w (node.entry.len + 1)) (node.entry.len + 1) right ordered.2
            (omega (arith, inner.to)) (inl less)))) ready.holds ready.ordered

        -- neither the node nor the lower side
        pub look_right : node.entry.bits + size w (node.entry.len + 1) ≤ bits → node.entry.len < w → (r : Bool)
            → ((low' : ℕ) → low' + size w (node.entry.len + 1) ≤ 2 ^ w
            → (own : IsReady old w node.right low' (node.entry.len + 1)) → r ≡ list_any test (rows_of w own.tree))
            → r ≡ list_any test (rows_of w ready.tree)
        look_right past more r call =
            by_node (λ tree. Holds old at tree ready.free → IsOrdered w low d tree → r ≡ list_any test (rows_of w tree)) old at
            ready.tree ready.holds.stands node here some (λ place left right h ordered.
            let inner : IsWithin w low d node.entry = ordered.0 in
            let halves = two_halves w node.entry.len more in
            call (node.entry.bits + size w (node.entry.len + 1)) (omega (arith, inner.to)) (record {
              tree = right;
              free = ready.free;
              holds = right_holds old at place node left right ready.free h;
              ordered = ordered.2;
            })
            ∙ sym (list_any-append test (own_rows w node.entry) (rows_of w left ++ rows_of w right)
            ∙ or_false (list_any test (own_rows w node.entry)) (list_any test (rows_of w left ++ rows_of w right))
            (own_any node.entry inner.within inner.zeros (omega (arith, inner.to)) from below ∙ untold)
            ∙ list_any-append test (rows_of w left) (rows_of w right)
            ∙ or_false (list_any test (rows_of w left)) (list_any test (rows_of w right))
            (none_in node.entry.bits (node.entry.len + 1) left ordered.1 (omega (arith, inner.to)) (inr past))))
            ready.holds ready.ordered

        -- a prefix of all bits has nothing below it
        pub look_last : node.entry.len ≡ w → false ≡ list_any test (rows_of w ready.tree)
        look_last all =
            by_node (λ tree. IsOrdered w low d tree → false ≡ list_any test (rows_of w tree)) old at
            ready.tree ready.holds.stands node here some (λ place left right ordered.
            let inner : IsWithin w low d node.entry = ordered.0 in
            sym (list_any-append test (own_rows w node.entry) (rows_of w left ++ rows_of w right)
            ∙ or_false (list_any test (own_rows w node.entry)) (list_any test (rows_of w left ++ rows_of w right))
            (own_any node.entry inner.within inner.zeros (omega (arith, inner.to)) from below ∙ untold)
            ∙ list_any-append test (rows_of w left) (rows_of w right)
            ∙ or_false (list_any test (rows_of w left)) (list_any test (rows_of w right))
            (nothing node.entry.bits (node.entry.len + 1) left (omega arith) ordered.1)
            ∙ nothing (node.entry.bits + size w (node.entry.len + 1)) (node.entry.len + 1) right (omega arith) ordered.2))
            ready.ordered
          where
            nothing : (low d : ℕ) (tree : Tree) → w < d → IsOrdered w low d tree → list_any test (rows_of w tree) ≡ false
            nothing low d Empty past ordered = refl
            nothing low d (Branch place other left right) past ordered =
                absurd (omega (arith, ordered.0.deeper, ordered.0.within))

pub few_bits : (w : ℕ) → (w ≡ 32) ⊎ (w ≡ 128) → w ≤ 128
few_bits w (inl short) = omega arith
few_bits w (inr long) = omega arith
