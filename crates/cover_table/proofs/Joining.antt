-- What a tree is after an entry is put above or beside it, and after one is put below it.
use Rattle.std.proofs.Common.{◌≡◌, ℕ, ◌+◌, ◌<◌, ◌≤◌, true, [], ◌++◌}
use Rattle.std.proofs.Common.{inl, inr, refl, sym, ap, subst, ◌∙◌, arith, get_or, set}
use Rattle.std.proofs.lemmas.List.{append-nil}
use Rattle.cover_table.specs.declared.nodes.Entry.{Entry}
use Rattle.cover_table.specs.declared.nodes.Node.{Node}
use Rattle.cover_table.specs.declared.tree.CellTree.{CellTree}
use Rattle.cover_table.specs.Rows.{rows_written}
use Rattle.cover_table.specs.Tables.{is_empty_cell}
use Rattle.cover_table.specs.Trees.{Tree, Branch, AreApart, Holds, IsAt, IsOrdered, IsReady, IsWithin, Results}
use Rattle.cover_table.specs.Trees.{addr_of, change_for, entry_cell, no_place, own_rows}
use Rattle.cover_table.specs.Trees.{rows_of, size}
use Rattle.cover_table.proofs.Between.{before_beside, behind_above, behind_beside, own_none, written_first, written_here}
use Rattle.cover_table.proofs.Between.{written_last, written_left, written_right}
use Rattle.cover_table.proofs.Blocks.{covered_within, into_lower, into_upper, same_bits, size_some, two_halves}
use Rattle.cover_table.proofs.Turning.{left_holds, right_holds}
use Rattle.cover_table.proofs.Relinking.{reentered, relinked_left, relinked_right}
use Rattle.cover_table.proofs.Writing.{by_node, reworded, top_left, top_right, unchanged}

-- a prefix is within its own block
self_within : (w low d : ℕ) (entry : Entry) → IsWithin w low d entry → IsWithin w entry.bits entry.len entry
self_within w low d entry inner = record {
  deeper = omega arith;
  within = inner.within;
  from = omega arith;
  to = omega arith;
  zeros = inner.zeros;
}

-- an entry above or beside a node that stands there
module _ (old : CellTree) (w low d at : ℕ) (entry : Entry) (node : Node) (here : IsAt old.nodes.items at node)
    (some : ¬ (at ≡ no_place)) (inner : IsWithin w low d entry) where
  -- with no cell it changes nothing
  pub beside_none : AreApart w node.entry entry → is_empty_cell (entry_cell entry) ≡ true → (ready : IsReady old w at low d)
      → Results old old w low d ready.tree ready.free at (rows_written (change_for w entry) (rows_of w ready.tree)) 2
  beside_none apart empty ready =
      by_node (λ tree. Holds old at tree ready.free → IsOrdered w low d tree
      → Results old old w low d tree ready.free at (rows_written (change_for w entry) (rows_of w tree)) 2)
      old at ready.tree ready.holds.stands node here some (λ place left right h ordered.
      let tree : Tree = Branch place node left right in
      let own : IsOrdered w node.entry.bits node.entry.len tree =
      (self_within w low d node.entry ordered.0, ordered.1, ordered.2) in
      unchanged old w low d tree ready.free at (rows_written (change_for w entry) (rows_of w tree)) 2 h ordered
      (elim apart [
        | inl below ↦
            sym (append-nil (rows_of w tree)) ∙ ap (λ t. rows_of w tree ++ t) (sym (own_none w entry empty))
            ∙ written_last w low d tree entry (before_beside w node.entry.bits node.entry.len tree entry own below)
        | inr above ↦
            let more = size_some w entry.len in
            ap (λ t. t ++ rows_of w tree) (sym (own_none w entry empty))
            ∙ written_first w low d tree entry
            (behind_beside w node.entry.bits node.entry.len tree entry own (omega arith))
      ]))
      ready.holds ready.ordered

  module _ (longer : entry.len < node.entry.len) (from : entry.bits ≤ node.entry.bits) where
    pub over_none : is_empty_cell (entry_cell entry) ≡ true → (ready : IsReady old w at low d)
        → Results old old w low d ready.tree ready.free at (rows_written (change_for w entry) (rows_of w ready.tree)) 2
    over_none empty ready =
        by_node (λ tree. Holds old at tree ready.free → IsOrdered w low d tree
        → Results old old w low d tree ready.free at (rows_written (change_for w entry) (rows_of w tree)) 2)
        old at ready.tree ready.holds.stands node here some (λ place left right h ordered.
        let tree : Tree = Branch place node left right in
        let own : IsOrdered w node.entry.bits node.entry.len tree =
        (self_within w low d node.entry ordered.0, ordered.1, ordered.2) in
        unchanged old w low d tree ready.free at (rows_written (change_for w entry) (rows_of w tree)) 2 h ordered
        (ap (λ t. t ++ rows_of w tree) (sym (own_none w entry empty))
        ∙ written_first w low d tree entry
        (behind_above w node.entry.bits node.entry.len tree entry own from longer)))
        ready.holds ready.ordered

    module _ (new : CellTree) (to : ℕ) (to_is : to ≡ old.free)
        (chain : (other : Node) → new.free ≡ (get_or old.nodes.items old.free other).left)
        (freed : new.freed + 1 ≡ old.freed) (ready : IsReady old w at low d) where
      pub over_left : new.nodes.items ≡ set old.nodes.items old.free (record { entry = entry; left = at; right = no_place })
          → node.entry.bits < entry.bits + size w (entry.len + 1)
          → Results old new w low d ready.tree ready.free to (rows_written (change_for w entry) (rows_of w ready.tree)) 2
      over_left nodes below =
          by_node (λ tree. Holds old at tree ready.free → IsOrdered w low d tree
          → Results old new w low d tree ready.free to (rows_written (change_for w entry) (rows_of w tree)) 2)
          old at ready.tree ready.holds.stands node here some (λ place left right h ordered.
          let tree : Tree = Branch place node left right in
          let more : entry.len < w = omega (arith, longer, ordered.0.within) in
          let halves = two_halves w entry.len more in
          let covered : IsWithin w entry.bits entry.len node.entry =
          covered_within w entry node.entry (omega arith) ordered.0.within inner.zeros ordered.0.zeros from (omega arith) in
          let half : IsWithin w entry.bits (entry.len + 1) node.entry =
          into_lower w entry.bits entry.len node.entry covered inner.zeros longer below in
          let own : IsOrdered w entry.bits (entry.len + 1) tree = (half, ordered.1, ordered.2) in
          reworded old new w low d tree ready.free to (own_rows w entry ++ (rows_of w tree ++ []))
          (rows_written (change_for w entry) (rows_of w tree)) 1 2
          (top_left old new w low d at (record { entry = entry; left = at; right = no_place }) to to_is nodes chain freed
          inner tree ready.free h refl refl own)
          (ap (λ t. own_rows w entry ++ t) (append-nil (rows_of w tree))
          ∙ written_first w low d tree entry
          (behind_above w entry.bits (entry.len + 1) tree entry own (omega arith) (omega arith))) (omega arith))
          ready.holds ready.ordered

      pub over_right : new.nodes.items ≡ set old.nodes.items old.free (record { entry = entry; left = no_place; right = at })
          → entry.bits + size w (entry.len + 1) ≤ node.entry.bits → node.entry.bits < entry.bits + size w entry.len
          → Results old new w low d ready.tree ready.free to (rows_written (change_for w entry) (rows_of w ready.tree)) 2
      over_right nodes above below =
          by_node (λ tree. Holds old at tree ready.free → IsOrdered w low d tree
          → Results old new w low d tree ready.free to (rows_written (change_for w entry) (rows_of w tree)) 2)
          old at ready.tree ready.holds.stands node here some (λ place left right h ordered.
          let tree : Tree = Branch place node left right in
          let covered : IsWithin w entry.bits entry.len node.entry =
          covered_within w entry node.entry (omega arith) ordered.0.within inner.zeros ordered.0.zeros from below in
          let half : IsWithin w (entry.bits + size w (entry.len + 1)) (entry.len + 1) node.entry =
          into_upper w entry.bits entry.len node.entry covered longer above in
          let own : IsOrdered w (entry.bits + size w (entry.len + 1)) (entry.len + 1) tree =
          (half, ordered.1, ordered.2) in
          reworded old new w low d tree ready.free to (own_rows w entry ++ ([] ++ rows_of w tree))
          (rows_written (change_for w entry) (rows_of w tree)) 1 2
          (top_right old new w low d at (record { entry = entry; left = no_place; right = at }) to to_is nodes chain freed
          inner tree ready.free h refl refl own)
          (written_first w low d tree entry
          (behind_above w (entry.bits + size w (entry.len + 1)) (entry.len + 1) tree entry own (omega arith) (omega arith)))
          (omega arith))
          ready.holds ready.ordered

-- a node that stands there, the tree below it, and an entry that is one of the prefixes below it
module _ (old : CellTree) (w low d at : ℕ) (node : Node) (here : IsAt old.nodes.items at node)
    (some : ¬ (at ≡ no_place)) (ready : IsReady old w at low d) where
  pub node_within : IsWithin w low d node.entry
  node_within =
      by_node (λ tree. IsOrdered w low d tree → IsWithin w low d node.entry) old at ready.tree ready.holds.stands node here
      some (λ place left right ordered. ordered.0) ready.ordered

  pub left_ready : IsReady old w node.left node.entry.bits (node.entry.len + 1)
  left_ready =
      by_node (λ tree. Holds old at tree ready.free → IsOrdered w low d tree
      → IsReady old w node.left node.entry.bits (node.entry.len + 1)) old at ready.tree ready.holds.stands node here
      some (λ place left right h ordered. record {
        tree = left;
        free = ready.free;
        holds = left_holds old at place node left right ready.free h;
        ordered = ordered.1;
      }) ready.holds ready.ordered

  pub right_ready : IsReady old w node.right (node.entry.bits + size w (node.entry.len + 1)) (node.entry.len + 1)
  right_ready =
      by_node (λ tree. Holds old at tree ready.free → IsOrdered w low d tree
      → IsReady old w node.right (node.entry.bits + size w (node.entry.len + 1)) (node.entry.len + 1)) old at ready.tree
      ready.holds.stands node here some (λ place left right h ordered. record {
        tree = right;
        free = ready.free;
        holds = right_holds old at place node left right ready.free h;
        ordered = ordered.2;
      }) ready.holds ready.ordered

  abbrev pub moved_ready : (low' d' : ℕ) → IsWithin w low' d' node.entry → IsReady old w at low' d'
  moved_ready low' d' inner = record {
    tree = ready.tree;
    free = ready.free;
    holds = ready.holds;
    ordered =
        by_node (λ tree. IsOrdered w low d tree → IsOrdered w low' d' tree) old at ready.tree ready.holds.stands node here
        some (λ place left right ordered. (inner, ordered.1, ordered.2)) ready.ordered;
  }

  -- the node gets the entry of its own prefix
  pub rewritten : (new : CellTree) (entry : Entry) → IsWithin w low d entry → node.entry.len ≡ entry.len
      → node.entry.bits ≤ entry.bits → entry.bits < node.entry.bits + size w node.entry.len
      → ((other : Node) → new.nodes.items ≡ set old.nodes.items at (record (get_or old.nodes.items at other) { entry = entry }))
      → new.free ≡ old.free → new.freed ≡ old.freed
      → Results old new w low d ready.tree ready.free at (rows_written (change_for w entry) (rows_of w ready.tree)) 2
  rewritten new entry inner len from below nodes chain freed =
      by_node (λ tree. Holds old at tree ready.free → IsOrdered w low d tree
      → Results old new w low d tree ready.free at (rows_written (change_for w entry) (rows_of w tree)) 2)
      old at ready.tree ready.holds.stands node here some (λ place left right h ordered.
      let bits : node.entry.bits ≡ entry.bits =
      same_bits w node.entry entry len inner.within ordered.0.zeros inner.zeros from below in
      record {
        tree' = Branch place (record node { entry = entry }) left right;
        free' = ready.free;
        turns = reentered old new at place node entry left right ready.free h nodes chain freed;
        written =
            written_here w low d place node left right entry ordered
            (λ i. record { addr = addr_of w (bits i); len = len i }) bits len;
        ordered = (
          inner,
          subst (λ l. IsOrdered w entry.bits (l + 1) left) len
              (subst (λ b. IsOrdered w b (node.entry.len + 1) left) bits ordered.1),
          subst (λ l. IsOrdered w (entry.bits + size w (l + 1)) (l + 1) right) len
              (subst (λ b. IsOrdered w (b + size w (node.entry.len + 1)) (node.entry.len + 1) right) bits ordered.2),
        );
        taken = omega arith;
      })
      ready.holds ready.ordered

  -- both are below a fork that has no cell
  module _ (new : CellTree) (to : ℕ) (fork entry : Entry) (empty : is_empty_cell (entry_cell fork) ≡ true) where
    pub beside_left : entry.bits < node.entry.bits
        → Results old new w low d ready.tree ready.free to
        (own_rows w fork ++ ((own_rows w entry ++ []) ++ rows_of w ready.tree)) 2
        → Results old new w low d ready.tree ready.free to (rows_written (change_for w entry) (rows_of w ready.tree)) 2
    beside_left below r =
        reworded old new w low d ready.tree ready.free to
        (own_rows w fork ++ ((own_rows w entry ++ []) ++ rows_of w ready.tree))
        (rows_written (change_for w entry) (rows_of w ready.tree)) 2 2 r
        (ap (λ t. t ++ ((own_rows w entry ++ []) ++ rows_of w ready.tree)) (own_none w fork empty)
        ∙ ap (λ t. t ++ rows_of w ready.tree) (append-nil (own_rows w entry))
        ∙ by_node (λ tree. IsOrdered w low d tree
        → own_rows w entry ++ rows_of w tree ≡ rows_written (change_for w entry) (rows_of w tree))
        old at ready.tree ready.holds.stands node here some (λ place left right ordered.
        let tree : Tree = Branch place node left right in
        let own : IsOrdered w node.entry.bits node.entry.len tree =
        (self_within w low d node.entry ordered.0, ordered.1, ordered.2) in
        written_first w low d tree entry (behind_beside w node.entry.bits node.entry.len tree entry own below))
        ready.ordered) (omega arith)

    pub beside_right : node.entry.bits + size w node.entry.len ≤ entry.bits
        → Results old new w low d ready.tree ready.free to
        (own_rows w fork ++ (rows_of w ready.tree ++ (own_rows w entry ++ []))) 2
        → Results old new w low d ready.tree ready.free to (rows_written (change_for w entry) (rows_of w ready.tree)) 2
    beside_right past r =
        reworded old new w low d ready.tree ready.free to
        (own_rows w fork ++ (rows_of w ready.tree ++ (own_rows w entry ++ [])))
        (rows_written (change_for w entry) (rows_of w ready.tree)) 2 2 r
        (ap (λ t. t ++ (rows_of w ready.tree ++ (own_rows w entry ++ []))) (own_none w fork empty)
        ∙ ap (λ t. rows_of w ready.tree ++ t) (append-nil (own_rows w entry))
        ∙ by_node (λ tree. IsOrdered w low d tree
        → rows_of w tree ++ own_rows w entry ≡ rows_written (change_for w entry) (rows_of w tree))
        old at ready.tree ready.holds.stands node here some (λ place left right ordered.
        let tree : Tree = Branch place node left right in
        let own : IsOrdered w node.entry.bits node.entry.len tree =
        (self_within w low d node.entry ordered.0, ordered.1, ordered.2) in
        written_last w low d tree entry (before_beside w node.entry.bits node.entry.len tree entry own past))
        ready.ordered) (omega arith)

  module _ (mid new : CellTree) (child : ℕ) (entry : Entry) (inner : IsWithin w low d entry)
      (longer : node.entry.len < entry.len) (from : node.entry.bits ≤ entry.bits) (chain : new.free ≡ mid.free)
      (freed : new.freed ≡ mid.freed) where
    pub grown_left : entry.bits < node.entry.bits + size w (node.entry.len + 1)
        → ((own : IsReady old w node.left node.entry.bits (node.entry.len + 1))
        → Results old mid w node.entry.bits (node.entry.len + 1) own.tree own.free child
        (rows_written (change_for w entry) (rows_of w own.tree)) 2)
        → ((other : Node) → new.nodes.items ≡ set mid.nodes.items at (record (get_or mid.nodes.items at other) { left = child }))
        → Results old new w low d ready.tree ready.free at (rows_written (change_for w entry) (rows_of w ready.tree)) 2
    grown_left below call nodes =
        by_node (λ tree. Holds old at tree ready.free → IsOrdered w low d tree
        → Results old new w low d tree ready.free at (rows_written (change_for w entry) (rows_of w tree)) 2)
        old at ready.tree ready.holds.stands node here some (λ place left right h ordered.
        let r : Results old mid w node.entry.bits (node.entry.len + 1) left ready.free child
        (rows_written (change_for w entry) (rows_of w left)) 2 =
        call (record {
          tree = left;
          free = ready.free;
          holds = left_holds old at place node left right ready.free h;
          ordered = ordered.1;
        }) in
        record {
          tree' = Branch place (record node { left = child }) r.tree' right;
          free' = r.free';
          turns =
              relinked_left old mid new at place child node left right ready.free r.tree' r.free' h r.turns nodes chain freed;
          written =
              ap (λ t. own_rows w node.entry ++ (t ++ rows_of w right)) r.written
              ∙ written_left w low d place node left right entry ordered from longer below;
          ordered = (ordered.0, r.ordered, ordered.2);
          taken = r.taken;
        })
        ready.holds ready.ordered

    pub grown_right : node.entry.bits + size w (node.entry.len + 1) ≤ entry.bits
        → ((own : IsReady old w node.right (node.entry.bits + size w (node.entry.len + 1)) (node.entry.len + 1))
        → Results old mid w (node.entry.bits + size w (node.entry.len + 1)) (node.entry.len + 1) own.tree own.free child
        (rows_written (change_for w entry) (rows_of w own.tree)) 2)
        → ((other : Node) → new.nodes.items ≡ set mid.nodes.items at (record (get_or mid.nodes.items at other) { right = child }))
        → Results old new w low d ready.tree ready.free at (rows_written (change_for w entry) (rows_of w ready.tree)) 2
    grown_right above call nodes =
        by_node (λ tree. Holds old at tree ready.free → IsOrdered w low d tree
        → Results old new w low d tree ready.free at (rows_written (change_for w entry) (rows_of w tree)) 2)
        old at ready.tree ready.holds.stands node here some (λ place left right h ordered.
        let r : Results old mid w (node.entry.bits + size w (node.entry.len + 1)) (node.entry.len + 1) right ready.free child
        (rows_written (change_for w entry) (rows_of w right)) 2 =
        call (record {
          tree = right;
          free = ready.free;
          holds = right_holds old at place node left right ready.free h;
          ordered = ordered.2;
        }) in
        record {
          tree' = Branch place (record node { right = child }) left r.tree';
          free' = r.free';
          turns =
              relinked_right old mid new at place child node left right ready.free r.tree' r.free' h r.turns nodes chain freed;
          written =
              ap (λ t. own_rows w node.entry ++ (rows_of w left ++ t)) r.written
              ∙ written_right w low d place node left right entry ordered from longer above inner.within;
          ordered = (ordered.0, ordered.1, r.ordered);
          taken = r.taken;
        })
        ready.holds ready.ordered
