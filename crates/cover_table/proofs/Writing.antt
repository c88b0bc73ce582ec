-- What a tree is after each way of writing an entry into it.
use Rattle.std.proofs.Common.{◌≡◌, ℕ, ◌+◌, ◌<◌, ◌≤◌, Bool, true, false, List, [], ◌∷◌, ◌++◌, length}
use Rattle.std.proofs.Common.{not, refl, sym, ap, subst, ◌∙◌, arith, get_or, set}
use Rattle.std.proofs.lemmas.List.{append-nil}
use Rattle.cover_table.specs.declared.nodes.Entry.{Entry}
use Rattle.cover_table.specs.declared.nodes.Node.{Node}
use Rattle.cover_table.specs.declared.tree.CellTree.{CellTree}
use Rattle.cover_table.specs.Rows.{TableRow, rows_written}
use Rattle.cover_table.specs.Tables.{is_empty_cell}
use Rattle.cover_table.specs.Trees.{Tree, Empty, Branch, Holds, IsAt, IsChain, IsOrdered, IsReady, IsWithin, Results}
use Rattle.cover_table.specs.Trees.{Stands, Turns, change_for, entry_cell, leaf_of, no_place, own_rows}
use Rattle.cover_table.specs.Trees.{rows_of, size}
use Rattle.cover_table.proofs.Between.{own_none}
use Rattle.cover_table.proofs.Between.{written_none}
use Rattle.cover_table.proofs.Blocks.{within_lower, within_upper}
use Rattle.cover_table.proofs.Standing.{same_node}
use Rattle.cover_table.proofs.Turning.{after, gave_left, gave_right}
use Rattle.cover_table.proofs.Turning.{stays, took_left, took_right, turned_holds}

-- the chain names a node where it has one
pub chain_within : (m : CellTree) (free : List ℕ) → IsChain m.nodes.items m.free free → m.freed ≡ length free
    → 1 ≤ m.freed → m.free < length m.nodes.items
chain_within m [] chain freed some = absurd (omega arith)
chain_within m (place ∷ places) chain freed some = chain.1.1.within

-- a fact of a tree, from one of the node that stands there
pub by_node : (P : Tree → Type 0) (m : CellTree) (at : ℕ) (tree : Tree) → Stands m.nodes.items at tree
    → (node : Node) → IsAt m.nodes.items at node → ¬ (at ≡ no_place)
    → ((place : ℕ) (left right : Tree) → P (Branch place node left right)) → P tree
by_node P m at Empty stands node here some all = absurd (some stands)
by_node P m at (Branch place other left right) stands node here some all =
    subst (λ n. P (Branch place n left right)) (same_node m.nodes.items at node other here stands.1)
    (all place left right)

-- a tree that has no node, and one that has
pub by_none : (P : Tree → Type 0) (m : CellTree) (at : ℕ) (tree : Tree) → Stands m.nodes.items at tree
    → length m.nodes.items ≤ no_place → at ≡ no_place → P Empty → P tree
by_none P m at Empty stands few none own = own
by_none P m at (Branch place other left right) stands few none own = absurd (omega (arith, stands.1.within))

pub results_ready : (old new : CellTree) (w low d : ℕ) (tree : Tree) (free : List ℕ) (at to : ℕ) (rows : List TableRow)
    (most : ℕ) → Holds old at tree free → Results old new w low d tree free to rows most → IsReady new w to low d
results_ready old new w low d tree free at to rows most h r = record {
  tree = r.tree';
  free = r.free';
  holds = turned_holds old new at to tree free r.tree' r.free' h r.turns;
  ordered = r.ordered;
}

-- the tree as it is
pub unchanged : (m : CellTree) (w low d : ℕ) (tree : Tree) (free : List ℕ) (at : ℕ) (rows : List TableRow) (most : ℕ)
    → Holds m at tree free → IsOrdered w low d tree → rows_of w tree ≡ rows
    → Results m m w low d tree free at rows most
unchanged m w low d tree free at rows most h ordered same = record {
  tree' = tree;
  free' = free;
  turns = stays m at tree free h;
  written = same;
  ordered = ordered;
  taken = omega arith;
}

-- a turn, and then one that leaves the rows
pub then_tidied : (old mid new : CellTree) (w low d : ℕ) (tree : Tree) (free : List ℕ) (at to : ℕ)
    (rows : List TableRow) (most : ℕ) → Holds old at tree free → (r : Results old mid w low d tree free at rows most)
    → ((ready : IsReady mid w at low d)
    → Results mid new w low d ready.tree ready.free to (rows_of w ready.tree) 0)
    → Results old new w low d tree free to rows most
unfolding results_ready
then_tidied old mid new w low d tree free at to rows most h r next =
    let ready : IsReady mid w at low d = results_ready old mid w low d tree free at at rows most h r in
    let s : Results mid new w low d r.tree' r.free' to (rows_of w r.tree') 0 = next ready in
    record {
      tree' = s.tree';
      free' = s.free';
      turns = after old mid new at to tree free r.tree' r.free' s.tree' s.free' r.turns s.turns;
      written = s.written ∙ r.written;
      ordered = s.ordered;
      taken = omega (arith, r.taken, s.taken);
    }

-- a tree of a part of the block is one of the block
pub in_block : (w low d low' d' : ℕ) (tree : Tree)
    → ((entry : Entry) → IsWithin w low' d' entry → IsWithin w low d entry) → IsOrdered w low' d' tree
    → IsOrdered w low d tree
in_block w low d low' d' Empty wider ordered = tt
in_block w low d low' d' (Branch place node left right) wider ordered = (wider node.entry ordered.0, ordered.1, ordered.2)

-- a node that is taken for a tree of one of its sides
module _ (old new : CellTree) (w low d at : ℕ) (node : Node) (to : ℕ) (to_is : to ≡ old.free)
    (nodes : new.nodes.items ≡ set old.nodes.items old.free node)
    (chain : (other : Node) → new.free ≡ (get_or old.nodes.items old.free other).left)
    (freed : new.freed + 1 ≡ old.freed) (inner : IsWithin w low d node.entry) (tree : Tree) where
  pub top_left : (free : List ℕ) → Holds old at tree free → node.left ≡ at → node.right ≡ no_place
      → IsOrdered w node.entry.bits (node.entry.len + 1) tree
      → Results old new w low d tree free to (own_rows w node.entry ++ (rows_of w tree ++ [])) 1
  top_left [] h named none ordered = absurd (omega (arith, h.freed))
  top_left (place ∷ free) h named none ordered = record {
    tree' = Branch place node tree Empty;
    free' = free;
    turns =
        subst (λ i. Turns old new i tree (place ∷ free) (Branch place node tree Empty) free) (sym to_is)
        (took_left old new at node tree place free h nodes chain freed named none);
    written = refl;
    ordered = (inner, ordered, tt);
    taken = omega arith;
  }

  pub top_right : (free : List ℕ) → Holds old at tree free → node.left ≡ no_place → node.right ≡ at
      → IsOrdered w (node.entry.bits + size w (node.entry.len + 1)) (node.entry.len + 1) tree
      → Results old new w low d tree free to (own_rows w node.entry ++ ([] ++ rows_of w tree)) 1
  top_right [] h none named ordered = absurd (omega (arith, h.freed))
  top_right (place ∷ free) h none named ordered = record {
    tree' = Branch place node Empty tree;
    free' = free;
    turns =
        subst (λ i. Turns old new i tree (place ∷ free) (Branch place node Empty tree) free) (sym to_is)
        (took_right old new at node tree place free h nodes chain freed none named);
    written = refl;
    ordered = (inner, tt, ordered);
    taken = omega arith;
  }

-- the same with other words for the rows
pub reworded : (old new : CellTree) (w low d : ℕ) (tree : Tree) (free : List ℕ) (to : ℕ) (rows rows' : List TableRow)
    (most most' : ℕ) → Results old new w low d tree free to rows most → rows ≡ rows' → most ≤ most'
    → Results old new w low d tree free to rows' most'
reworded old new w low d tree free to rows rows' most most' r same more = record {
  tree' = r.tree';
  free' = r.free';
  turns = r.turns;
  written = r.written ∙ same;
  ordered = r.ordered;
  taken = omega (arith, r.taken);
}

-- a leaf is taken where there was no node
pub hung : (old new : CellTree) (w low d : ℕ) (entry : Entry) (to : ℕ) → to ≡ old.free
    → new.nodes.items ≡ set old.nodes.items old.free (leaf_of entry)
    → ((other : Node) → new.free ≡ (get_or old.nodes.items old.free other).left) → new.freed + 1 ≡ old.freed
    → IsWithin w low d entry → (ready : IsReady old w no_place low d)
    → Results old new w low d ready.tree ready.free to (rows_written (change_for w entry) (rows_of w ready.tree)) 1
hung old new w low d entry to to_is nodes chain freed inner ready =
    by_none (λ tree. Holds old no_place tree ready.free
    → Results old new w low d tree ready.free to (rows_written (change_for w entry) (rows_of w tree)) 1)
    old no_place ready.tree ready.holds.stands ready.holds.numbered refl
    (λ h. reworded old new w low d Empty ready.free to (own_rows w entry ++ ([] ++ []))
    (rows_written (change_for w entry) []) 1 1
    (top_left old new w low d no_place (leaf_of entry) to to_is nodes chain freed inner Empty ready.free h refl refl tt)
    (append-nil (own_rows w entry) ∙ sym (written_none w entry)) (omega arith))
    ready.holds

-- an entry that is empty leaves no tree
pub hung_none : (m : CellTree) (w low d : ℕ) (entry : Entry) → is_empty_cell (entry_cell entry) ≡ true
    → (ready : IsReady m w no_place low d)
    → Results m m w low d ready.tree ready.free no_place (rows_written (change_for w entry) (rows_of w ready.tree)) 1
hung_none m w low d entry is ready =
    by_none (λ tree. Holds m no_place tree ready.free
    → Results m m w low d tree ready.free no_place (rows_written (change_for w entry) (rows_of w tree)) 1)
    m no_place ready.tree ready.holds.stands ready.holds.numbered refl
    (λ h. unchanged m w low d Empty ready.free no_place (rows_written (change_for w entry) []) 1 h tt
    (sym (own_none w entry is) ∙ sym (written_none w entry)))
    ready.holds

-- a node that parts nothing is given back
module _ (old new : CellTree) (w low d at : ℕ) (node : Node) (here : IsAt old.nodes.items at node)
    (some : ¬ (at ≡ no_place)) (empty : is_empty_cell (entry_cell node.entry) ≡ true)
    (nodes : (other : Node) → new.nodes.items
    ≡ set old.nodes.items at (record (get_or old.nodes.items at other) { left = old.free }))
    (chain : new.free ≡ at) (freed : new.freed ≡ old.freed + 1) (ready : IsReady old w at low d) where
  pub given_right : node.left ≡ no_place
      → Results old new w low d ready.tree ready.free node.right (rows_of w ready.tree) 0
  given_right none =
      by_node (λ tree. Holds old at tree ready.free → IsOrdered w low d tree
      → Results old new w low d tree ready.free node.right (rows_of w tree) 0)
      old at ready.tree ready.holds.stands node here some (λ place left right h ordered.
      by_none (λ left. Holds old at (Branch place node left right) ready.free
      → IsOrdered w low d (Branch place node left right)
      → Results old new w low d (Branch place node left right) ready.free node.right
      (rows_of w (Branch place node left right)) 0)
      old node.left left h.stands.2 h.numbered none (λ h ordered. record {
        tree' = right;
        free' = place ∷ ready.free;
        turns = gave_right old new at place node right ready.free h nodes chain freed;
        written = ap (λ t. t ++ ([] ++ rows_of w right)) (sym (own_none w node.entry empty));
        ordered =
            in_block w low d (node.entry.bits + size w (node.entry.len + 1)) (node.entry.len + 1) right
            (λ entry inner. within_upper w low d node.entry entry ordered.0 inner) ordered.2;
        taken = omega arith;
      }) h ordered)
      ready.holds ready.ordered

  pub given_left : node.right ≡ no_place
      → Results old new w low d ready.tree ready.free node.left (rows_of w ready.tree) 0
  given_left none =
      by_node (λ tree. Holds old at tree ready.free → IsOrdered w low d tree
      → Results old new w low d tree ready.free node.left (rows_of w tree) 0)
      old at ready.tree ready.holds.stands node here some (λ place left right h ordered.
      by_none (λ right. Holds old at (Branch place node left right) ready.free
      → IsOrdered w low d (Branch place node left right)
      → Results old new w low d (Branch place node left right) ready.free node.left
      (rows_of w (Branch place node left right)) 0)
      old node.right right h.stands.3 h.numbered none (λ h ordered. record {
        tree' = left;
        free' = place ∷ ready.free;
        turns = gave_left old new at place node left ready.free h nodes chain freed;
        written =
            sym (append-nil (rows_of w left))
            ∙ ap (λ t. t ++ (rows_of w left ++ [])) (sym (own_none w node.entry empty));
        ordered =
            in_block w low d node.entry.bits (node.entry.len + 1) left
            (λ entry inner. within_lower w low d node.entry entry ordered.0 inner) ordered.1;
        taken = omega arith;
      }) h ordered)
      ready.holds ready.ordered

pub not_false : (b : Bool) → not b ≡ false → b ≡ true
not_false true is = refl
not_false false is = sym is

-- an empty tree with an entry hung there
pub hung_at : (old new : CellTree) (w low d at to : ℕ) (entry : Entry) → at ≡ no_place
    → ((ready : IsReady old w no_place low d)
    → Results old new w low d ready.tree ready.free to (rows_written (change_for w entry) (rows_of w ready.tree)) 1)
    → (ready : IsReady old w at low d)
    → Results old new w low d ready.tree ready.free to (rows_written (change_for w entry) (rows_of w ready.tree)) 2
hung_at old new w low d at to entry none call =
    subst (λ i. (ready : IsReady old w i low d)
    → Results old new w low d ready.tree ready.free to (rows_written (change_for w entry) (rows_of w ready.tree)) 2)
    (sym none)
    (λ ready. reworded old new w low d ready.tree ready.free to (rows_written (change_for w entry) (rows_of w ready.tree))
    (rows_written (change_for w entry) (rows_of w ready.tree)) 1 2 (call ready) refl (omega arith))
