-- What a tree is after an entry and a tree are joined below a fork.
use Rattle.std.proofs.Common.{◌≡◌, ℕ, ◌+◌, ◌<◌, ◌≤◌, List, [], ◌∷◌, ◌++◌, length}
use Rattle.std.proofs.Common.{refl, sym, ap, subst, ◌∙◌, arith, get_or, set, length-set}
use Rattle.cover_table.specs.declared.nodes.Entry.{Entry}
use Rattle.cover_table.specs.declared.nodes.Node.{Node}
use Rattle.cover_table.specs.declared.tree.CellTree.{CellTree}
use Rattle.cover_table.specs.Trees.{Tree, Empty, Branch, Holds, IsOrdered, IsReady, IsWithin, Results}
use Rattle.cover_table.specs.Trees.{Turns, leaf_of, no_place, own_rows}
use Rattle.cover_table.specs.Trees.{rows_of, size}
use Rattle.cover_table.proofs.Turning.{after, left_holds, right_holds}
use Rattle.cover_table.proofs.Relinking.{relinked_left, relinked_right}
use Rattle.cover_table.proofs.Turning.{took_left, took_right, turned_holds}
use Rattle.cover_table.proofs.Writing.{chain_within}

pub same_length : (a b : List Node) (i : ℕ) (node : Node) → a ≡ set b i node → length a ≡ length b
same_length a b i node is = ap length is ∙ length-set b i node

-- the entry on one side of a fork
module _ (a b c e : CellTree) (w low d at : ℕ) (fork entry : Entry) (to leaf : ℕ) (to_is : to ≡ a.free)
    (leaf_is : leaf ≡ b.free) (inner : IsWithin w low d fork)
    (chain_b : (other : Node) → b.free ≡ (get_or a.nodes.items a.free other).left) (freed_b : b.freed + 1 ≡ a.freed)
    (nodes_c : c.nodes.items ≡ set b.nodes.items b.free (leaf_of entry))
    (chain_c : (other : Node) → c.free ≡ (get_or b.nodes.items b.free other).left) (freed_c : c.freed + 1 ≡ b.freed)
    (chain_e : e.free ≡ c.free) (freed_e : e.freed ≡ c.freed) (tree : Tree) where
  module _ (nodes_b : b.nodes.items ≡ set a.nodes.items a.free (record { entry = fork; left = no_place; right = at }))
      (nodes_e : (other : Node) → e.nodes.items
      ≡ set c.nodes.items to (record (get_or c.nodes.items to other) { left = leaf }))
      (lower : IsWithin w fork.bits (fork.len + 1) entry)
      (ordered : IsOrdered w (fork.bits + size w (fork.len + 1)) (fork.len + 1) tree) where
    abbrev top : Node
    top = record { entry = fork; left = no_place; right = at }

    pub joined_left : (free : List ℕ) → Holds a at tree free
        → Results a e w low d tree free to (own_rows w fork ++ ((own_rows w entry ++ []) ++ rows_of w tree)) 2
    joined_left [] h = absurd (omega (arith, h.freed))
    joined_left (p ∷ []) h = absurd (omega (arith, h.freed))
    joined_left (p ∷ (q ∷ free)) h =
        let first : Turns a b a.free tree (p ∷ (q ∷ free)) (Branch p top Empty tree) (q ∷ free) =
        took_right a b at top tree p (q ∷ free) h nodes_b chain_b freed_b refl refl in
        let held : Holds b a.free (Branch p top Empty tree) (q ∷ free) =
        turned_holds a b at a.free tree (p ∷ (q ∷ free)) (Branch p top Empty tree) (q ∷ free) h first in
        let second : Turns b c b.free Empty (q ∷ free) (Branch q (leaf_of entry) Empty Empty) free =
        took_left b c no_place (leaf_of entry) Empty q free
        (left_holds b a.free p top Empty tree (q ∷ free) held) nodes_c chain_c freed_c refl refl in
        let third : Turns b e a.free (Branch p top Empty tree) (q ∷ free)
        (Branch p (record top { left = b.free }) (Branch q (leaf_of entry) Empty Empty) tree) free =
        relinked_left b c e a.free p b.free top Empty tree (q ∷ free) (Branch q (leaf_of entry) Empty Empty) free held
        second
        (λ other. nodes_e other
        ∙ (λ i. set c.nodes.items (to_is i) (record (get_or c.nodes.items (to_is i) other) { left = leaf_is i })))
        chain_e freed_e in
        record {
          tree' = Branch p (record top { left = b.free }) (Branch q (leaf_of entry) Empty Empty) tree;
          free' = free;
          turns =
              subst (λ i. Turns a e i tree (p ∷ (q ∷ free))
              (Branch p (record top { left = b.free }) (Branch q (leaf_of entry) Empty Empty) tree) free) (sym to_is)
              (after a b e a.free a.free tree (p ∷ (q ∷ free)) (Branch p top Empty tree) (q ∷ free)
              (Branch p (record top { left = b.free }) (Branch q (leaf_of entry) Empty Empty) tree) free first third);
          written = refl;
          ordered = (inner, (lower, tt, tt), ordered);
          taken = omega arith;
        }

  module _ (nodes_b : b.nodes.items ≡ set a.nodes.items a.free (record { entry = fork; left = at; right = no_place }))
      (nodes_e : (other : Node) → e.nodes.items
      ≡ set c.nodes.items to (record (get_or c.nodes.items to other) { right = leaf }))
      (upper : IsWithin w (fork.bits + size w (fork.len + 1)) (fork.len + 1) entry)
      (ordered : IsOrdered w fork.bits (fork.len + 1) tree) where
    abbrev peak : Node
    peak = record { entry = fork; left = at; right = no_place }

    pub joined_right : (free : List ℕ) → Holds a at tree free
        → Results a e w low d tree free to (own_rows w fork ++ (rows_of w tree ++ (own_rows w entry ++ []))) 2
    joined_right [] h = absurd (omega (arith, h.freed))
    joined_right (p ∷ []) h = absurd (omega (arith, h.freed))
    joined_right (p ∷ (q ∷ free)) h =
        let first : Turns a b a.free tree (p ∷ (q ∷ free)) (Branch p peak tree Empty) (q ∷ free) =
        took_left a b at peak tree p (q ∷ free) h nodes_b chain_b freed_b refl refl in
        let held : Holds b a.free (Branch p peak tree Empty) (q ∷ free) =
        turned_holds a b at a.free tree (p ∷ (q ∷ free)) (Branch p peak tree Empty) (q ∷ free) h first in
        let second : Turns b c b.free Empty (q ∷ free) (Branch q (leaf_of entry) Empty Empty) free =
        took_left b c no_place (leaf_of entry) Empty q free
        (right_holds b a.free p peak tree Empty (q ∷ free) held) nodes_c chain_c freed_c refl refl in
        let third : Turns b e a.free (Branch p peak tree Empty) (q ∷ free)
        (Branch p (record peak { right = b.free }) tree (Branch q (leaf_of entry) Empty Empty)) free =
        relinked_right b c e a.free p b.free peak tree Empty (q ∷ free) (Branch q (leaf_of entry) Empty Empty) free held
        second
        (λ other. nodes_e other
        ∙ (λ i. set c.nodes.items (to_is i) (record (get_or c.nodes.items (to_is i) other) { right = leaf_is i })))
        chain_e freed_e in
        record {
          tree' = Branch p (record peak { right = b.free }) tree (Branch q (leaf_of entry) Empty Empty);
          free' = free;
          turns =
              subst (λ i. Turns a e i tree (p ∷ (q ∷ free))
              (Branch p (record peak { right = b.free }) tree (Branch q (leaf_of entry) Empty Empty)) free) (sym to_is)
              (after a b e a.free a.free tree (p ∷ (q ∷ free)) (Branch p peak tree Empty) (q ∷ free)
              (Branch p (record peak { right = b.free }) tree (Branch q (leaf_of entry) Empty Empty)) free first third);
          written = refl;
          ordered = (inner, ordered, (upper, tt, tt));
          taken = omega arith;
        }

-- what is free behind the first that is taken
pub chain_again : (a b : CellTree) (at : ℕ) (node : Node) (w low d : ℕ) (ready : IsReady a w at low d)
    → b.nodes.items ≡ set a.nodes.items a.free node → node.left ≡ no_place → node.right ≡ at
    → ((other : Node) → b.free ≡ (get_or a.nodes.items a.free other).left) → b.freed + 1 ≡ a.freed → 2 ≤ a.freed
    → b.free < length b.nodes.items
chain_again a b at node w low d ready nodes none named chain freed room = go ready.free ready.holds
  where
    go : (free : List ℕ) → Holds a at ready.tree free → b.free < length b.nodes.items
    go [] h = absurd (omega (arith, h.freed))
    go (p ∷ free) h =
        let first = took_right a b at node ready.tree p free h nodes chain freed none named in
        chain_within b free first.chain first.freed (omega arith)

pub chain_again' : (a b : CellTree) (at : ℕ) (node : Node) (w low d : ℕ) (ready : IsReady a w at low d)
    → b.nodes.items ≡ set a.nodes.items a.free node → node.left ≡ at → node.right ≡ no_place
    → ((other : Node) → b.free ≡ (get_or a.nodes.items a.free other).left) → b.freed + 1 ≡ a.freed → 2 ≤ a.freed
    → b.free < length b.nodes.items
chain_again' a b at node w low d ready nodes named none chain freed room = go ready.free ready.holds
  where
    go : (free : List ℕ) → Holds a at ready.tree free → b.free < length b.nodes.items
    go [] h = absurd (omega (arith, h.freed))
    go (p ∷ free) h =
        let first = took_left a b at node ready.tree p free h nodes chain freed named none in
        chain_within b free first.chain first.freed (omega arith)
