-- Trees in a vector of nodes: what is there when one of their nodes is taken, given back, or written.
use Rattle.std.proofs.Common.{◌≡◌, ℕ, ◌+◌, ◌<◌, ◌≤◌, List, ◌∷◌, length}
use Rattle.std.proofs.Common.{refl, sym, ap, subst, ◌∙◌, arith, get_or, set, length-set}
use Rattle.cover_table.specs.declared.nodes.Node.{Node}
use Rattle.cover_table.specs.declared.tree.CellTree.{CellTree}
use Rattle.cover_table.specs.Trees.{Tree, Empty, Branch, Holds, IsAt, IsChain, Stands, Turns, listed, no_place}
use Rattle.cover_table.specs.Trees.{occurs, one}
use Rattle.cover_table.proofs.Standing.{at_other, at_set, chain_kept, one_same, stands_kept}

-- the trees below a node are held beside the same chain
pub left_holds : (m : CellTree) (at place : ℕ) (node : Node) (left right : Tree) (free : List ℕ)
    → Holds m at (Branch place node left right) free → Holds m node.left left free
left_holds m at place node left right free h = record {
  stands = h.stands.2;
  chain = h.chain;
  freed = h.freed;
  once = λ k. omega (arith, h.once k);
  counted = omega (arith, h.counted);
  numbered = h.numbered;
}

pub right_holds : (m : CellTree) (at place : ℕ) (node : Node) (left right : Tree) (free : List ℕ)
    → Holds m at (Branch place node left right) free → Holds m node.right right free
right_holds m at place node left right free h = record {
  stands = h.stands.3;
  chain = h.chain;
  freed = h.freed;
  once = λ k. omega (arith, h.once k);
  counted = omega (arith, h.counted);
  numbered = h.numbered;
}

-- what a turn leaves is held
pub turned_holds : (old new : CellTree) (at to : ℕ) (tree : Tree) (free : List ℕ) (tree' : Tree) (free' : List ℕ)
    → Holds old at tree free → Turns old new to tree free tree' free' → Holds new to tree' free'
turned_holds old new at to tree free tree' free' h t = record {
  stands = t.stands;
  chain = t.chain;
  freed = t.freed;
  once = λ k. omega (arith, h.once k, t.kept k);
  counted = omega (arith, h.counted, t.counted, t.length);
  numbered = omega (arith, h.numbered, t.length);
}

-- nothing is turned
pub stays : (m : CellTree) (at : ℕ) (tree : Tree) (free : List ℕ) → Holds m at tree free
    → Turns m m at tree free tree free
stays m at tree free h = record {
  stands = h.stands;
  chain = h.chain;
  freed = h.freed;
  kept = λ k. refl;
  counted = refl;
  length = refl;
  same = λ k none node is. is;
}

-- one turn after the other
pub after : (a b c : CellTree) (to to' : ℕ) (t : Tree) (f : List ℕ) (t' : Tree) (f' : List ℕ) (t'' : Tree) (f'' : List ℕ)
    → Turns a b to t f t' f' → Turns b c to' t' f' t'' f'' → Turns a c to' t f t'' f''
after a b c to to' t f t' f' t'' f'' first second = record {
  stands = second.stands;
  chain = second.chain;
  freed = second.freed;
  kept = λ k. second.kept k ∙ first.kept k;
  counted = second.counted ∙ first.counted;
  length = second.length ∙ first.length;
  same = λ k none node is. second.same k (first.kept k ∙ none) node (first.same k none node is);
}

-- the tree below a node is another one, and the node names it
module _ (old mid new : CellTree) (at place child : ℕ) (node node' : Node) (left right : Tree) (free : List ℕ)
    (left' : Tree) (free' : List ℕ) (h : Holds old at (Branch place node left right) free)
    (t : Turns old mid child left free left' free') (named : node'.left ≡ child) (other : node'.right ≡ node.right)
    (nodes : new.nodes.items ≡ set mid.nodes.items at node') (chain : new.free ≡ mid.free)
    (freed : new.freed ≡ mid.freed) where
  left_own : one place at ≡ 1
  left_own = subst (λ i. ◌≡◌ {A = ℕ} (one i at) 1) h.stands.0 (one_same at)

  left_within : at < length mid.nodes.items
  left_within = omega (arith, h.stands.1.within, t.length)

  left_here : IsAt new.nodes.items at node'
  left_here = subst (λ ns. IsAt ns at node') (sym nodes) (at_set mid.nodes.items at node' left_within)

  left_others : (k : ℕ) → ¬ (k ≡ at) → (n : Node) → IsAt mid.nodes.items k n → IsAt new.nodes.items k n
  left_others k apart n is =
      subst (λ ns. IsAt ns k n) (sym nodes) (at_other mid.nodes.items at k node' n apart is)

  -- the node is in none of the parts
  left_apart : (k : ℕ) (f : ℕ → ℕ) → 0 < f k → ◌≡◌ {A = ℕ} (f at) 0 → ¬ (k ≡ at)
  left_apart k f some none same = let moved = ap f same in omega arith

  left_once : (k : ℕ) → one place k + (occurs k left + occurs k right) + listed k free ≤ 1
  left_once k = h.once k

  pub linked_left : Turns old new at (Branch place node left right) free (Branch place node' left' right) free'
  linked_left =
      let own = left_own in
      let mine = left_once at in
      let moved = t.kept at in
      record {
        stands = (h.stands.0, left_here, subst (λ i. Stands new.nodes.items i left') (sym named) left_changed, subst (λ i. Stands new.nodes.items i right) (sym other) left_unchanged);
        chain = subst (λ i. IsChain new.nodes.items i free') (sym chain) (chain_kept mid.nodes.items new.nodes.items mid.free free' t.chain
            (λ k some n is. left_others k (left_apart k (λ i. listed i free') some (omega arith)) n is));
        freed = freed ∙ t.freed;
        kept = λ k. omega (arith, t.kept k);
        counted = omega (arith, t.counted);
        length = ap length nodes ∙ length-set mid.nodes.items at node' ∙ t.length;
        same = λ k none n is.
            left_others k (left_apart' k none) n (t.same k (omega (arith, none)) n is);
      }
    where
      left_changed : Stands new.nodes.items child left'
      left_changed =
          let own = left_own in
          let mine = left_once at in
          let moved = t.kept at in
          stands_kept mid.nodes.items new.nodes.items child left' t.stands
          (λ k some n is. left_others k (left_apart k (λ i. occurs i left') some (omega arith)) n is)

      left_unchanged : Stands new.nodes.items node.right right
      left_unchanged =
          let own = left_own in
          let mine = left_once at in
          stands_kept old.nodes.items new.nodes.items node.right right h.stands.3
          (λ k some n is. left_others k (left_apart k (λ i. occurs i right) some (omega arith)) n
          (t.same k (let all = left_once k in omega (arith, some)) n is))

      left_apart' : (k : ℕ) → one place k + (occurs k left + occurs k right) + listed k free ≡ 0 → ¬ (k ≡ at)
      left_apart' k none same =
          let own = left_own in
          let moved = ap (λ i. one place i) same in omega (arith, none)

module _ (old mid new : CellTree) (at place child : ℕ) (node node' : Node) (left right : Tree) (free : List ℕ)
    (right' : Tree) (free' : List ℕ) (h : Holds old at (Branch place node left right) free)
    (t : Turns old mid child right free right' free') (named : node'.right ≡ child) (other : node'.left ≡ node.left)
    (nodes : new.nodes.items ≡ set mid.nodes.items at node') (chain : new.free ≡ mid.free)
    (freed : new.freed ≡ mid.freed) where
  right_own : one place at ≡ 1
  right_own = subst (λ i. ◌≡◌ {A = ℕ} (one i at) 1) h.stands.0 (one_same at)

  right_within : at < length mid.nodes.items
  right_within = omega (arith, h.stands.1.within, t.length)

  right_here : IsAt new.nodes.items at node'
  right_here = subst (λ ns. IsAt ns at node') (sym nodes) (at_set mid.nodes.items at node' right_within)

  right_others : (k : ℕ) → ¬ (k ≡ at) → (n : Node) → IsAt mid.nodes.items k n → IsAt new.nodes.items k n
  right_others k apart n is =
      subst (λ ns. IsAt ns k n) (sym nodes) (at_other mid.nodes.items at k node' n apart is)

  -- the node is in none of the parts
  right_apart : (k : ℕ) (f : ℕ → ℕ) → 0 < f k → ◌≡◌ {A = ℕ} (f at) 0 → ¬ (k ≡ at)
  right_apart k f some none same = let moved = ap f same in omega arith

  right_once : (k : ℕ) → one place k + (occurs k left + occurs k right) + listed k free ≤ 1
  right_once k = h.once k

  pub linked_right : Turns old new at (Branch place node left right) free (Branch place node' left right') free'
  linked_right =
      let own = right_own in
      let mine = right_once at in
      let moved = t.kept at in
      record {
        stands = (h.stands.0, right_here, subst (λ i. Stands new.nodes.items i left) (sym other) right_unchanged, subst (λ i. Stands new.nodes.items i right') (sym named) right_changed);
        chain = subst (λ i. IsChain new.nodes.items i free') (sym chain) (chain_kept mid.nodes.items new.nodes.items mid.free free' t.chain
            (λ k some n is. right_others k (right_apart k (λ i. listed i free') some (omega arith)) n is));
        freed = freed ∙ t.freed;
        kept = λ k. omega (arith, t.kept k);
        counted = omega (arith, t.counted);
        length = ap length nodes ∙ length-set mid.nodes.items at node' ∙ t.length;
        same = λ k none n is.
            right_others k (right_apart' k none) n (t.same k (omega (arith, none)) n is);
      }
    where
      right_changed : Stands new.nodes.items child right'
      right_changed =
          let own = right_own in
          let mine = right_once at in
          let moved = t.kept at in
          stands_kept mid.nodes.items new.nodes.items child right' t.stands
          (λ k some n is. right_others k (right_apart k (λ i. occurs i right') some (omega arith)) n is)

      right_unchanged : Stands new.nodes.items node.left left
      right_unchanged =
          let own = right_own in
          let mine = right_once at in
          stands_kept old.nodes.items new.nodes.items node.left left h.stands.2
          (λ k some n is. right_others k (right_apart k (λ i. occurs i left) some (omega arith)) n
          (t.same k (let all = right_once k in omega (arith, some)) n is))

      right_apart' : (k : ℕ) → one place k + (occurs k left + occurs k right) + listed k free ≡ 0 → ¬ (k ≡ at)
      right_apart' k none same =
          let own = right_own in
          let moved = ap (λ i. one place i) same in omega (arith, none)

-- a node that is free is taken, and names the tree
module _ (old new : CellTree) (at : ℕ) (node : Node) (tree : Tree) (place : ℕ) (free : List ℕ)
    (h : Holds old at tree (place ∷ free)) (nodes : new.nodes.items ≡ set old.nodes.items old.free node)
    (chain : (other : Node) → new.free ≡ (get_or old.nodes.items old.free other).left)
    (freed : new.freed + 1 ≡ old.freed) where
  took_first : old.free ≡ place
  took_first = h.chain.0

  took_own : one place old.free ≡ 1
  took_own = subst (λ i. ◌≡◌ {A = ℕ} (one i old.free) 1) h.chain.0 (one_same old.free)

  took_once : (k : ℕ) → occurs k tree + (one place k + listed k free) ≤ 1
  took_once k = h.once k

  took_here : IsAt new.nodes.items old.free node
  took_here =
      let is = h.chain.1.1 in
      subst (λ ns. IsAt ns old.free node) (sym nodes) (at_set old.nodes.items old.free node is.within)

  took_others : (k : ℕ) → ¬ (k ≡ old.free) → (n : Node) → IsAt old.nodes.items k n → IsAt new.nodes.items k n
  took_others k apart n is =
      subst (λ ns. IsAt ns k n) (sym nodes) (at_other old.nodes.items old.free k node n apart is)

  took_apart : (k : ℕ) (f : ℕ → ℕ) → 0 < f k → ◌≡◌ {A = ℕ} (f old.free) 0 → ¬ (k ≡ old.free)
  took_apart k f some none same = let moved = ap f same in omega arith

  took_tree : Stands new.nodes.items at tree
  took_tree =
      let own = took_own in
      let mine = took_once old.free in
      stands_kept old.nodes.items new.nodes.items at tree h.stands
      (λ k some n is. took_others k (took_apart k (λ i. occurs i tree) some (omega arith)) n is)

  took_next : new.free ≡ h.chain.1.0.left
  took_next = let first = h.chain.1.0 in chain first ∙ ap (λ (n : Node). n.left) (h.chain.1.1.here first)

  took_chain : IsChain new.nodes.items new.free free
  took_chain =
      let own = took_own in
      let mine = took_once old.free in
      subst (λ i. IsChain new.nodes.items i free) (sym took_next)
      (chain_kept old.nodes.items new.nodes.items h.chain.1.0.left free h.chain.1.2
      (λ k some n is. took_others k (took_apart k (λ i. listed i free) some (omega arith)) n is))

  took_same : (k : ℕ) → occurs k tree + (one place k + listed k free) ≡ 0 → (n : Node) → IsAt old.nodes.items k n
      → IsAt new.nodes.items k n
  took_same k none n is =
      took_others k (λ same. let own = took_own in let moved = ap (λ i. one place i) same in omega (arith, none)) n is

  took_freed : new.freed ≡ length free
  took_freed = omega (arith, freed, h.freed)

  pub took_left : node.left ≡ at → node.right ≡ no_place
      → Turns old new old.free tree (place ∷ free) (Branch place node tree Empty) free
  took_left named none = record {
    stands = (took_first, took_here, subst (λ i. Stands new.nodes.items i tree) (sym named) took_tree, none);
    chain = took_chain;
    freed = took_freed;
    kept = λ k. omega arith;
    counted = omega arith;
    length = ap length nodes ∙ length-set old.nodes.items old.free node;
    same = took_same;
  }

  pub took_right : node.left ≡ no_place → node.right ≡ at
      → Turns old new old.free tree (place ∷ free) (Branch place node Empty tree) free
  took_right none named = record {
    stands = (took_first, took_here, none, subst (λ i. Stands new.nodes.items i tree) (sym named) took_tree);
    chain = took_chain;
    freed = took_freed;
    kept = λ k. omega arith;
    counted = omega arith;
    length = ap length nodes ∙ length-set old.nodes.items old.free node;
    same = took_same;
  }

-- a node with one tree below it is given back
module _ (old new : CellTree) (at place : ℕ) (node : Node) (right : Tree) (free : List ℕ)
    (h : Holds old at (Branch place node Empty right) free)
    (nodes : (other : Node) → new.nodes.items ≡ set old.nodes.items at (record (get_or old.nodes.items at other) { left = old.free }))
    (chain : new.free ≡ at) (freed : new.freed ≡ old.freed + 1) where
  abbrev gave_right_node : Node
  gave_right_node = record (get_or old.nodes.items at node) { left = old.free }

  gave_right_own : one place at ≡ 1
  gave_right_own = subst (λ i. ◌≡◌ {A = ℕ} (one i at) 1) h.stands.0 (one_same at)

  gave_right_once : (k : ℕ) → one place k + (occurs k Empty + occurs k right) + listed k free ≤ 1
  gave_right_once k = h.once k

  gave_right_here : IsAt new.nodes.items at gave_right_node
  gave_right_here = subst (λ ns. IsAt ns at gave_right_node) (sym (nodes node)) (at_set old.nodes.items at gave_right_node h.stands.1.within)

  gave_right_others : (k : ℕ) → ¬ (k ≡ at) → (n : Node) → IsAt old.nodes.items k n → IsAt new.nodes.items k n
  gave_right_others k apart n is =
      subst (λ ns. IsAt ns k n) (sym (nodes node)) (at_other old.nodes.items at k gave_right_node n apart is)

  gave_right_apart : (k : ℕ) (f : ℕ → ℕ) → 0 < f k → ◌≡◌ {A = ℕ} (f at) 0 → ¬ (k ≡ at)
  gave_right_apart k f some none same = let moved = ap f same in omega arith

  pub gave_right : Turns old new node.right (Branch place node Empty right) free right (place ∷ free)
  gave_right =
      let own = gave_right_own in
      let mine = gave_right_once at in
      record {
        stands = stands_kept old.nodes.items new.nodes.items node.right right h.stands.3
            (λ k some n is. gave_right_others k (gave_right_apart k (λ i. occurs i right) some (omega arith)) n is);
        chain = (
          chain ∙ h.stands.0,
          (
            gave_right_node,
            subst (λ i. IsAt new.nodes.items i gave_right_node) (sym chain) gave_right_here,
            chain_kept old.nodes.items new.nodes.items old.free free h.chain
                (λ k some n is. gave_right_others k (gave_right_apart k (λ i. listed i free) some (omega arith)) n is),
          ),
        );
        freed = omega (arith, freed, h.freed);
        kept = λ k. omega arith;
        counted = omega arith;
        length = ap length (nodes node) ∙ length-set old.nodes.items at gave_right_node;
        same = λ k none n is.
            gave_right_others k (λ same. let moved = ap (λ i. one place i) same in omega (arith, none)) n is;
      }

module _ (old new : CellTree) (at place : ℕ) (node : Node) (left : Tree) (free : List ℕ)
    (h : Holds old at (Branch place node left Empty) free)
    (nodes : (other : Node) → new.nodes.items ≡ set old.nodes.items at (record (get_or old.nodes.items at other) { left = old.free }))
    (chain : new.free ≡ at) (freed : new.freed ≡ old.freed + 1) where
  abbrev gave_left_node : Node
  gave_left_node = record (get_or old.nodes.items at node) { left = old.free }

  gave_left_own : one place at ≡ 1
  gave_left_own = subst (λ i. ◌≡◌ {A = ℕ} (one i at) 1) h.stands.0 (one_same at)

  gave_left_once : (k : ℕ) → one place k + (occurs k left + occurs k Empty) + listed k free ≤ 1
  gave_left_once k = h.once k

  gave_left_here : IsAt new.nodes.items at gave_left_node
  gave_left_here = subst (λ ns. IsAt ns at gave_left_node) (sym (nodes node)) (at_set old.nodes.items at gave_left_node h.stands.1.within)

  gave_left_others : (k : ℕ) → ¬ (k ≡ at) → (n : Node) → IsAt old.nodes.items k n → IsAt new.nodes.items k n
  gave_left_others k apart n is =
      subst (λ ns. IsAt ns k n) (sym (nodes node)) (at_other old.nodes.items at k gave_left_node n apart is)

  gave_left_apart : (k : ℕ) (f : ℕ → ℕ) → 0 < f k → ◌≡◌ {A = ℕ} (f at) 0 → ¬ (k ≡ at)
  gave_left_apart k f some none same = let moved = ap f same in omega arith

  pub gave_left : Turns old new node.left (Branch place node left Empty) free left (place ∷ free)
  gave_left =
      let own = gave_left_own in
      let mine = gave_left_once at in
      record {
        stands = stands_kept old.nodes.items new.nodes.items node.left left h.stands.2
            (λ k some n is. gave_left_others k (gave_left_apart k (λ i. occurs i left) some (omega arith)) n is);
        chain = (
          chain ∙ h.stands.0,
          (
            gave_left_node,
            subst (λ i. IsAt new.nodes.items i gave_left_node) (sym chain) gave_left_here,
            chain_kept old.nodes.items new.nodes.items old.free free h.chain
                (λ k some n is. gave_left_others k (gave_left_apart k (λ i. listed i free) some (omega arith)) n is),
          ),
        );
        freed = omega (arith, freed, h.freed);
        kept = λ k. omega arith;
        counted = omega arith;
        length = ap length (nodes node) ∙ length-set old.nodes.items at gave_left_node;
        same = λ k none n is.
            gave_left_others k (λ same. let moved = ap (λ i. one place i) same in omega (arith, none)) n is;
      }
