-- The tree that a vector of nodes holds is the one that it stands for.
use Rattle.std.proofs.Common.{◌≡◌, ℕ, zero, suc, ◌+◌, ◌-◌, ◌^◌, ◌<◌, ◌≤◌, List, [], ◌∷◌, ◌++◌, length, Some}
use Rattle.std.proofs.Common.{inl, inr, refl, sym, ap, subst, ◌∙◌, arith, get_or, cond, Bool, true, false, ◌==◌, length-append}
use Rattle.std.proofs.lemmas.Bool.{cases_eq}
use Rattle.std.proofs.lemmas.Option.{slice_get_past}
use Rattle.std.specs.Prelude.{slice_get}
use Rattle.urpf_base.specs.Address.{cleared}
use Rattle.cover_table.specs.declared.nodes.Entry.{Entry}
use Rattle.cover_table.specs.declared.nodes.Node.{Node}
use Rattle.cover_table.specs.declared.tree.CellTree.{CellTree}
use Rattle.cover_table.specs.Rows.{rows_written}
use Rattle.cover_table.specs.Trees.{Tree, Empty, Branch, Holds, IsAt, IsChain, IsOrdered, IsReady, IsWhole, IsWithin, Results}
use Rattle.cover_table.specs.Trees.{Stands, change_for, grown, listed, no_place, occurs, one, rows_of, size, spare_nodes, tree_at, tree_of}
use Rattle.cover_table.proofs.Blocks.{covered_within, from_parts, size_is}
use Rattle.cover_table.proofs.Standing.{chain_kept, one_other, stands_kept}
use Rattle.cover_table.proofs.Turning.{turned_holds}

got : (nodes : List Node) (i : ℕ) (node : Node) → i < length nodes → get_or nodes i node ≡ node
    → slice_get nodes i ≡ Some node
got [] i node within is = absurd (omega arith)
got (x ∷ nodes) zero node within is = ap Some is
got (x ∷ nodes) (suc i) node within is = got nodes i node (omega arith) is

pub stands_for : (nodes : List Node) (w low d at most : ℕ) (tree : Tree) → Stands nodes at tree
    → length nodes ≤ no_place → IsOrdered w low d tree → w + 1 ≤ d + most → tree_at most nodes at ≡ tree
unfolding tree_at
stands_for nodes w low d at zero Empty stands few ordered deep = refl
stands_for nodes w low d at (suc most) Empty stands few ordered deep =
    ap (λ o. grown o at (λ child. tree_at most nodes child)) (slice_get_past nodes at (omega (arith, stands)))
stands_for nodes w low d at zero (Branch place node left right) stands few ordered deep =
    absurd (omega (arith, ordered.0.deeper, ordered.0.within))
stands_for nodes w low d at (suc most) (Branch place node left right) stands few ordered deep =
    ap (λ o. grown o at (λ child. tree_at most nodes child))
    (got nodes at node stands.1.within (stands.1.here node))
    ∙ (λ i. Branch (stands.0 i) node
    (stands_for nodes w node.entry.bits (node.entry.len + 1) node.left most left stands.2 few ordered.1
    (omega (arith, deep, ordered.0.deeper)) i)
    (stands_for nodes w (node.entry.bits + size w (node.entry.len + 1)) (node.entry.len + 1) node.right most right
    stands.3 few ordered.2 (omega (arith, deep, ordered.0.deeper)) i))

-- the tree that is ready is the tree of the nodes
pub tree_is : (m : CellTree) (w : ℕ) → w ≤ 128 → (ready : IsReady m w m.root 0 0) → tree_of m ≡ ready.tree
unfolding tree_of
tree_is m w few ready =
    stands_for m.nodes.items w 0 0 m.root 129 ready.tree ready.holds.stands ready.holds.numbered ready.ordered (omega arith)

pub empty_whole : (m : CellTree) → m.nodes.items ≡ [] → m.root ≡ no_place → m.free ≡ no_place → m.freed ≡ 0
    → (w : ℕ) → IsWhole w m
empty_whole m none root free freed w = record {
  ready = record {
    tree = Empty;
    free = [];
    holds = record {
      stands = root;
      chain = free;
      freed = freed;
      once = λ k. omega arith;
      counted = omega arith;
      numbered = let is = ap length none in omega (arith, is);
    };
    ordered = tt;
  };
  all = let is = ap length none in omega (arith, is);
}

pub empty_rows : (m : CellTree) → m.nodes.items ≡ [] → (w : ℕ) → rows_of w (tree_of m) ≡ []
unfolding tree_of tree_at
empty_rows m none w = ap (λ ns. rows_of w (tree_at 129 ns m.root)) none

rerooted : (m : CellTree) (r at : ℕ) (tree : Tree) (free : List ℕ) → Holds m at tree free
    → Holds (record m { root = r }) at tree free
rerooted m r at tree free h = record {
  stands = h.stands;
  chain = h.chain;
  freed = h.freed;
  once = h.once;
  counted = h.counted;
  numbered = h.numbered;
}

module _ (old mid : CellTree) (w r : ℕ) (entry : Entry) (few : w ≤ 128) (whole : IsWhole w old)
    (results : (ready : IsReady old w old.root 0 0)
    → Results old mid w 0 0 ready.tree ready.free r (rows_written (change_for w entry) (rows_of w ready.tree)) 2) where
  abbrev done : Results old mid w 0 0 whole.ready.tree whole.ready.free r
      (rows_written (change_for w entry) (rows_of w whole.ready.tree)) 2
  done = results whole.ready

  abbrev next : IsReady (record mid { root = r }) w r 0 0
  next = record {
    tree = done.tree';
    free = done.free';
    holds = rerooted mid r r done.tree' done.free'
        (turned_holds old mid old.root r whole.ready.tree whole.ready.free done.tree' done.free' whole.ready.holds done.turns);
    ordered = done.ordered;
  }

  pub absorbed_whole : IsWhole w (record mid { root = r })
  absorbed_whole = record {
    ready = next;
    all = done.turns.counted ∙ whole.all ∙ sym done.turns.length;
  }

  pub absorbed_rows : rows_of w (tree_of (record mid { root = r }))
      ≡ rows_written (change_for w entry) (rows_of w (tree_of old))
  absorbed_rows =
      ap (rows_of w) (tree_is (record mid { root = r }) w few next)
      ∙ done.written
      ∙ ap (λ t. rows_written (change_for w entry) (rows_of w t)) (sym (tree_is old w few whole.ready))

  pub absorbed_spare : mid.nodes.room ≡ old.nodes.room → spare_nodes old ≤ spare_nodes (record mid { root = r }) + 2
  absorbed_spare room = omega (arith, room, done.taken, done.turns.freed, whole.ready.holds.freed)

-- each prefix is within the block of all addresses
pub within_all : (w : ℕ) (entry : Entry) → entry.len ≤ w → cleared w entry.len entry.bits ≡ entry.bits
    → entry.bits < 2 ^ w → IsWithin w 0 0 entry
within_all w entry within zeros small =
    let root : Entry = record entry { bits = 0; len = 0 } in
    let whole : w - 0 ≡ w = omega arith in
    let is : size w 0 ≡ 2 ^ w = size_is w 0 ∙ ap (λ k. 2 ^ k) whole in
    covered_within w root entry (omega arith) within (from_parts w 0 0 0 (omega arith)) zeros (omega arith) (omega arith)

-- one more node that is free
at_append : (xs ys : List Node) (k : ℕ) (node : Node) → IsAt xs k node → IsAt (xs ++ ys) k node
at_append xs ys k node is = record {
  within = omega (arith, is.within, length-append xs ys);
  here = λ other. front xs ys k other is.within ∙ is.here other;
}
  where
    front : (xs ys : List Node) (k : ℕ) (d : Node) → k < length xs → get_or (xs ++ ys) k d ≡ get_or xs k d
    front [] ys k d below = absurd (omega arith)
    front (x ∷ xs) ys zero d below = refl
    front (x ∷ xs) ys (suc k) d below = front xs ys k d (omega arith)

at_last : (xs : List Node) (node other : Node) → get_or (xs ++ node ∷ []) (length xs) other ≡ node
at_last [] node other = refl
at_last (x ∷ xs) node other = at_last xs node other

occurs_past : (nodes : List Node) (at k : ℕ) (tree : Tree) → Stands nodes at tree → length nodes ≤ k
    → occurs k tree ≡ 0
occurs_past nodes at k Empty stands past = refl
occurs_past nodes at k (Branch place node left right) stands past =
    let own : one place k ≡ 0 = one_other place k (λ same. omega (arith, same, stands.0, stands.1.within)) in
    let first : occurs k left ≡ 0 = occurs_past nodes node.left k left stands.2 past in
    let second : occurs k right ≡ 0 = occurs_past nodes node.right k right stands.3 past in
    omega arith

listed_past : (nodes : List Node) (at k : ℕ) (free : List ℕ) → IsChain nodes at free → length nodes ≤ k
    → listed k free ≡ 0
listed_past nodes at k [] chain past = refl
listed_past nodes at k (place ∷ free) chain past =
    let own : one place k ≡ 0 = one_other place k (λ same. omega (arith, same, chain.0, chain.1.1.within)) in
    let later : listed k free ≡ 0 = listed_past nodes chain.1.0.left k free chain.1.2 past in
    omega arith

module _ (old new : CellTree) (w : ℕ) (few : w ≤ 128) (node : Node) (left : node.left ≡ old.free)
    (nodes : new.nodes.items ≡ old.nodes.items ++ node ∷ []) (free : new.free ≡ length old.nodes.items)
    (freed : new.freed ≡ old.freed + 1) (root : new.root ≡ old.root) (room : length old.nodes.items < no_place)
    (whole : IsWhole w old) where
  abbrev longer : length new.nodes.items ≡ length old.nodes.items + 1
  longer = ap length nodes ∙ length-append old.nodes.items (node ∷ [])

  kept_all : (k : ℕ) → (n : Node) → IsAt old.nodes.items k n → IsAt new.nodes.items k n
  kept_all k n is = subst (λ ns. IsAt ns k n) (sym nodes) (at_append old.nodes.items (node ∷ []) k n is)

  last_here : IsAt new.nodes.items new.free node
  last_here = record {
    within = omega (arith, longer, free);
    here = λ other.
        subst (λ ns. get_or ns new.free other ≡ node) (sym nodes)
        (subst (λ i. get_or (old.nodes.items ++ node ∷ []) i other ≡ node) (sym free) (at_last old.nodes.items node other));
  }

  added_once : (k : ℕ) → occurs k whole.ready.tree + (one (length old.nodes.items) k + listed k whole.ready.free) ≤ 1
  added_once k =
      let h = whole.ready.holds in
      elim (cases_eq (length old.nodes.items) k) [
        | inl same ↦
            let first = occurs_past old.nodes.items old.root k whole.ready.tree h.stands (omega arith) in
            let second = listed_past old.nodes.items old.free k whole.ready.free h.chain (omega arith) in
            let most : one (length old.nodes.items) k ≤ 1 = one_most (length old.nodes.items) k in
            omega arith
        | inr other ↦
            let none : one (length old.nodes.items) k ≡ 0 = one_other (length old.nodes.items) k other in
            omega (arith, h.once k)
      ]
    where
      one_most_by : (b : Bool) → cond {A = ℕ} b 1 0 ≤ 1
      one_most_by true = omega arith
      one_most_by false = omega arith

      one_most : (i k : ℕ) → one i k ≤ 1
      one_most i k = one_most_by (i == k)

  abbrev added_ready : IsReady new w new.root 0 0
  added_ready =
      let h = whole.ready.holds in
      record {
        tree = whole.ready.tree;
        free = length old.nodes.items ∷ whole.ready.free;
        holds = record {
          stands =
              subst (λ i. Stands new.nodes.items i whole.ready.tree) (sym root)
              (stands_kept old.nodes.items new.nodes.items old.root whole.ready.tree h.stands (λ k _ n is. kept_all k n is));
          chain = (
            free,
            (
              node,
              last_here,
              subst (λ i. IsChain new.nodes.items i whole.ready.free) (sym left)
                  (chain_kept old.nodes.items new.nodes.items old.free whole.ready.free h.chain (λ k _ n is. kept_all k n is)),
            ),
          );
          freed = omega (arith, freed, h.freed);
          once = added_once;
          counted = omega (arith, h.counted, longer);
          numbered = omega (arith, longer, room);
        };
        ordered = whole.ready.ordered;
      }

  pub added_whole : IsWhole w new
  added_whole = record { ready = added_ready; all = omega (arith, whole.all, longer) }

  pub added_tree : tree_of new ≡ tree_of old
  added_tree = tree_is new w few added_ready ∙ sym (tree_is old w few whole.ready)

-- a tree whose room is larger
pub roomier_whole : (old new : CellTree) (w : ℕ) → new.nodes.items ≡ old.nodes.items → new.free ≡ old.free
    → new.freed ≡ old.freed → new.root ≡ old.root → IsWhole w old → IsWhole w new
roomier_whole old new w nodes free freed root whole =
    let h = whole.ready.holds in
    let len = ap length nodes in
    record {
      ready = record {
        tree = whole.ready.tree;
        free = whole.ready.free;
        holds = record {
          stands = moved_stands h.stands;
          chain = subst (λ ns. IsChain ns new.free whole.ready.free) (sym nodes)
              (subst (λ i. IsChain old.nodes.items i whole.ready.free) (sym free) h.chain);
          freed = freed ∙ h.freed;
          once = h.once;
          counted = omega (arith, h.counted, len);
          numbered = omega (arith, h.numbered, len);
        };
        ordered = whole.ready.ordered;
      };
      all = omega (arith, whole.all, len);
    }
  where
    moved_stands : Stands old.nodes.items old.root whole.ready.tree → Stands new.nodes.items new.root whole.ready.tree
    moved_stands s = subst (λ ns. Stands ns new.root whole.ready.tree) (sym nodes)
        (subst (λ i. Stands old.nodes.items i whole.ready.tree) (sym root) s)

pub roomier_tree : (old new : CellTree) → new.nodes.items ≡ old.nodes.items → new.root ≡ old.root
    → tree_of new ≡ tree_of old
unfolding tree_of
roomier_tree old new nodes root i = tree_at 129 (nodes i) (root i)

pub added_length : (a b : List Node) (node : Node) → b ≡ a ++ node ∷ [] → length b ≡ length a + 1
added_length a b node is = ap length is ∙ length-append a (node ∷ [])
