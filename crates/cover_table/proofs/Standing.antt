-- Trees in a vector of nodes: what stays as it is when nodes of others are written.
use Rattle.std.proofs.Common.{◌≡◌, ℕ, zero, suc, ◌<◌, ◌==◌, Bool, true, false, cond, List, [], ◌∷◌, length}
use Rattle.std.proofs.Common.{refl, sym, ap, subst, ◌∙◌, arith, get_or, set, get_or-set_other, get_or-set_same, length-set}
use Rattle.std.proofs.lemmas.Bool.{eq-eqb, eqb-true}
use Rattle.cover_table.specs.declared.nodes.Node.{Node}
use Rattle.cover_table.specs.Trees.{Tree, Empty, Branch, IsAt, IsChain, Stands, listed, no_place}
use Rattle.cover_table.specs.Trees.{occurs, one}

pub one_same : (k : ℕ) → one k k ≡ 1
one_same k = ap (λ b. cond b 1 0) (eq-eqb k k refl)

one_other_by : (b : Bool) (i k : ℕ) → (i == k) ≡ b → ¬ (i ≡ k) → ◌≡◌ {A = ℕ} (cond b 1 0) 0
one_other_by true i k is other = absurd (other (eqb-true i k is))
one_other_by false i k is other = refl

pub one_other : (i k : ℕ) → ¬ (i ≡ k) → one i k ≡ 0
one_other i k other = one_other_by (i == k) i k refl other

-- trees and chains stand where their own nodes are as they were
abbrev pub Kept : List Node → List Node → (ℕ → ℕ) → Type 0
Kept old new times = (k : ℕ) → 0 < times k → (node : Node) → IsAt old k node → IsAt new k node

pub stands_kept : (old new : List Node) (at : ℕ) (tree : Tree) → Stands old at tree → Kept old new (λ k. occurs k tree)
    → Stands new at tree
stands_kept old new at Empty stands kept = stands
stands_kept old new at (Branch place node left right) stands kept = (
  stands.0,
  let one = one_same place in
      let own : IsAt old place node = subst (λ i. IsAt old i node) stands.0 stands.1 in
      subst (λ i. IsAt new i node) (sym stands.0) (kept place (omega arith) node own),
  stands_kept old new node.left left stands.2 (λ k some n is. kept k (omega (arith, some)) n is),
  stands_kept old new node.right right stands.3 (λ k some n is. kept k (omega (arith, some)) n is),
)

pub chain_kept : (old new : List Node) (at : ℕ) (places : List ℕ) → IsChain old at places
    → Kept old new (λ k. listed k places) → IsChain new at places
chain_kept old new at [] chain kept = chain
chain_kept old new at (place ∷ places) chain kept = (
  chain.0,
  let one = one_same place in
      let node : Node = chain.1.0 in
      let own : IsAt old place node = subst (λ i. IsAt old i node) chain.0 chain.1.1 in (
        node,
        subst (λ i. IsAt new i node) (sym chain.0) (kept place (omega arith) node own),
        chain_kept old new node.left places chain.1.2 (λ k some n is. kept k (omega (arith, some)) n is),
      ),
)

-- one node is written
pub at_set : (nodes : List Node) (i : ℕ) (node : Node) → i < length nodes → IsAt (set nodes i node) i node
at_set nodes i node within = record {
  within = omega (arith, length-set nodes i node);
  here = λ other. get_or-set_same nodes i node other within;
}

pub at_other : (nodes : List Node) (i k : ℕ) (node other : Node) → ¬ (k ≡ i) → IsAt nodes k other
    → IsAt (set nodes i node) k other
at_other nodes i k node other apart is = record {
  within = omega (arith, length-set nodes i node, is.within);
  here = λ d. get_or-set_other nodes i k node d apart ∙ is.here d;
}

-- a node is the one that stands there
pub same_node : (nodes : List Node) (i : ℕ) (a b : Node) → IsAt nodes i a → IsAt nodes i b → a ≡ b
same_node nodes i a b first second = sym (first.here a) ∙ second.here a

-- where the number is that of a node, the tree has one
pub not_empty : (nodes : List Node) (at : ℕ) → ¬ (at ≡ no_place) → ¬ Stands nodes at Empty
not_empty nodes at other stands = other stands

pub stands_within : (nodes : List Node) (at : ℕ) (tree : Tree) → Stands nodes at tree → ¬ (at ≡ no_place)
    → at < length nodes
stands_within nodes at Empty stands other = absurd (other stands)
stands_within nodes at (Branch place node left right) stands other = stands.1.within

-- what is read at a place stands there
pub at_place : (nodes : List Node) (i : ℕ) (node : Node) → i < length nodes → node ≡ get_or nodes i node
    → IsAt nodes i node
at_place nodes i node within is = record {
  within = within;
  here = λ other. get_or_any nodes i other node within ∙ sym is;
}
  where
    get_or_any : (xs : List Node) (k : ℕ) (a b : Node) → k < length xs → get_or xs k a ≡ get_or xs k b
    get_or_any [] k a b below = absurd (omega arith)
    get_or_any (x ∷ xs) zero a b below = refl
    get_or_any (x ∷ xs) (suc k) a b below = get_or_any xs k a b (omega arith)
