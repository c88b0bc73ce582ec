-- Trees in a vector of nodes: a node gets another tree on one side, or another entry.
use Rattle.std.proofs.Common.{◌≡◌, ℕ, ◌+◌, ◌≤◌, List, refl, ap, subst, ◌∙◌, arith, get_or, set}
use Rattle.cover_table.specs.declared.nodes.Entry.{Entry}
use Rattle.cover_table.specs.declared.nodes.Node.{Node}
use Rattle.cover_table.specs.declared.tree.CellTree.{CellTree}
use Rattle.cover_table.specs.Trees.{Tree, Branch, Holds, IsAt, Turns, listed, occurs, one}
use Rattle.cover_table.proofs.Standing.{one_same}
use Rattle.cover_table.proofs.Turning.{left_holds, linked_left, linked_right, stays}

-- a node gets another tree on its left, and its number
pub relinked_left : (old mid new : CellTree) (at place child : ℕ) (node : Node) (left right : Tree) (free : List ℕ)
    (left' : Tree) (free' : List ℕ) → Holds old at (Branch place node left right) free
    → Turns old mid child left free left' free'
    → ((other : Node) → new.nodes.items ≡ set mid.nodes.items at (record (get_or mid.nodes.items at other) { left = child }))
    → new.free ≡ mid.free → new.freed ≡ mid.freed
    → Turns old new at (Branch place node left right) free (Branch place (record node { left = child }) left' right) free'
relinked_left old mid new at place child node left right free left' free' h t nodes chain freed =
    let own : one place at ≡ 1 = subst (λ i. ◌≡◌ {A = ℕ} (one i at) 1) h.stands.0 (one_same at) in
    let mine : one place at + (occurs at left + occurs at right) + listed at free ≤ 1 = h.once at in
    let here : IsAt mid.nodes.items at node = t.same at (omega arith) node h.stands.1 in
    linked_left old mid new at place child node (record node { left = child }) left right free left' free' h t refl refl
    (nodes node ∙ ap (λ (n : Node). set mid.nodes.items at (record n { left = child })) (here.here node)) chain freed

-- a node gets another tree on its right, and its number
pub relinked_right : (old mid new : CellTree) (at place child : ℕ) (node : Node) (left right : Tree) (free : List ℕ)
    (right' : Tree) (free' : List ℕ) → Holds old at (Branch place node left right) free
    → Turns old mid child right free right' free'
    → ((other : Node) → new.nodes.items ≡ set mid.nodes.items at (record (get_or mid.nodes.items at other) { right = child }))
    → new.free ≡ mid.free → new.freed ≡ mid.freed
    → Turns old new at (Branch place node left right) free (Branch place (record node { right = child }) left right') free'
relinked_right old mid new at place child node left right free right' free' h t nodes chain freed =
    let own : one place at ≡ 1 = subst (λ i. ◌≡◌ {A = ℕ} (one i at) 1) h.stands.0 (one_same at) in
    let mine : one place at + (occurs at left + occurs at right) + listed at free ≤ 1 = h.once at in
    let here : IsAt mid.nodes.items at node = t.same at (omega arith) node h.stands.1 in
    linked_right old mid new at place child node (record node { right = child }) left right free right' free' h t refl refl
    (nodes node ∙ ap (λ (n : Node). set mid.nodes.items at (record n { right = child })) (here.here node)) chain freed

-- a node gets another entry
pub reentered : (old new : CellTree) (at place : ℕ) (node : Node) (entry : Entry) (left right : Tree) (free : List ℕ)
    → Holds old at (Branch place node left right) free
    → ((other : Node) → new.nodes.items ≡ set old.nodes.items at (record (get_or old.nodes.items at other) { entry = entry }))
    → new.free ≡ old.free → new.freed ≡ old.freed
    → Turns old new at (Branch place node left right) free (Branch place (record node { entry = entry }) left right) free
reentered old new at place node entry left right free h nodes chain freed =
    linked_left old old new at place node.left node (record node { entry = entry }) left right free left free h
    (stays old node.left left free (left_holds old at place node left right free h)) refl refl
    (nodes node ∙ ap (λ (n : Node). set old.nodes.items at (record n { entry = entry })) (h.stands.1.here node)) chain freed
