-- Trees over the prefixes of one family, in one vector of nodes that name each other by numbers. Our own choice.
use Rattle.std.specs.Prelude.{◌≡◌, ℕ, zero, suc, ◌+◌, ◌-◌, ◌^◌, ◌≤◌, ◌<◌, ◌==◌, ◌⊎◌, false, if◌then◌else◌, length}
use Rattle.std.specs.Prelude.{List, [], ◌∷◌, ◌++◌, slice_index_or, slice_get, Option, Some, None, min, ◌/◌}
use Rattle.urpf_base.specs.Address.{Block, cleared}
use Rattle.urpf_base.specs.declared.address.Addr.{Addr}
use Rattle.urpf_base.specs.declared.address.Addr.TheVariants.{V4, V6}
use Rattle.urpf_base.specs.declared.cells.Cell.{Cell}
use Rattle.urpf_base.specs.declared.cells.CellChange.{CellChange}
use Rattle.cover_table.specs.declared.nodes.Entry.{Entry}
use Rattle.cover_table.specs.declared.nodes.Node.{Node}
use Rattle.cover_table.specs.declared.tree.CellTree.{CellTree}
use Rattle.cover_table.specs.Tables.{is_empty_cell}

-- a tree: a node with its number, the lower addresses below it, and the higher ones
pub data Tree : Type 0 where
  Empty : Tree
  Branch : ℕ → Node → Tree → Tree → Tree

-- the number that no node has
abbrev pub no_place : ℕ
no_place = 4294967295

abbrev pub entry_cell : Entry → Cell
entry_cell entry = record { f = entry.f; a = entry.a; z = entry.z }

abbrev pub cell_of : Node → Cell
cell_of node = entry_cell node.entry

abbrev pub leaf_of : Entry → Node
leaf_of entry = record { entry = entry; left = no_place; right = no_place }

-- a node that is free, which names the next
abbrev pub link_of : ℕ → Node
link_of next = record {
  entry = record { bits = 0; f = 0; a = 0; len = 0; z = false };
  left = next;
  right = no_place;
}

-- how many addresses a prefix covers, in a family of so many bits
unfoldable pub size : ℕ → ℕ → ℕ
size width len = 2 ^ (width - len)

-- the address of a number, by the bits of its family
abbrev pub addr_of : ℕ → ℕ → Addr
addr_of width bits = if width == 32 then V4 bits else V6 bits

abbrev pub block_for : ℕ → Entry → Block
block_for width entry = record { addr = addr_of width entry.bits; len = entry.len }

abbrev pub change_for : ℕ → Entry → CellChange
change_for width entry = record { prefix = block_for width entry; cell = entry_cell entry }

-- the cell of a change, by the number of its address
abbrev pub entry_for : ℕ → CellChange → Entry
entry_for bits change = record {
  bits = bits;
  f = change.cell.f;
  a = change.cell.a;
  len = change.prefix.len;
  z = change.cell.z;
}

-- the row of an entry; one that is empty has none
abbrev pub own_rows : ℕ → Entry → List (Block × Cell)
own_rows width entry = if is_empty_cell (entry_cell entry) then [] else (block_for width entry, entry_cell entry) ∷ []

-- the rows of a tree: those of a node, then those of the lower addresses, and then those of the higher ones
abbrev pub rows_of : ℕ → Tree → List (Block × Cell)
rows_of width Empty = []
rows_of width (Branch place node left right) =
    own_rows width node.entry ++ (rows_of width left ++ rows_of width right)

-- the prefix of the entry is one of the block that begins with these bits, and its own bits past its length are zero
pub record IsWithin (width low depth : ℕ) (entry : Entry) : Type 0 where
  pub deeper : depth ≤ entry.len
  pub within : entry.len ≤ width
  pub from : low ≤ entry.bits
  pub to : entry.bits + size width entry.len ≤ low + size width depth
  pub zeros : cleared width entry.len entry.bits ≡ entry.bits

-- one of two prefixes ends before the other one begins
abbrev pub AreApart : ℕ → Entry → Entry → Type 0
AreApart width a b = (a.bits + size width a.len ≤ b.bits) ⊎ (b.bits + size width b.len ≤ a.bits)

-- the prefixes of a tree are of the block, and those below a node are longer and on their side
abbrev pub IsOrdered : ℕ → ℕ → ℕ → Tree → Type 0
IsOrdered width low depth Empty = Unit {0}
IsOrdered width low depth (Branch place node left right) =
    IsWithin width low depth node.entry
    × IsOrdered width node.entry.bits (node.entry.len + 1) left
    × IsOrdered width (node.entry.bits + size width (node.entry.len + 1)) (node.entry.len + 1) right

-- the node with this number
pub record IsAt (nodes : List Node) (place : ℕ) (node : Node) : Type 0 where
  pub within : place < length nodes
  pub here : (other : Node) → slice_index_or nodes place other ≡ node

-- the nodes hold the tree, whose first node has this number
abbrev pub Stands : List Node → ℕ → Tree → Type 0
Stands nodes at Empty = at ≡ no_place
Stands nodes at (Branch place node left right) =
    (at ≡ place) × IsAt nodes at node × Stands nodes node.left left × Stands nodes node.right right

-- the nodes that are free, each naming the next
abbrev pub IsChain : List Node → ℕ → List ℕ → Type 0
IsChain nodes at [] = at ≡ no_place
IsChain nodes at (place ∷ places) = (at ≡ place) × ((node : Node) × IsAt nodes at node × IsChain nodes node.left places)

abbrev pub one : ℕ → ℕ → ℕ
one place k = if place == k then 1 else 0

-- a node and what is below it, where there is one
abbrev pub grown : Option Node → ℕ → (ℕ → Tree) → Tree
grown None at below = Empty
grown (Some node) at below = Branch at node (below node.left) (below node.right)

-- the tree that begins at this node, down to so many nodes
unfoldable pub tree_at : ℕ → List Node → ℕ → Tree
tree_at zero nodes at = Empty
tree_at (suc most) nodes at = grown (slice_get nodes at) at (λ child. tree_at most nodes child)

-- the tree of the nodes, which has a node for each length at most on the way to each of them
unfoldable pub tree_of : CellTree → Tree
tree_of nodes = tree_at 129 nodes.nodes.items nodes.root

-- how often a number is in a list, and in a tree
abbrev pub listed : ℕ → List ℕ → ℕ
listed k [] = 0
listed k (place ∷ places) = one place k + listed k places

abbrev pub occurs : ℕ → Tree → ℕ
occurs k Empty = 0
occurs k (Branch place node left right) = one place k + (occurs k left + occurs k right)

-- how many nodes a tree has
abbrev pub count : Tree → ℕ
count Empty = 0
count (Branch place node left right) = 1 + (count left + count right)

-- the nodes hold the tree and the chain of those that are free, none of them twice
pub record Holds (nodes : CellTree) (at : ℕ) (tree : Tree) (free : List ℕ) : Type 0 where
  pub stands : Stands nodes.nodes.items at tree
  pub chain : IsChain nodes.nodes.items nodes.free free
  pub freed : nodes.freed ≡ length free
  pub once : (k : ℕ) → occurs k tree + listed k free ≤ 1
  pub counted : count tree + length free ≤ length nodes.nodes.items
  pub numbered : length nodes.nodes.items ≤ no_place

-- nodes that held one tree hold another one, with no node lost, and no other node is changed
pub record Turns (old new : CellTree) (at : ℕ) (tree : Tree) (free : List ℕ) (tree' : Tree) (free' : List ℕ) : Type 0 where
  pub stands : Stands new.nodes.items at tree'
  pub chain : IsChain new.nodes.items new.free free'
  pub freed : new.freed ≡ length free'
  pub kept : (k : ℕ) → occurs k tree' + listed k free' ≡ occurs k tree + listed k free
  pub counted : count tree' + length free' ≡ count tree + length free
  pub length : length new.nodes.items ≡ length old.nodes.items
  pub same : (k : ℕ) → occurs k tree + listed k free ≡ 0 → (node : Node) → IsAt old.nodes.items k node
      → IsAt new.nodes.items k node

-- a tree of a block stands there
pub record IsReady (nodes : CellTree) (width at low depth : ℕ) : Type 0 where
  pub tree : Tree
  pub free : List ℕ
  pub holds : Holds nodes at tree free
  pub ordered : IsOrdered width low depth tree

-- what stands there then: a tree of the block with these rows, for which so many free nodes were taken
pub record Results (old new : CellTree) (width low depth : ℕ) (tree : Tree) (free : List ℕ) (at : ℕ)
    (rows : List (Block × Cell)) (most : ℕ) : Type 0 where
  pub tree' : Tree
  pub free' : List ℕ
  pub turns : Turns old new at tree free tree' free'
  pub written : rows_of width tree' ≡ rows
  pub ordered : IsOrdered width low depth tree'
  pub taken : length free ≤ length free' + most

-- each node of the vector is one of the tree, or is free
pub record IsWhole (width : ℕ) (nodes : CellTree) : Type 0 where
  pub ready : IsReady nodes width nodes.root 0 0
  pub all : count ready.tree + length ready.free ≡ length nodes.nodes.items

-- the rows of both families, IPv4 first
abbrev pub all_rows : CellTree → CellTree → List (Block × Cell)
all_rows short long = rows_of 32 (tree_of short) ++ rows_of 128 (tree_of long)

-- how many nodes a tree can take without memory: those that are free, and those that can be added
abbrev pub spare_nodes : CellTree → ℕ
spare_nodes nodes = nodes.freed + nodes.nodes.room

-- how many more cells both trees can take in: a cell may need two nodes
abbrev pub spare_of : CellTree → CellTree → ℕ
spare_of short long = min (spare_nodes short) (spare_nodes long) / 2

-- both trees are whole, and their nodes have room for the addresses of their families
pub record AreTrees (first second : CellTree) : Type 0 where
  pub four : IsWhole 32 first
  pub six : IsWhole 128 second
  pub highest_four : first.nodes.highest ≡ 2 ^ 32 - 1
  pub highest_six : second.nodes.highest ≡ 2 ^ 128 - 1
