-- The nodes of a tree, each in as few octets as the addresses of its family need. Our own choice.
use Rattle.std.specs.Prelude.{ℕ, List, map, vec_capacity}
use Rattle.cover_table.specs.declared.node_list.Store.{Store}
use Rattle.cover_table.specs.declared.node_list.Store.TheVariants.{Short, Long}
use Rattle.cover_table.specs.declared.nodes.Node.{Node}
use Rattle.cover_table.specs.declared.slots.Slot.{Slot}

-- the nodes by their numbers, how many more can be added without memory, and the highest address that a node can have
pub record NodeState : Type 0 where
  pub items : List Node
  pub room : ℕ
  pub highest : ℕ

-- the node of a slot with its address, and with another one
abbrev pub node_with : {B : Type 0} → ℕ → Slot B → Node
node_with bits slot = record {
  entry = record { bits = bits; f = slot.f; a = slot.a; len = slot.len; z = slot.z };
  left = slot.left;
  right = slot.right;
}

abbrev pub node_of : Slot ℕ → Node
node_of slot = node_with slot.bits slot

-- the slot of a node
abbrev pub slot_of : {B : Type 0} → B → Node → Slot B
slot_of bits node = record {
  f = node.entry.f;
  a = node.entry.a;
  bits = bits;
  left = node.left;
  right = node.right;
  len = node.entry.len;
  z = node.entry.z;
}

-- the nodes that are stored, for how many there is memory, and the highest address of the family
abbrev pub stored : Store → List Node
stored (Short slots) = map node_of slots.items
stored (Long slots) = map node_of slots.items

abbrev pub capacity_of : Store → ℕ
capacity_of (Short slots) = vec_capacity slots
capacity_of (Long slots) = vec_capacity slots

abbrev pub highest_of : Store → ℕ
highest_of (Short slots) = 4294967295
highest_of (Long slots) = 340282366920938463463374607431768211455
