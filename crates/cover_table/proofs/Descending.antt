-- What is written below a node: the block of its side, and the entry in it.
use Rattle.std.proofs.Common.{◌≡◌, ℕ, ◌+◌, ◌<◌, ◌≤◌, arith}
use Rattle.urpf_base.specs.Address.{cleared}
use Rattle.cover_table.specs.declared.nodes.Entry.{Entry}
use Rattle.cover_table.specs.Trees.{IsWithin, size}
use Rattle.cover_table.proofs.Blocks.{covered_within, into_lower, into_upper, lower_zeros, upper_zeros}

module _ (w low d : ℕ) (node entry : Entry) (outer : IsWithin w low d node) (inner : IsWithin w low d entry)
    (longer : node.len < entry.len) (from : node.bits ≤ entry.bits) (below : entry.bits < node.bits + size w node.len) where
  abbrev more : node.len < w
  more = omega (arith, longer, inner.within)

  abbrev covered : IsWithin w node.bits node.len entry
  covered = covered_within w node entry (omega (arith, longer)) inner.within outer.zeros inner.zeros from below

  pub on_left : entry.bits < node.bits + size w (node.len + 1) → IsWithin w node.bits (node.len + 1) entry
  on_left less = into_lower w node.bits node.len entry covered outer.zeros longer less

  pub on_right : node.bits + size w (node.len + 1) ≤ entry.bits
      → IsWithin w (node.bits + size w (node.len + 1)) (node.len + 1) entry
  on_right past = into_upper w node.bits node.len entry covered longer past

  pub left_whole : cleared w (node.len + 1) node.bits ≡ node.bits
  left_whole = lower_zeros w node.len node.bits more outer.zeros

  pub right_whole : cleared w (node.len + 1) (node.bits + size w (node.len + 1)) ≡ node.bits + size w (node.len + 1)
  right_whole = upper_zeros w node.len node.bits more outer.zeros
