-- The first prefix of a field as a function, beside the relation of what a prefix's spelling is.
use Rattle.std.specs.Prelude.{ℕ, List, [], ◌∷◌, length, take, drop, Option, Some, None, nat_lt, if◌then◌else◌}
use Rattle.urpf_base.specs.Address.{Block, block_of}
use Rattle.urpf_base.specs.Series.{values_in}
use Rattle.bgp_nlri.specs.declared.family.Family.{Family}
use Rattle.bgp_nlri.specs.Nlri.{octets_for, bits_of, addr_from, filled_up}

-- the prefix of this length whose octets begin the text, and the octets after them
abbrev pub cut_prefix : Family → ℕ → List ℕ → Block × List ℕ
cut_prefix family len text =
    (block_of len (addr_from family (filled_up family (take (octets_for len) text))), drop (octets_for len) text)

-- none where the length is past the family's bound, or there are too few octets
abbrev pub prefix_after : Family → ℕ → List ℕ → Option (Block × List ℕ)
prefix_after family len text = if nat_lt (bits_of family) len then None else if nat_lt (length text) (octets_for len)
    then None else Some (cut_prefix family len text)

-- the first prefix of a field, and what is left of the field
abbrev pub prefix_front : Family → List ℕ → Option (Block × List ℕ)
prefix_front family [] = None
prefix_front family (len ∷ text) = prefix_after family len text

-- the prefixes of a field up to the first place where none is spelled
abbrev pub prefixes_in : Family → List ℕ → List Block
prefixes_in family field = values_in (prefix_front family) field
