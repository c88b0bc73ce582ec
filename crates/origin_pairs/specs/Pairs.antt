-- Pairs of a prefix and an AS, and sets of them.
use Rattle.std.specs.Prelude.{◌≡◌, ◌↔◌, ◌⊎◌, ℕ, ◌+◌, List, length}
use Rattle.std.specs.List.Sorted.{IsStrictlySortedBy}
use Rattle.std.specs.Ordering.{nat_cmp, ordering_then}
use Rattle.std.specs.declared.cmp.Ordering.{Ordering}
use Rattle.urpf_base.specs.Address.{Block}
use Rattle.urpf_base.specs.Lists.{AreDistinct, Has}
use Rattle.urpf_base.specs.Order.{prefix_order}

-- a prefix, and an AS that may originate it as a ROA or a route object says (RFC 6482, section 3; RFC 2622, section 4)
abbrev pub Pair : Type 0
Pair = Block × ℕ

-- by the prefix first, then by the AS
abbrev pub pair_order : Pair → Pair → Ordering
pair_order a b = ordering_then (prefix_order a.0 b.0) (nat_cmp a.1 b.1)

-- the pairs ascend
abbrev pub AreAscending : List Pair → Type 0
AreAscending pairs = IsStrictlySortedBy pair_order pairs

-- the same pairs stand in both lists
abbrev pub AreSamePairs : List Pair → List Pair → Type 0
AreSamePairs a b = (pair : Pair) → Has a pair ↔ Has b pair

-- the set has the pairs of the list, each once
pub record IsPairSet (pairs set : List Pair) : Type 0 where
  pub members : AreSamePairs set pairs
  pub distinct : AreDistinct set

-- the new set has the pairs of the old one and this one, which the old one has not
pub record HasOneMore (pair : Pair) (old new : List Pair) : Type 0 where
  pub fresh : ¬ Has old pair
  pub members : (other : Pair) → Has new other ↔ ((other ≡ pair) ⊎ Has old other)
  pub distinct : AreDistinct new ↔ AreDistinct old
  pub many : length new ≡ length old + 1
