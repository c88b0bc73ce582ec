-- A walk that runs ahead of another, to find which interfaces have a prefix. Our own choice.
use Rattle.std.specs.Prelude.{◌≡◌, ◌↔◌, ℕ, List, [], ◌∷◌, Option, Some, None}
use Rattle.std.specs.Coded.{Coded, code_by, coded×, coded_list, coded_option, coded_ℕ}
use Rattle.std.specs.List.{AllByRecursion}
use Rattle.std.proofs.Common.{refl}
use Rattle.urpf_base.specs.Address.{Block}
use Rattle.urpf_base.specs.Masks.{InMask}
use Rattle.urpf_base.specs.Order.{IsBefore}
use Rattle.prefix_map.specs.Kept.{block_code}
use Rattle.rpf_plain.specs.Kept.{row_code}
use Rattle.rpf_plain.specs.Walks.{Hears}
use Rattle.rpf_plain.specs.declared.rows.Row.{Row}

-- no row is of a prefix before that of an earlier row
abbrev pub InPrefixOrder : List Row → Type 0
InPrefixOrder [] = Unit {0}
InPrefixOrder (row ∷ rows) = AllByRecursion (λ later. ¬ IsBefore later.prefix row.prefix) rows × InPrefixOrder rows

-- the prefix that was asked for last, the interfaces that have it, and the rows that were not looked at
pub record Found : Type 0 where
  pub at : Option Block
  pub ifaces : ℕ
  pub left : List Row

-- how such walks are told apart
abbrev pub found_code : Coded Found
found_code =
    code_by (Option Block × (ℕ × List Row)) (coded× (coded_option block_code) (coded× coded_ℕ (coded_list row_code)))
    (λ f. (f.at, (f.ifaces, f.left))) (λ p. record { at = p.0; ifaces = p.1.0; left = p.1.1 }) (λ _. refl)

-- the prefix is none before the one that was asked for last
abbrev pub NotBefore : Option Block → Block → Type 0
NotBefore None p = Unit {0}
NotBefore (Some q) p = ¬ IsBefore p q

-- the prefix is behind the one that was asked for last
abbrev pub IsBehind : Option Block → Block → Type 0
IsBehind None p = Unit {0}
IsBehind (Some q) p = IsBefore q p

-- the walk goes over these rows: it knows who has the prefix, and finds who has one behind it in the rows that are left
pub record GoesOver (rows : List Row) (found : Found) : Type 0 where
  pub ifaces : (p : Block) → found.at ≡ Some p → (i : ℕ) → (InMask found.ifaces i ↔ Hears rows i p)
  pub left : (p : Block) → IsBehind found.at p → (i : ℕ) → (Hears found.left i p ↔ Hears rows i p)
