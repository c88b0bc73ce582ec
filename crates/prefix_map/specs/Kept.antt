-- How a map is kept: the prefixes of IPv4 in one ordered map, and those of IPv6 in another.
use Rattle.std.specs.Prelude.{◌≡◌, ◌⊎◌, ℕ, ◌+◌, ◌^◌, ◌<◌, IsTrue, List, ◌++◌, map, length}
use Rattle.std.specs.Coded.{Coded, code_by, coded×, coded⊎, coded_ℕ}
use Rattle.std.specs.FinMap as finite
use Rattle.std.proofs.Common.{inl, inr, refl}
use Rattle.urpf_base.specs.Address.{Block}
use Rattle.urpf_base.specs.Order.{prefix_order}
use Rattle.urpf_base.specs.declared.address.Addr.{Addr}
use Rattle.urpf_base.specs.declared.address.Addr.TheVariants.{V4, V6}
use Rattle.prefix_map.specs.declared.keys.ShortKey.{ShortKey}
use Rattle.prefix_map.specs.declared.keys.LongKey.{LongKey}
use Rattle.prefix_map.specs.Keys.{short_block, long_block}
use Rattle.prefix_map.specs.Mapped.{Mapped}

-- the pairs under what their keys stand for
abbrev pub under : {A K X : Type 0} → (A → K) → List (A × X) → List (K × X)
under f pairs = map (λ e. (f e.0, e.1)) pairs

-- first the pairs of the one list, and then those of the other
abbrev pub joined : {A B K X : Type 0} → (A → K) → (B → K) → List (A × X) → List (B × X) → List (K × X)
joined left right xs ys = under left xs ++ under right ys

-- the map that has the pairs of both families
abbrev pub seen : {V : Type 0} → List (ShortKey × V) → List (LongKey × V) → Mapped V
seen short long = finite.from_sorted (joined short_block long_block short long)

-- the keys of each family ascend, and there are fewer than 2^63 pairs
pub record AreKept {V : Type 0} (short : List (ShortKey × V)) (long : List (LongKey × V)) : Type 0 where
  pub shorts : IsTrue (finite.is_sorted (λ x y. prefix_order (short_block x) (short_block y)) short)
  pub longs : IsTrue (finite.is_sorted (λ x y. prefix_order (long_block x) (long_block y)) long)
  pub count : length short + length long < 2 ^ 63

-- an address as a number on the side of its family: IPv4 on the left, IPv6 on the right
abbrev pub addr_parts : Addr → ℕ ⊎ ℕ
addr_parts (V4 a) = inl a
addr_parts (V6 a) = inr a

-- the address that such a number stands for
abbrev pub addr_from : ℕ ⊎ ℕ → Addr
addr_from (inl a) = V4 a
addr_from (inr a) = V6 a

-- an address is told from its parts
pub addr_from-addr_parts : (a : Addr) → addr_from (addr_parts a) ≡ a
addr_from-addr_parts (V4 a) = refl
addr_from-addr_parts (V6 a) = refl

-- how addresses are told apart
abbrev pub addr_code : Coded Addr
addr_code = code_by (ℕ ⊎ ℕ) (coded⊎ coded_ℕ coded_ℕ) addr_parts addr_from addr_from-addr_parts

-- how prefixes are told apart
abbrev pub block_code : Coded Block
block_code =
    code_by (Addr × ℕ) (coded× addr_code coded_ℕ) (λ b. (b.addr, b.len)) (λ p. record { addr = p.0; len = p.1 })
    (λ _. refl)

-- how maps are told apart
abbrev pub map_code : {V : Type 0} → Coded V → Coded (Mapped V)
map_code value = finite.code block_code value
