-- Of each length one prefix alone covers an address, so one look-up for each length tells what any prefix says.
use Rattle.std.proofs.Common.{◌≡◌, ◌⊎◌, ◌↔◌, ℕ, ◌<◌, ◌≤◌, ◌^◌, Bool, Option, Some, None, IsTrue, true, false}
use Rattle.std.proofs.Common.{refl, sym, subst, inl, inr, arith}
use Rattle.std.specs.FinMap.{get}
use Rattle.std.specs.Option.{IsSome}
use Rattle.urpf_base.specs.Address.{Block, Covers, block_of, cleared, width_of}
use Rattle.urpf_base.specs.Lists.{Has}
use Rattle.urpf_base.specs.declared.address.Addr.{Addr}
use Rattle.urpf_base.specs.declared.address.Addr.TheVariants.{V4, V6}
use Rattle.urpf_base.specs.declared.cells.Cell.{Cell}
use Rattle.urpf_base.specs.declared.kinds.Mode.{Mode}
use Rattle.urpf_base.specs.declared.kinds.Mode.TheVariants.{Off, Feasible, Loose, LooseNoDefault, EfpA, EfpB}
use Rattle.urpf_base.proofs.Bits.{cleared-agree}
use Rattle.prefix_map.proofs.Covering.{IsOwn, covers_own}
use Rattle.prefix_map.specs.Keys.{FitsFamily}
use Rattle.prefix_map.specs.Mapped.{Mapped}
use Rattle.rpf_plain.specs.Cells.{cell_at, cell_or_empty}
use Rattle.rpf_plain.specs.Modes.{Says, defaults}
use Rattle.rpf_plain.proofs.Turns.{no_member}

-- what says so is a default route, or is named
named_or_default : (mode : Mode) (iface : ℕ) (p : Block) (o : Option Cell) → Says mode iface p (cell_or_empty o)
    → Has defaults p ⊎ IsSome o
named_or_default Off iface p o says = inl says
named_or_default Feasible iface p None says = absurd (no_member iface says)
named_or_default Feasible iface p (Some c) says = inr refl
named_or_default Loose iface p None says = absurd (says refl)
named_or_default Loose iface p (Some c) says = inr refl
named_or_default LooseNoDefault iface p None says = absurd (says.1 refl)
named_or_default LooseNoDefault iface p (Some c) says = inr refl
named_or_default EfpA iface p None says = absurd (no_member iface says)
named_or_default EfpA iface p (Some c) says = inr refl
named_or_default EfpB iface p None says = absurd cc
named_or_default EfpB iface p (Some c) says = inr refl

none_counts : (width a : ℕ) → a < 2 ^ width → cleared width 0 0 ≡ cleared width 0 a
none_counts width a small =
    cleared-agree width 0 0 a (omega arith) (omega (arith, small)) small (λ i never. absurd (omega (arith, never)))

own_v4 : (addr : Addr) → FitsFamily addr → IsOwn addr (record { addr = V4 0; len = 0 })
own_v4 (V4 a) small covers = (omega arith, λ i. record { addr = V4 (none_counts 32 a small i); len = 0 })
own_v4 (V6 a) small covers = absurd covers

own_v6 : (addr : Addr) → FitsFamily addr → IsOwn addr (record { addr = V6 0; len = 0 })
own_v6 (V4 a) small covers = absurd covers
own_v6 (V6 a) small covers = (omega arith, λ i. record { addr = V6 (none_counts 128 a small i); len = 0 })

own_default : (addr : Addr) (p : Block) → FitsFamily addr → Has defaults p → IsOwn addr p
own_default addr p small (inl is) = subst (IsOwn addr) (sym is) (own_v4 addr small)
own_default addr p small (inr (inl is)) = subst (IsOwn addr) (sym is) (own_v6 addr small)
own_default addr p small (inr (inr never)) = absurd never

module _ (mode : Mode) (iface : ℕ) (cells : Mapped Cell) (addr : Addr) where
  -- the prefix of this length says so
  abbrev pub SaysAt : ℕ → Type 0
  SaysAt len = Says mode iface (block_of len addr) (cell_at cells (block_of len addr))

  -- some prefix that covers the address says so
  abbrev pub SomeSaysSo : Type 0
  SomeSaysSo = (p : Block) × Says mode iface p (cell_at cells p) × Covers p addr

  pub one_says : (len : ℕ) (p : Block) (cell : Cell) (b : Bool) → len ≤ width_of addr → p ≡ block_of len addr
      → cell ≡ cell_at cells p → (IsTrue b ↔ Says mode iface p cell) → b ≡ true → SomeSaysSo
  one_says len p cell b within is same told true_is =
      let says : Says mode iface p (cell_at cells p) = subst (Says mode iface p) same (told.0 true_is) in (
        p,
        says,
        subst (λ (q : Block). Covers q addr) (sym is) (covers_own len addr within),
      )

  pub says_not : (len : ℕ) (p : Block) (cell : Cell) (b : Bool) → p ≡ block_of len addr → cell ≡ cell_at cells p
      → (IsTrue b ↔ Says mode iface p cell) → b ≡ false → ¬ SaysAt len
  says_not len p cell b is same told false_is says =
      let back : Says mode iface p (cell_at cells p) =
      subst (λ (q : Block). Says mode iface q (cell_at cells q)) (sym is) says in
      let true_is : b ≡ true = told.1 (subst (Says mode iface p) (sym same) back) in cc

  -- where no prefix of any length says so, none does
  pub none_says : FitsFamily addr → ((p : Block) → IsSome (get cells p) → IsOwn addr p)
      → ((k : ℕ) → k ≤ width_of addr → ¬ SaysAt k) → ¬ SomeSaysSo
  none_says small own none (p, says, covers) =
      let at : (p.len ≤ width_of addr) × (p ≡ block_of p.len addr) =
      elim (named_or_default mode iface p (get cells p) says) [
        | inl default ↦ own_default addr p small default covers
        | inr there ↦ own p there covers
      ] in
      none p.len at.0 (subst (λ (q : Block). Says mode iface q (cell_at cells q)) at.1 says)
