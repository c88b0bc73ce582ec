-- A prefix stands in a list or does not, since prefixes can be told apart.
use Rattle.std.proofs.Common.{◌≡◌, ◌≢◌, ◌⊎◌, ℕ, List, [], ◌∷◌, ◌∙◌, inl, inr, ap, arith}
use Rattle.urpf_base.specs.Address.{Block}
use Rattle.urpf_base.specs.Lists.{Has}
use Rattle.urpf_base.specs.declared.address.Addr.{Addr}
use Rattle.urpf_base.specs.declared.address.Addr.TheVariants.{V4, V6}

same_number : (a b : ℕ) → (a ≡ b) ⊎ (a ≢ b)
same_number a b = grind arith

same_addr : (a b : Addr) → (a ≡ b) ⊎ (a ≢ b)
same_addr (V4 a) (V4 b) = elim (same_number a b) [ inl same ↦ inl (ap V4 same) | inr other ↦ inr (λ same. other (cc)) ]
same_addr (V4 a) (V6 b) = inr (λ same. cc)
same_addr (V6 a) (V4 b) = inr (λ same. cc)
same_addr (V6 a) (V6 b) = elim (same_number a b) [ inl same ↦ inl (ap V6 same) | inr other ↦ inr (λ same. other (cc)) ]

same_parts : (a b : Block) → a.addr ≡ b.addr → a.len ≡ b.len → a ≡ b
same_parts a b same long =
    let make : Addr → ℕ → Block = λ addr len. record { addr = addr; len = len } in
    ap (λ addr. make addr a.len) same ∙ ap (λ len. make b.addr len) long

pub same_block : (a b : Block) → (a ≡ b) ⊎ (a ≢ b)
same_block a b =
    elim (same_addr a.addr b.addr) [
      | inl same ↦ elim (same_number a.len b.len)
          [ inl long ↦ inl (same_parts a b same long) | inr other ↦ inr (λ e. other (ap (λ x. x.len) e)) ]
      | inr other ↦ inr (λ e. other (ap (λ x. x.addr) e))
    ]

pub has_or_not : (ps : List Block) (p : Block) → Has ps p ⊎ (Has ps p → ⊥)
has_or_not [] p = inr (λ never. never)
has_or_not (q ∷ qs) p =
    elim (same_block p q) [
      | inl same ↦ inl (inl same)
      | inr other ↦ elim (has_or_not qs p) [
        | inl later ↦ inl (inr later)
        | inr never ↦ inr
            (λ has. elim has [ inl same ↦ other same | inr later ↦ never later ])
      ]
    ]
