-- The set of the interfaces of a list that pass a test.
use Rattle.std.proofs.Common.{◌≡◌, ◌↔◌, inl, inr, ℕ, Bool, true, ◌^◌, List, [], ◌∷◌, sym, subst, arith, bit_or}
use Rattle.std.specs.Int.{bit_at}
use Rattle.std.proofs.lemmas.Bool.{cases_Bool, cases_eq}
use Rattle.std.proofs.lemmas.Nat.Bits.{bit_at-pow_other, bit_at-pow_same}
use Rattle.urpf_base.specs.Lists.{Has}
use Rattle.urpf_base.specs.Masks.{InMask}
use Rattle.urpf_base.proofs.Members.{InMask-or}
use Rattle.rpf_plain.proofs.Turns.{no_member}

not_both : (m : ℕ) → m ≡ 0 → m ≡ 1 → ⊥
not_both m zero_is one_is = omega arith

-- the set of one interface has no other
alone : (k i : ℕ) → InMask (2 ^ k) i → i ≡ k
alone k i h =
    elim (cases_eq i k) [
      | inl same ↦ same
      | inr other ↦ absurd (not_both (bit_at (2 ^ k) i) (bit_at-pow_other k i other) h)
    ]

pub mask_of : (t : ℕ → Bool) (ifaces : List ℕ)
    → (m : ℕ) × ((i : ℕ) → (InMask m i ↔ (Has ifaces i × (t i ≡ true))))
mask_of t [] = (0, λ i. (λ h. absurd (no_member i h), λ h. absurd h.0))
mask_of t (k ∷ ifaces) =
    let (m, told) = mask_of t ifaces in
    elim (cases_Bool (t k)) [
      | inl yes_k ↦ (
        bit_or m (2 ^ k),
        λ i.
            let parts = InMask-or m (2 ^ k) i in (
              λ h. elim (parts.0 h) [
                | inl more ↦ let is = (told i).0 more in (inr is.0, is.1)
                | inr one ↦
                    let same = alone k i one in
                    (inl same, subst (λ n. t n ≡ true) (sym same) yes_k)
              ],
              λ h. parts.1 (elim h.0 [
                | inl same ↦ inr (subst (λ n. InMask (2 ^ k) n) (sym same) (bit_at-pow_same k))
                | inr later ↦ inl ((told i).1 (later, h.1))
              ]),
            ),
      )
      | inr no_k ↦ (
        m,
        λ i. (
          λ h. let is = (told i).0 h in (inr is.0, is.1),
          λ h. elim h.0 [
            | inl same ↦ let yes_k : t k ≡ true = subst (λ n. t n ≡ true) same h.1 in absurd cc
            | inr later ↦ (told i).1 (later, h.1)
          ],
        ),
      )
    ]
