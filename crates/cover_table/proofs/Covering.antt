-- The test whether a prefix covers an address tells just that.
use Rattle.std.proofs.Common.{◌≡◌, ◌↔◌, ℕ, zero, suc, ◌==◌, Bool, true, false, refl, sym, subst, inl, inr}
use Rattle.std.proofs.Common.{arith}
use Rattle.std.proofs.lemmas.Bool.{and_from, and_parts, cases_eq, eq-eqb, eqb-true}
use Rattle.urpf_base.specs.Address.{AgreeUpTo, Block, Covers, FirstBitsAgree, bit_from_highest}
use Rattle.urpf_base.specs.declared.address.Addr.{Addr}
use Rattle.urpf_base.specs.declared.address.Addr.TheVariants.{V4, V6}
use Rattle.cover_table.specs.Judging.{agree_up_to, bits_agree, covers}

bits_are : (width len a b : ℕ) → bits_agree width len a b ≡ true → FirstBitsAgree width len a b
bits_are width zero a b is i below = absurd (omega arith)
bits_are width (suc len) a b is i below =
    let here = bit_from_highest width a len == bit_from_highest width b len in
    let parts : (bits_agree width len a b ≡ true) × (here ≡ true) = and_parts (bits_agree width len a b) here is in
    elim (cases_eq i len) [
      | inl same ↦
          subst (λ k. bit_from_highest width a k ≡ bit_from_highest width b k) (sym same) (eqb-true _ _ parts.1)
      | inr before ↦ bits_are width len a b parts.0 i (omega arith)
    ]

bits_from : (width len a b : ℕ) → FirstBitsAgree width len a b → bits_agree width len a b ≡ true
bits_from width zero a b agree = refl
bits_from width (suc len) a b agree =
    and_from (bits_agree width len a b) (bit_from_highest width a len == bit_from_highest width b len)
    (bits_from width len a b (λ i below. agree i (omega arith))) (eq-eqb _ _ (agree len (omega arith)))

agree_is : (len : ℕ) (a b : Addr) → (agree_up_to len a b ≡ true) ↔ AgreeUpTo len a b
agree_is len (V4 a) (V4 b) = (bits_are 32 len a b, bits_from 32 len a b)
agree_is len (V4 a) (V6 b) = (λ e. cc, λ h. absurd h)
agree_is len (V6 a) (V4 b) = (λ e. cc, λ h. absurd h)
agree_is len (V6 a) (V6 b) = (bits_are 128 len a b, bits_from 128 len a b)

pub covers_is : (prefix : Block) (addr : Addr) → (covers prefix addr ≡ true) ↔ Covers prefix addr
covers_is prefix addr = agree_is prefix.len prefix.addr addr

-- tests of the same fact answer alike
pub same_answer : (P : Type 0) (a b : Bool) → ((a ≡ true) ↔ P) → ((b ≡ true) ↔ P) → a ≡ b
same_answer P true b of_a of_b = sym (of_b.1 (of_a.0 refl))
same_answer P false true of_a of_b = of_a.1 (of_b.0 refl)
same_answer P false false of_a of_b = refl
