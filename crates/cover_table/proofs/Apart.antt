-- Prefixes that are apart: neither covers the other, and one ends before the other begins.
use Rattle.std.proofs.Common.{◌≡◌, ℕ, ◌+◌, ◌<◌, ◌≤◌, Bool, true, false, inl, inr, refl, sym, subst, arith}
use Rattle.std.proofs.lemmas.Bool.{cases_lt}
use Rattle.std.specs.Bool.{IsTrue}
use Rattle.urpf_base.specs.Address.{cleared}
use Rattle.cover_table.specs.declared.nodes.Entry.{Entry}
use Rattle.cover_table.specs.Trees.{AreApart, size}
use Rattle.cover_table.proofs.Blocks.{ends_before, size_some}

-- a test that fails
pub fails : (b : Bool) (P : Type 0) → (IsTrue b → P) × (P → IsTrue b) → b ≡ false → ¬ P
fails b P told is p = let yes : IsTrue b = told.1 p in absurd cc

pub holds : (b : Bool) (P : Type 0) → (IsTrue b → P) × (P → IsTrue b) → b ≡ true → P
holds b P told is = told.0 (subst IsTrue (sym is) refl)

-- prefixes of which the longer one is not covered by the other
pub apart_longer : (w : ℕ) (a b : Entry) → a.len ≤ w → cleared w a.len a.bits ≡ a.bits → cleared w b.len b.bits ≡ b.bits
    → b.len ≤ a.len → ¬ ((b.bits ≤ a.bits) × (a.bits < b.bits + size w b.len)) → AreApart w a b
apart_longer w a b within zeros zeros' longer none =
    elim (cases_lt a.bits b.bits) [
      | inl less ↦ inl (ends_before w a b within zeros longer zeros' less)
      | inr more ↦
          elim (cases_lt a.bits (b.bits + size w b.len)) [
            | inl below ↦ absurd (none (more, below))
            | inr past ↦ inr past
          ]
    ]

pub apart_turned : (w : ℕ) (a b : Entry) → AreApart w a b → AreApart w b a
apart_turned w a b (inl h) = inr h
apart_turned w a b (inr h) = inl h

pub apart_below : (w : ℕ) (a b : Entry) → AreApart w a b → b.bits < a.bits → b.bits + size w b.len ≤ a.bits
apart_below w a b (inl h) less = let some = size_some w a.len in absurd (omega arith)
apart_below w a b (inr h) less = h

pub apart_above : (w : ℕ) (a b : Entry) → AreApart w a b → a.bits ≤ b.bits → a.bits + size w a.len ≤ b.bits
apart_above w a b (inl h) most = h
apart_above w a b (inr h) most = let some = size_some w b.len in absurd (omega arith)
