-- When a source or a sink may answer that it failed. Our own choice, since no standard speaks of it.
use Rattle.std.specs.Prelude.{◌≡◌, ℕ, ◌+◌, ◌-◌, ◌^◌, ◌≤◌, min, Result, OnOk, OnErr}

-- a count of 64 bits has risen, or stands at its last value
abbrev pub Rose : ℕ → ℕ → Type 0
Rose before now = min (before + 1) (2 ^ 64 - 1) ≤ now

-- a count of faults counts them all: a success leaves it as it was, and an error raises it, by one
pub record HasCause {T E : Type 0} (before now : ℕ) (result : Result T E) : Type 0 where
  pub later : before ≤ now
  pub kept : OnOk result (now ≡ before)
  pub failed : OnErr result (Rose before now)
  pub once : OnErr result (now ≤ before + 1)

-- a count of faults counts one exactly where a call ended so, for calls that may end otherwise too
pub record CountsFault (failed : Type 0) (before now : ℕ) : Type 0 where
  pub later : before ≤ now
  pub kept : (failed → ⊥) → now ≡ before
  pub rose : failed → Rose before now
  pub once : now ≤ before + 1
