-- Why a text gives nothing to a run. Our own choice.
use Rattle.std.specs.Prelude.{ℕ, ◌<◌, ◌≤◌, List, length}
use Rattle.urpf_cli.specs.declared.refusals.TextRefusal.{TextRefusal}
use Rattle.urpf_cli.specs.declared.refusals.TextRefusal.TheVariants.{ReadFault, TooLong, Bad, OutOfMemory}

-- the text decides this refusal, where so many octets are allowed, and these faults are found in it
abbrev pub IsTextRefused : {F : Type 0} → ℕ → (F → Type 0) → List ℕ → TextRefusal F → Type 0
IsTextRefused limit HasFault text ReadFault = ⊥
IsTextRefused limit HasFault text TooLong = limit < length text
IsTextRefused limit HasFault text (Bad fault) = (length text ≤ limit) × HasFault fault
IsTextRefused limit HasFault text OutOfMemory = ⊥

-- a read of the text failed, or memory could not be had
abbrev pub IsTextFailure : {F : Type 0} → TextRefusal F → Type 0
IsTextFailure ReadFault = Unit {0}
IsTextFailure TooLong = ⊥
IsTextFailure (Bad fault) = ⊥
IsTextFailure OutOfMemory = Unit {0}
