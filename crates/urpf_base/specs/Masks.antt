-- Sets of interfaces, each seen as a number whose bits are its members. Our own choice.
use Rattle.std.specs.Prelude.{◌≡◌, ℕ}
use Rattle.std.specs.Int.{bit_at}

-- the interface of this number is in the set
abbrev pub InMask : ℕ → ℕ → Type 0
InMask mask iface = bit_at mask iface ≡ 1
