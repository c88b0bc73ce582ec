-- What a text has to be to write a number.
use Rattle.std.specs.Prelude.{◌≡◌, ℕ, ◌<◌, ◌≤◌, List, length, slice_index}
use Rattle.std.specs.Str.Parse.{AllDigits, digits_value}

-- something stands there, and a zero only where nothing follows it (RFC 6943, section 3.1.1, the strict form)
abbrev pub StartsWell : List ℕ → Type 0
StartsWell text = (0 < length text) × (slice_index text 0 ≡ 48 → length text ≡ 1)

-- each octet is a digit of this radix, and they write at most this number. Our own choice of a bound
abbrev pub WritesUpTo : ℕ → ℕ → List ℕ → Type 0
WritesUpTo radix most text = AllDigits radix text × (digits_value radix text ≤ most)
