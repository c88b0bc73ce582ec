-- The texts of prefixes and of AS numbers.
use Rattle.std.specs.Prelude.{◌≡◌, ℕ, ◌^◌, ◌<◌, ◌≤◌, ◌⊎◌, List, ◌∷◌, ◌++◌, decimal}
use Rattle.urpf_base.specs.Address.{Block, block_of, width_of}
use Rattle.urpf_base.specs.declared.address.Addr.{Addr}
use Rattle.ip_text.specs.Texts.{SpellsAddr}

-- an address, a slash, and how many of its first bits count (RFC 4632, section 3.1; RFC 4291, section 2.3)
pub record SpellsPrefix (text : List ℕ) (prefix : Block) : Type 0 where
  pub front : List ℕ
  pub addr : Addr
  pub len : ℕ
  pub parts : text ≡ front ++ (47 ∷ decimal len)
  pub spelled : SpellsAddr front addr
  pub within : len ≤ width_of addr
  pub value : prefix ≡ block_of len addr

-- the letters A and S, each in either case
abbrev pub AreAs : ℕ → ℕ → Type 0
AreAs a s = ((a ≡ 65) ⊎ (a ≡ 97)) × ((s ≡ 83) ⊎ (s ≡ 115))

-- a text is a number in decimal (RFC 5396, section 2, asplain), alone or behind `AS`, which is our own choice
abbrev pub IsDigitsOrMarked : List ℕ → List ℕ → Type 0
IsDigitsOrMarked text digits = (text ≡ digits) ⊎ ((a s : ℕ) × AreAs a s × (text ≡ a ∷ s ∷ digits))

-- the text spells this AS number, which has 32 bits (RFC 6793, section 3)
abbrev pub SpellsAsn : List ℕ → ℕ → Type 0
SpellsAsn text number = (number < 2 ^ 32) × IsDigitsOrMarked text (decimal number)
