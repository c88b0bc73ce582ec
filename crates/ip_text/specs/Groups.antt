-- The groups of an IPv6 address in text.
use Rattle.std.specs.Prelude.{◌≡◌, ℕ, ◌<◌, ◌≤◌, List, [], ◌∷◌, ◌++◌, length, replicate}
use Rattle.std.specs.Str.Parse.{AllDigits, digits_value}

-- one to four hexadecimal digits of either case, which write the group (RFC 4291, section 2.2)
pub record IsGroup (text : List ℕ) (group : ℕ) : Type 0 where
  pub some : 0 < length text
  pub few : length text ≤ 4
  pub digits : AllDigits 16 text
  pub value : digits_value 16 text ≡ group

-- the groups, parted by colons, and nothing else
abbrev pub IsGroups : List ℕ → List ℕ → Type 0
IsGroups text [] = text ≡ []
IsGroups text (g ∷ []) = IsGroup text g
IsGroups text (g ∷ h ∷ gs) = (one rest : List ℕ) × IsGroup one g × (text ≡ one ++ (58 ∷ rest)) × IsGroups rest (h ∷ gs)

-- a `::` stands for one or more groups of zeros (RFC 4291, section 2.2)
pub record IsShortened (text groups : List ℕ) : Type 0 where
  pub before : List ℕ
  pub after : List ℕ
  pub left : List ℕ
  pub right : List ℕ
  pub zeros : ℕ
  pub some : 0 < zeros
  pub parts : text ≡ before ++ (58 ∷ 58 ∷ after)
  pub first : IsGroups before left
  pub last : IsGroups after right
  pub whole : groups ≡ left ++ (replicate zeros 0 ++ right)
