-- What the steps of reading an IPv6 address come to: groups up to the end of the text or up to a gap. Our own choice of
-- steps.
use Rattle.std.specs.Prelude.{◌≡◌, ℕ, ◌+◌, ◌^◌, List, [], ◌∷◌, ◌++◌, length}
use Rattle.std.specs.Int.Digits.{number_from_digits_after}
use Rattle.ip_text.specs.Groups.{IsGroups}

-- the text ends here, or a gap begins
abbrev pub IsEndOrGap : List ℕ → Type 0
IsEndOrGap [] = Unit {0}
IsEndOrGap (a ∷ []) = ⊥
IsEndOrGap (a ∷ b ∷ rest) = (a ≡ 58) × (b ≡ 58)

-- the groups open the text, up to its end or a gap
pub record Opens (text groups rest : List ℕ) : Type 0 where
  pub front : List ℕ
  pub spelled : IsGroups front groups
  pub parts : text ≡ front ++ rest
  pub stops : IsEndOrGap rest

-- the groups up to the rest, counted on from the start, and the number that they write behind the value of those before
pub record IsSide (start value : ℕ) (text : List ℕ) (count now : ℕ) (rest : List ℕ) : Type 0 where
  pub groups : List ℕ
  pub counted : count ≡ start + length groups
  pub number : now ≡ number_from_digits_after (2 ^ 16) value groups
  pub opens : Opens text groups rest

-- these groups and no others were read: their count, their number, and the rest behind them
abbrev pub SideIs : ℕ → ℕ → List ℕ → ℕ → ℕ → List ℕ → List ℕ → Type 0
SideIs start value groups count now rest left =
    (count ≡ start + length groups) × (now ≡ number_from_digits_after (2 ^ 16) value groups) × (left ≡ rest)
