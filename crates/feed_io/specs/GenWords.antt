-- The words that name a generator. Our own choice.
use Rattle.std.specs.Prelude.{◌≡◌, ◌≤◌, ℕ, List, ◌∷◌, ◌++◌, decimal}
use Rattle.feed_io.specs.declared.gen_words.GenSpec.{GenSpec}

-- the word is `gen:SEED:N`, with a seed up to 65535 and a count from 1 to 4000000 in decimal without leading zeros
pub record SpellsGen (word : List ℕ) (spec : GenSpec) : Type 0 where
  pub seed : spec.seed ≤ 65535
  pub some : 1 ≤ spec.count
  pub count : spec.count ≤ 4000000
  pub parts : word ≡ 103 ∷ 101 ∷ 110 ∷ 58 ∷ decimal spec.seed ++ (58 ∷ decimal spec.count)
