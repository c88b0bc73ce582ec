-- The words that name a recording and a peer. Our own choice.
use Rattle.std.specs.Prelude.{◌≡◌, ℕ, ◌+◌, ◌<◌, List, ◌∷◌, ◌++◌, length}
use Rattle.std.specs.Str.Iter.{LacksByte}
use Rattle.ip_text.specs.Texts.{SpellsAddr}
use Rattle.mrt_feed.specs.declared.words.MrtSpec.{MrtSpec}

-- the word is `mrt:FILE@PEER`, cut at its last `@`: a name that is not empty, and the text of an address
pub record SpellsMrt (word : List ℕ) (spec : MrtSpec) : Type 0 where
  pub file : List ℕ
  pub peer : List ℕ
  pub parts : word ≡ 109 ∷ 114 ∷ 116 ∷ 58 ∷ file ++ (64 ∷ peer)
  pub last : LacksByte 64 peer
  pub some : 0 < length file
  pub spelled : SpellsAddr peer spec.peer
  pub from_is : spec.from ≡ 4
  pub to_is : spec.to ≡ 4 + length file
