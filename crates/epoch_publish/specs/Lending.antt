-- What a list of passes is once it was lent. Our own choice.
use Rattle.std.specs.Prelude.{List, ◌++◌, drop, length, take}
use Rattle.std.specs.Borrow.{Array, Fml, Lends, MutBor, RattleType}
use Rattle.epoch_publish.specs.Publications.{Known}
use Rattle.epoch_publish.specs.declared.history.Naming.{Ghosts}
use Rattle.epoch_publish.specs.contracts.pass.Pass.{the_row as pass_row}
use Rattle.epoch_publish.specs.contracts.passes.Passes.{the_row as passes_row}

module _ (J : RattleType) (g : Ghosts J.Denot) (passes : MutBor (List Known)) where
  -- the list has each pass as it was left
  abbrev pub LendsItems : MutBor (List Known) → Fml
  LendsItems items =
      Lends (passes_row J g) (Array (pass_row J g) 0) passes items
      (λ left. take (length passes.now) (left ++ drop (length left) passes.now))
