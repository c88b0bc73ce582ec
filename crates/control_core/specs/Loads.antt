-- What loading pairs leaves of an engine. Our own choice.
use Rattle.std.specs.Prelude.{◌≡◌}
use Rattle.urpf_base.specs.Lists.{AreDistinct}
use Rattle.rpf_plain.specs.Engine.{EngineState}

-- the engine has each pair once, as it had before, and all of it but its pairs is as it was
pub record GrowsPairs (old new : EngineState) : Type 0 where
  pub rows : new.world.rows ≡ old.world.rows
  pub roles : new.world.roles ≡ old.world.roles
  pub distinct : AreDistinct old.world.pairs → AreDistinct new.world.pairs
  pub base : new.base ≡ old.base
