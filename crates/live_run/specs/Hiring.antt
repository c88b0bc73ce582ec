-- Workers before a run. Our own choice.
use Rattle.std.specs.Prelude.{◌≡◌, ℕ, ◌+◌, false, List, [], ◌∷◌}
use Rattle.urpf_base.specs.declared.kinds.Kind.{Kind}
use Rattle.epoch_publish.specs.Publications.{Known}
use Rattle.live_rounds.specs.Stations.{Station}
use Rattle.live_rounds.specs.declared.worker.TheConstants.{RECORD_LIMIT}

-- a pass that was handed out before any publication, and has these interfaces before the first one
pub record SeesNone (kinds : List (ℕ × Kind)) (pass : Known) : Type 0 where
  pub opening : pass.opening ≡ kinds
  pub list : pass.list ≡ []

-- a worker of this number that read nothing
pub record IsNew (number : ℕ) (station : Station) : Type 0 where
  pub worker : station.desk.worker ≡ number
  pub place : station.desk.place ≡ 0
  pub taken : station.desk.taken ≡ 0
  pub limit : station.desk.limit ≡ RECORD_LIMIT
  pub ended : station.desk.ended ≡ false

-- workers that read nothing, with numbers from this one on
abbrev pub AreNew : ℕ → List Station → Type 0
AreNew number [] = Unit {0}
AreNew number (station ∷ stations) = IsNew number station × AreNew (number + 1) stations
