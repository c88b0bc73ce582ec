-- A control at its opening, and behind an edit.
use Rattle.std.proofs.Common.{◌≡◌, ap, List, [], ◌∷◌, length, map, refl, arith, Result, Ok, Err, OnOk, OnErr}
use Rattle.urpf_base.specs.declared.sessions.SessionConfig.{SessionConfig}
use Rattle.router_config.specs.declared.edits.Edit.{Edit}
use Rattle.control_core.specs.Controls.{AllStand, Edits, not_begun, refused}
use Rattle.control_core.specs.States.{ControlState, PeerState}

-- there is a session for each that is configured
pub as_many : (configs : List SessionConfig) (peers : List PeerState) → AllStand (map not_begun configs) peers
    → length peers ≡ length configs
as_many [] [] stand = refl
as_many [] (p ∷ peers) stand = absurd stand
as_many (k ∷ configs) [] stand = absurd stand
as_many (k ∷ configs) (p ∷ peers) stand = omega (arith, as_many configs peers stand.2)

-- an edit leaves the sessions, whatever comes of it
pub sessions_kept : {E : Type 0} (edit : Edit) (old new : ControlState) (result : Result (Unit {0}) E)
    → OnOk result (Edits edit old new) → OnErr result (new ≡ refused old) → new.peers ≡ old.peers
sessions_kept edit old new (Ok done) ok err = ok.peers
sessions_kept edit old new (Err fault) ok err = ap (λ c. c.peers) err
