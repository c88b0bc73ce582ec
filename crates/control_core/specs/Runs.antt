-- What the items of a session do, one after the other (RFC 4271, section 8; RFC 4486, section 4).
use Rattle.std.specs.Prelude.{◌≡◌, ℕ, nat_lt, if◌then◌else◌, List, [], ◌∷◌, ◌++◌, drop}
use Rattle.std.specs.Borrow.{Bor}
use Rattle.urpf_base.specs.declared.sessions.ResetCause.TheVariants.{Fault}
use Rattle.urpf_base.specs.declared.sessions.SessionConfig.{SessionConfig}
use Rattle.bgp_wire.specs.Header.{type_field}
use Rattle.bgp_wire.specs.States.{kind_of}
use Rattle.session_fsm.specs.declared.codes.TheConstants.{CEASE, MAXIMUM_PREFIXES_REACHED}
use Rattle.session_fsm.specs.declared.items.Effect.{Effect}
use Rattle.session_fsm.specs.declared.items.Effect.TheVariants.{Nothing, Advanced, Reset, Changes}
use Rattle.session_fsm.specs.declared.items.Item.TheVariants.{Up, Message, HeaderFault, Down, Elapsed}
use Rattle.session_fsm.specs.declared.states.State.{State}
use Rattle.session_fsm.specs.declared.states.State.TheVariants.{Idle}
use Rattle.session_fsm.specs.Table.{Outcome, Step, ended}
use Rattle.control_core.specs.Items.{Item, came_up, message, bad_header, went_down, passed}
use Rattle.control_core.specs.Effects.{HoldsSoMany}

-- the row of the table for an item; of a message its kind and the octets behind its header count
abbrev pub Steps : SessionConfig → State → Item → Outcome → Type 0
Steps config state came_up outcome = Step config state Up outcome
Steps config state (message octets) outcome =
    (body : Bor (List ℕ)) × (body.now ≡ drop 19 octets)
    × Step config state (Message (kind_of (type_field octets)) body) outcome
Steps config state (bad_header subcode) outcome = Step config state (HeaderFault subcode) outcome
Steps config state went_down outcome = Step config state Down outcome
Steps config state (passed seconds) outcome = Step config state (Elapsed seconds) outcome

-- what a row comes to after items of these effects: itself, but where it changes routes and leaves more prefixes than
-- the maximum, the session ends instead (RFC 4486, section 4)
abbrev pub Limited : ℕ → List Effect → Outcome → Outcome → Type 0
Limited maximum before (next, Nothing) outcome = outcome ≡ (next, Nothing)
Limited maximum before (next, Advanced) outcome = outcome ≡ (next, Advanced)
Limited maximum before (next, Reset cause) outcome = outcome ≡ (next, Reset cause)
Limited maximum before (next, Changes update) outcome =
    (count : ℕ) × HoldsSoMany (before ++ Changes update ∷ []) count
    × (outcome
    ≡ (if nat_lt maximum count then ended (Fault CEASE MAXIMUM_PREFIXES_REACHED) else (next, Changes update)))

-- an item after items of these effects has this outcome
abbrev pub Takes : SessionConfig → List Effect → State → Item → Outcome → Type 0
Takes config before state item outcome =
    (row : Outcome) × Steps config state item row × Limited config.max before row outcome

-- items after items of these effects have, with those, these effects, and leave this state
abbrev pub RunsFrom : SessionConfig → List Effect → State → List Item → List Effect → State → Type 0
RunsFrom config before state [] effects last = (effects ≡ before) × (last ≡ state)
RunsFrom config before state (item ∷ items) effects last =
    (outcome : Outcome) × Takes config before state item outcome
    × RunsFrom config (before ++ outcome.1 ∷ []) outcome.0 items effects last

-- the items of a session have these effects, and leave it in this state; it begins in Idle
abbrev pub Runs : SessionConfig → List Item → List Effect → State → Type 0
Runs config items effects last = RunsFrom config [] Idle items effects last
