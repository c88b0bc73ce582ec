-- What a feed over a trace has left, and where it can go no further. Our own choice.
use Rattle.std.specs.Prelude.{◌≡◌, ◌⊎◌, ℕ, ◌+◌, ◌-◌, ◌≤◌, Bool, List, ◌++◌, length, take, Option, Some, None, refl}
use Rattle.std.specs.Coded.{Coded, code_by, coded×, coded_list, coded_ℕ, coded_bool}
use Rattle.std.specs.Option.{option_map}
use Rattle.feed_io.specs.Events.{Event}
use Rattle.feed_io.specs.Traces.{event_front, trace_events, IsMalformed}
use Rattle.feed_io.specs.declared.limited.TheConstants.{FILE_OCTETS}

-- a source, how many of its octets were read, those of the next event's head, whether a call failed, and how many did
pub record TraceState (S : Type 0) : Type 0 where
  pub source : S
  pub taken : ℕ
  pub head : List ℕ
  pub failed : Bool
  pub faults : ℕ

module _ {S : Type 0} where
  -- a state is stored as the tuple of its fields
  abbrev pub state_code : Coded S → Coded (TraceState S)
  state_code source_code =
      code_by (S × (ℕ × (List ℕ × (Bool × ℕ))))
      (coded× source_code (coded× coded_ℕ (coded× (coded_list coded_ℕ) (coded× coded_bool coded_ℕ))))
      (λ f. (f.source, (f.taken, (f.head, (f.failed, f.faults)))))
      (λ p. record { source = p.0; taken = p.1.0; head = p.1.1.0; failed = p.1.1.1.0; faults = p.1.1.1.1 })
      (λ _. refl)

-- the events of what was read of the next event and of what the source has left, where that is told
abbrev pub events_left : List ℕ → Option (List ℕ) → Option (List Event)
events_left held left = option_map (λ text. trace_events (held ++ text)) left

-- octets went from the front of a text to the end of what is held, were counted, and are no more than may be read
pub record Moves (text : List ℕ) (taken : ℕ) (held rest : List ℕ) (count : ℕ) (now : List ℕ) : Type 0 where
  pub piece : List ℕ
  pub parts : text ≡ piece ++ rest
  pub joined : now ≡ held ++ piece
  pub counted : count ≡ taken + length piece
  pub within : length piece ≤ FILE_OCTETS - taken

-- the same of a source, where it tells what is left
abbrev pub Moved : Option (List ℕ) → ℕ → List ℕ → Option (List ℕ) → ℕ → List ℕ → Type 0
Moved None taken held new count now = Unit {0}
Moved (Some text) taken held None count now = ⊥
Moved (Some text) taken held (Some rest) count now = Moves text taken held rest count now

-- what was read so far and what is left come to the same number of octets, where that is told
abbrev pub KeepsCount : Option (List ℕ) → ℕ → Option (List ℕ) → ℕ → Type 0
KeepsCount None taken new count = Unit {0}
KeepsCount (Some text) taken None count = ⊥
KeepsCount (Some text) taken (Some rest) count = count + length rest ≡ taken + length text

-- there is no event in the octets that may still be read, and the text goes on up to there at least
pub record NeedsMore (taken : ℕ) (held text : List ℕ) : Type 0 where
  pub beyond : FILE_OCTETS - taken ≤ length text
  pub none : event_front (held ++ take (FILE_OCTETS - taken) text) ≡ None

-- no event can be given: the trace is off its format here, or more octets are needed than may be read
abbrev pub Stops : ℕ → List ℕ → List ℕ → Type 0
Stops taken held text = IsMalformed (held ++ text) ⊎ NeedsMore taken held text
