-- The seconds that a session waits for its peer (RFC 4271, sections 4.2 and 6.5).
use Rattle.std.specs.Prelude.{ℕ, ◌+◌, ◌-◌, ◌^◌, ◌==◌, ◌&&◌, not, nat_le, min, Bool}
use Rattle.session_fsm.specs.declared.states.Timer.{Timer}

-- no second has passed
abbrev pub started : ℕ → Timer
started limit = record { elapsed = 0; limit = limit }

-- so many more seconds have passed, but they stay at 2^32 - 1
abbrev pub later : Timer → ℕ → Timer
later timer seconds = record { elapsed = min (timer.elapsed + seconds) (2 ^ 32 - 1); limit = timer.limit }

-- the limit is above 0, and so many more seconds reach it
abbrev pub expires : Timer → ℕ → Bool
expires timer seconds = not (timer.limit == 0) && nat_le timer.limit (timer.elapsed + seconds)
