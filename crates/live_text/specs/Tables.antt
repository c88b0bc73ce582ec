-- The rows of the packets of a run, and which of them are legal. Our own choice, over the source sets (RFC 8704,
-- section 3) of the routes that the sessions leave (RFC 4271, section 3.2).
use Rattle.std.specs.Prelude.{◌≡◌, ℕ, ◌+◌, ◌-◌, ◌<◌, ◌≤◌, List, [], ◌∷◌, ◌++◌, Option}
use Rattle.std.specs.List.{AllZip}
use Rattle.urpf_base.specs.declared.address.Addr.{Addr}
use Rattle.urpf_base.specs.declared.kinds.Kind.{Kind}
use Rattle.urpf_base.specs.declared.verdicts.Verdict.{Verdict}
use Rattle.rpf_plain.specs.Modes.{IsVerdict}
use Rattle.rpf_plain.specs.World.{World}
use Rattle.forward_worker.specs.Rows.{NamesSource}
use Rattle.run_lines.specs.Inputs.{Run}
use Rattle.run_lines.specs.Places.{Place, opening, place_after}
use Rattle.run_lines.specs.RunText.{IsWorldOf}
use Rattle.run_lines.specs.Steps.{Step}
use Rattle.live_rounds.specs.Rows.{Row}
use Rattle.live_text.specs.Numbers.{last_of, round_count}
use Rattle.live_text.specs.Packets.{IsGood, Packet, packets_in}

-- the rows of a worker, each with the round of its packet
abbrev pub Table : Type 0
Table = List (ℕ × Row)

-- the place of a run behind some first steps
abbrev pub place_behind : Run → List Step → Place
place_behind run before = place_after run.inputs before (opening run.config.sessions)

-- the verdict on a source by the world of the mark of this number, at a place where it is the last one
pub record IsVerdictOf (run : Run) (steps : List Step) (number iface : ℕ) (source : Option Addr)
    (verdict : Verdict) : Type 0 where
  pub before : List Step
  pub later : List Step
  pub parts : steps ≡ before ++ later
  pub numbered : (place_behind run before).mark.number ≡ number
  pub kinds : List (ℕ × Kind)
  pub world : World
  pub is : IsWorldOf run (place_behind run before) (place_behind run before).mark kinds world
  pub judges : IsVerdict kinds world.rows world.pairs iface source verdict

-- the row of a packet: in a round of the run it names a mark from the last one before the round on up to the
-- last one in it, and behind all rounds the last one of all, and it has the verdict by the world of that mark
pub record IsRowFor (run : Run) (steps : List Step) (packet : Packet) (entry : ℕ × Row) : Type 0 where
  pub round : entry.0 ≡ packet.round
  pub worker : entry.1.worker ≡ packet.worker
  pub place : entry.1.place ≡ packet.place
  pub iface : entry.1.iface ≡ packet.iface
  pub source : NamesSource packet.octets entry.1.source
  pub lowest : packet.round ≤ round_count steps → last_of steps (packet.round - 1) ≤ entry.1.number
  pub highest : entry.1.number ≤ last_of steps packet.round
  pub behind : round_count steps < packet.round → entry.1.number ≡ last_of steps packet.round
  pub judged : IsVerdictOf run steps entry.1.number entry.1.iface entry.1.source entry.1.verdict

-- no row names a mark before that of the row before, nor the first one a mark before this
abbrev pub NeverFall : ℕ → Table → Type 0
NeverFall number [] = Unit {0}
NeverFall number (entry ∷ table) = (number ≤ entry.1.number) × NeverFall entry.1.number table

-- the rows of the worker of this number, whose stream is good: one for each packet, in order
pub record IsTableOf (run : Run) (steps : List Step) (worker : ℕ) (stream : List ℕ) (table : Table) : Type 0 where
  pub good : IsGood stream
  pub rows : AllZip (IsRowFor run steps) (packets_in (round_count steps) worker stream) table
  pub ordered : NeverFall 0 table

-- one table for each stream, from the worker of this number on
abbrev pub AreTablesOf : Run → List Step → ℕ → List (List ℕ) → List Table → Type 0
AreTablesOf run steps worker [] [] = Unit {0}
AreTablesOf run steps worker [] (table ∷ tables) = ⊥
AreTablesOf run steps worker (stream ∷ streams) [] = ⊥
AreTablesOf run steps worker (stream ∷ streams) (table ∷ tables) =
    IsTableOf run steps worker stream table × AreTablesOf run steps (worker + 1) streams tables
