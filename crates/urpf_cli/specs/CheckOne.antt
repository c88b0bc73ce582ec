-- What `check` answers and writes. Our own choice, over the definitions of the protocol.
use Rattle.std.specs.Prelude.{◌≡◌, ◌⊎◌, ℕ, ◌<◌, List, ◌++◌, length, Option, Bool, IsTrue, ◌↔◌}
use Rattle.std.specs.Io.KnownBytes.{Appends}
use Rattle.urpf_base.specs.declared.address.Addr.{Addr}
use Rattle.urpf_base.specs.Address.{Block, Covers}
use Rattle.urpf_base.specs.Lists.{Has, AreDistinct}
use Rattle.urpf_base.specs.RouteUpdates.{RouteUpdate, HasRoute}
use Rattle.report_text.specs.Lines.{check_one_line}
use Rattle.urpf_cli.specs.Session.{HasFault, IsRead, IsShortEnough, updates_of}
use Rattle.urpf_cli.specs.Words.{AreCheckWords}
use Rattle.urpf_cli.specs.declared.check.TheConstants.{STREAM_OCTETS}
use Rattle.urpf_cli.specs.declared.session.SessionFault.{SessionFault}
use Rattle.urpf_cli.specs.declared.session.SessionFault.TheVariants as memory

-- the line for this source over this stream: the messages, the prefixes that are left, each once, and whether one
-- covers the source
pub record IsCheckLine (stream : List ℕ) (source : Addr) (line : List ℕ) : Type 0 where
  pub said : List (Option RouteUpdate)
  pub rest : List ℕ
  pub read : IsRead stream said rest
  pub prefixes : List Block
  pub distinct : AreDistinct prefixes
  pub left : (p : Block) → Has prefixes p ↔ ((origin : Option ℕ) × HasRoute (updates_of said) p origin)
  pub passes : Bool
  pub verdict : IsTrue passes ↔ ((p : Block) × Has prefixes p × Covers p source)
  pub text : line ≡ check_one_line source passes (length read.messages) (length prefixes) (length rest)

-- what a check comes to, where nothing of the outside fails
pub data CheckEnd : Type 0 where
  judged : CheckEnd
  misused : CheckEnd
  too_long : CheckEnd
  unreadable : SessionFault → CheckEnd

-- when it comes to that: the words and the stream decide it
abbrev pub ComesTo : List (List ℕ) → List ℕ → CheckEnd → Type 0
ComesTo words stream misused = (source : Addr) → AreCheckWords words source → ⊥
ComesTo words stream too_long = ((source : Addr) × AreCheckWords words source) × (STREAM_OCTETS < length stream)
ComesTo words stream (unreadable fault) =
    ((source : Addr) × AreCheckWords words source) × IsShortEnough stream × HasFault stream fault
ComesTo words stream judged =
    ((source : Addr) × AreCheckWords words source) × IsShortEnough stream
    × ((said : List (Option RouteUpdate)) × (rest : List ℕ) × IsRead stream said rest)

-- the sink took the line of these words over this stream
pub record WritesLine (words : List (List ℕ)) (stream : List ℕ) (old new : Option (List ℕ)) : Type 0 where
  pub source : Addr
  pub words_fit : AreCheckWords words source
  pub line : List ℕ
  pub is_line : IsCheckLine stream source line
  pub appended : Appends old new line

-- the sink took a front of that line
pub record WritesFront (words : List (List ℕ)) (stream : List ℕ) (old new : Option (List ℕ)) : Type 0 where
  pub source : Addr
  pub words_fit : AreCheckWords words source
  pub front : List ℕ
  pub more : List ℕ
  pub is_line : IsCheckLine stream source (front ++ more)
  pub appended : Appends old new front

-- the stream has this fault, or memory ran out
abbrev pub HasFaultOrMemory : List ℕ → SessionFault → Type 0
HasFaultOrMemory stream fault = (fault ≡ memory.OutOfMemory) ⊎ HasFault stream fault
