-- The status that tells what a command came to. Our own choice.
use Rattle.std.specs.Prelude.{◌≡◌, ◌⊎◌, ℕ, Result, Ok, Err}
use Rattle.router_config.specs.declared.faults.ConfigFault.{ConfigFault}
use Rattle.runbook.specs.declared.book.BookFault.{BookFault}
use Rattle.control_core.specs.declared.limits.RunFault.{RunFault}
use Rattle.control_core.specs.declared.limits.RunFault.TheVariants as fault
use Rattle.urpf_cli.specs.CheckOne.{CheckEnd, judged, unreadable}
use Rattle.urpf_cli.specs.CheckOne as check
use Rattle.urpf_cli.specs.declared.refusals.Refusal.{Refusal}
use Rattle.urpf_cli.specs.declared.refusals.Refusal.TheVariants as opening
use Rattle.urpf_cli.specs.declared.refusals.TextRefusal.{TextRefusal}
use Rattle.urpf_cli.specs.declared.refusals.TextRefusal.TheVariants as text
use Rattle.urpf_cli.specs.declared.refusals.TooManyPairs.{TooManyPairs}
use Rattle.run_lines.specs.Runs.{NamesSession}
use Rattle.urpf_cli.specs.declared.session.SessionFault.{SessionFault}
use Rattle.urpf_cli.specs.declared.session.SessionFault.TheVariants as stream
use Rattle.bgp_update.specs.declared.subcodes.TheConstants.{UPDATE_MESSAGE_ERROR}
use Rattle.bgp_wire.specs.declared.header.TheConstants.{MESSAGE_HEADER_ERROR}
use Rattle.urpf_cli.specs.declared.status.Object.TheVariants.{Config, Book, Pairs, Stream, Session}
use Rattle.urpf_cli.specs.declared.status.Status.{Status}
use Rattle.urpf_cli.specs.declared.status.Status.TheVariants.{Done, Usage, BadConfig, BadBook, SessionCount, TooLong}
use Rattle.urpf_cli.specs.declared.status.Status.TheVariants.{ReadFault, WriteFault, ItemLimit, OctetLimit}
use Rattle.urpf_cli.specs.declared.status.Status.TheVariants.{BadSession, Unsupported, OutOfMemory}
use Rattle.urpf_cli.specs.declared.status.Status.TheVariants as status

-- a message that cannot be read: error code 1 is of a header, 3 of an UPDATE (RFC 4271, section 4.5)
abbrev pub status_of_stream : SessionFault → Status
status_of_stream (stream.Header sub place) = BadSession MESSAGE_HEADER_ERROR sub place
status_of_stream (stream.Update sub place) = BadSession UPDATE_MESSAGE_ERROR sub place
status_of_stream (stream.Unsupported place) = Unsupported place
status_of_stream stream.OutOfMemory = OutOfMemory

-- what a check came to
abbrev pub status_of_check : CheckEnd → Status
status_of_check judged = Done
status_of_check check.misused = Usage
status_of_check check.too_long = TooLong Stream
status_of_check (unreadable fault) = status_of_stream fault

-- a status that a check may end with: what words and stream decide, a failure of the outside, or want of memory
abbrev pub IsCheckStatus : Status → Type 0
IsCheckStatus status = ((end : CheckEnd) × (status ≡ status_of_check end))
    ⊎ ((status ≡ ReadFault Stream) ⊎ ((status ≡ WriteFault) ⊎ (status ≡ OutOfMemory)))

-- why a configuration is refused
abbrev pub status_of_config : TextRefusal ConfigFault → Status
status_of_config text.ReadFault = ReadFault Config
status_of_config text.TooLong = TooLong Config
status_of_config (text.Bad fault) = BadConfig fault.kind fault.index
status_of_config text.OutOfMemory = OutOfMemory

-- why a runbook is refused
abbrev pub status_of_book : TextRefusal BookFault → Status
status_of_book text.ReadFault = ReadFault Book
status_of_book text.TooLong = TooLong Book
status_of_book (text.Bad fault) = BadBook fault.line fault.kind
status_of_book text.OutOfMemory = OutOfMemory

-- why a table of pairs is refused
abbrev pub status_of_pairs : TextRefusal TooManyPairs → Status
status_of_pairs text.ReadFault = ReadFault Pairs
status_of_pairs text.TooLong = TooLong Pairs
status_of_pairs (text.Bad fault) = status.TooManyPairs
status_of_pairs text.OutOfMemory = OutOfMemory

-- why a run does not begin
abbrev pub status_of_refusal : Refusal → Status
status_of_refusal opening.Misused = Usage
status_of_refusal (opening.Config refusal) = status_of_config refusal
status_of_refusal (opening.Book refusal) = status_of_book refusal
status_of_refusal (opening.Pairs refusal) = status_of_pairs refusal
status_of_refusal (opening.SessionCount given wanted) = SessionCount given wanted

-- what a run came to
abbrev pub status_of_run : Result (Unit {0}) RunFault → Status
status_of_run (Ok done) = Done
status_of_run (Err (fault.ReadFault session)) = ReadFault (Session session)
status_of_run (Err fault.WriteFault) = WriteFault
status_of_run (Err (fault.ItemLimit session)) = ItemLimit session
status_of_run (Err (fault.OctetLimit session)) = OctetLimit session
status_of_run (Err fault.OutOfMemory) = OutOfMemory

-- a status that a run of so many sessions may end with: a refusal, or what a run comes to
abbrev pub IsRunStatus : ℕ → Status → Type 0
IsRunStatus sessions status = ((refusal : Refusal) × (status ≡ status_of_refusal refusal))
    ⊎ ((status ≡ Done) ⊎ ((fault : RunFault) × NamesSession sessions fault × (status ≡ status_of_run (Err fault))))
