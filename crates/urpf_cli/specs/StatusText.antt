-- The text of a status on standard error, and the number that the program ends with. Our own choice.
use Rattle.std.specs.Prelude.{ℕ, List, [], ◌++◌, codes, decimal}
use Rattle.router_config.specs.declared.faults.ConfigKind.{ConfigKind}
use Rattle.router_config.specs.declared.faults.ConfigKind.TheVariants as config
use Rattle.runbook.specs.declared.lines.BookKind.{BookKind}
use Rattle.runbook.specs.declared.lines.BookKind.TheVariants.{Syntax, Session, Iface, Rounds}
use Rattle.urpf_cli.specs.declared.status.Object.{Object}
use Rattle.urpf_cli.specs.declared.status.Object.TheVariants.{Config, Book, Pairs, Stream}
use Rattle.urpf_cli.specs.declared.status.Object.TheVariants as named
use Rattle.urpf_cli.specs.declared.status.Status.{Status}
use Rattle.urpf_cli.specs.declared.status.Status.TheVariants.{Done, Usage, BadConfig, BadBook, SessionCount}
use Rattle.urpf_cli.specs.declared.status.Status.TheVariants.{TooManyPairs, TooLong, ReadFault, WriteFault, ItemLimit}
use Rattle.urpf_cli.specs.declared.status.Status.TheVariants.{OctetLimit, BadSession, Unsupported, OutOfMemory}

-- what an object is called
abbrev pub object_text : Object → List ℕ
object_text Config = codes "config"
object_text Book = codes "book"
object_text Pairs = codes "pairs"
object_text Stream = codes "stream"
object_text (named.Session session) = codes "session " ++ decimal session

-- what a fault of a configuration is called
abbrev pub config_kind_text : ConfigKind → List ℕ
config_kind_text config.NotToml = codes "NotToml"
config_kind_text config.UnknownKey = codes "UnknownKey"
config_kind_text config.Interfaces = codes "Interfaces"
config_kind_text config.TooManyInterfaces = codes "TooManyInterfaces"
config_kind_text config.Number = codes "Number"
config_kind_text config.Repeat = codes "Repeat"
config_kind_text config.Role = codes "Role"
config_kind_text config.Mode = codes "Mode"
config_kind_text config.Sessions = codes "Sessions"
config_kind_text config.TooManySessions = codes "TooManySessions"
config_kind_text config.Interface = codes "Interface"
config_kind_text config.PeerAs = codes "PeerAs"
config_kind_text config.Hold = codes "Hold"
config_kind_text config.MaxPrefixes = codes "MaxPrefixes"

-- what a fault of a runbook is called
abbrev pub book_kind_text : BookKind → List ℕ
book_kind_text Syntax = codes "Syntax"
book_kind_text Session = codes "Session"
book_kind_text Iface = codes "Iface"
book_kind_text Rounds = codes "Rounds"

-- what a status says; a run that is done says nothing
abbrev pub status_text : Status → List ℕ
status_text Done = []
status_text Usage =
    codes "usage: check SESSION SOURCE | offline CONFIG BOOK PAIRS S... | live CONFIG BOOK PAIRS S... : P..."
status_text (BadConfig kind index) = codes "config " ++ config_kind_text kind ++ codes " at " ++ decimal index
status_text (BadBook line kind) = codes "book line " ++ decimal line ++ codes " " ++ book_kind_text kind
status_text (SessionCount given wanted) =
    decimal given ++ codes " sessions given, " ++ decimal wanted ++ codes " wanted"
status_text TooManyPairs = codes "too many pairs"
status_text (TooLong object) = object_text object ++ codes " too long"
status_text (ReadFault object) = codes "read fault on " ++ object_text object
status_text WriteFault = codes "write fault"
status_text (ItemLimit session) = codes "session " ++ decimal session ++ codes " at item limit"
status_text (OctetLimit session) = codes "session " ++ decimal session ++ codes " at octet limit"
status_text (BadSession code sub place) =
    codes "message " ++ decimal place ++ codes " fault " ++ decimal code ++ codes " " ++ decimal sub
status_text (Unsupported place) = codes "message " ++ decimal place ++ codes " not supported"
status_text OutOfMemory = codes "out of memory"

-- the whole line, which says who speaks; nothing for a run that is done
abbrev pub status_line : Status → List ℕ
status_line Done = []
status_line status = codes "urpf: " ++ status_text status ++ codes "\n"

-- the exit number of each status
abbrev pub exit_of : Status → ℕ
exit_of Done = 0
exit_of Usage = 2
exit_of (BadConfig kind index) = 3
exit_of (BadBook line kind) = 4
exit_of (SessionCount given wanted) = 5
exit_of TooManyPairs = 6
exit_of (TooLong object) = 7
exit_of (ReadFault object) = 8
exit_of WriteFault = 9
exit_of (ItemLimit session) = 11
exit_of (OctetLimit session) = 11
exit_of (BadSession code sub place) = 13
exit_of (Unsupported place) = 14
exit_of OutOfMemory = 16
