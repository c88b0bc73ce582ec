-- The lines of output. All of them are our own choice: fields parted by one space, numbers in decimal, a line feed at
-- the end.
use Rattle.std.specs.Prelude.{ℕ, Bool, if◌then◌else◌, List, ◌∷◌, ◌++◌, map, codes, decimal, Option, Some, None}
use Rattle.std.specs.List.{concat}
use Rattle.urpf_base.specs.declared.address.Addr.{Addr}
use Rattle.urpf_base.specs.declared.verdicts.Verdict.{Verdict}
use Rattle.urpf_base.specs.declared.verdicts.Verdict.TheVariants.{Pass, Drop, BadHead, NoIface}
use Rattle.urpf_base.specs.declared.sessions.ResetCause.{ResetCause}
use Rattle.urpf_base.specs.declared.sessions.ResetCause.TheVariants.{Fault, Notified, Closed}
use Rattle.ip_text.specs.Texts.{addr_text}

-- what a run stands on: its interfaces and sessions, the distinct pairs, and the records that were skipped
abbrev pub run_line : ℕ → ℕ → ℕ → ℕ → List ℕ
run_line interfaces sessions pairs skipped =
    codes "run interfaces " ++ decimal interfaces ++ codes " sessions " ++ decimal sessions ++ codes " pairs "
    ++ decimal pairs ++ codes " skipped " ++ decimal skipped ++ codes "\n"

-- each number after a space
abbrev pub spaced : List ℕ → List ℕ
spaced numbers = concat (map (λ n. 32 ∷ decimal n) numbers)

-- a publication: its number, its edits and cells, and how many items each session has given so far
abbrev pub publish_line : ℕ → ℕ → ℕ → List ℕ → List ℕ
publish_line number edits cells items =
    codes "publish " ++ decimal number ++ codes " edits " ++ decimal edits ++ codes " cells " ++ decimal cells
    ++ codes " items" ++ spaced items ++ codes "\n"

-- the end of a session: its number, its items, and the octets after its last whole message
abbrev pub end_line : ℕ → ℕ → ℕ → List ℕ
end_line session items rest =
    codes "end " ++ decimal session ++ codes " items " ++ decimal items ++ codes " rest " ++ decimal rest ++ codes "\n"

-- what a cause of a reset is called: by this side's fault or the peer's NOTIFICATION, each with its code and subcode,
-- or by the transport
abbrev pub cause_text : ResetCause → List ℕ
cause_text (Fault code sub) = codes "fault " ++ decimal code ++ codes " " ++ decimal sub
cause_text (Notified code sub) = codes "notified " ++ decimal code ++ codes " " ++ decimal sub
cause_text Closed = codes "closed"

-- the reset of a session: the item it comes at, and its cause
abbrev pub reset_line : ℕ → ℕ → ResetCause → List ℕ
reset_line session item cause =
    codes "reset " ++ decimal session ++ codes " item " ++ decimal item ++ codes " " ++ cause_text cause ++ codes "\n"

-- the end of a round: its number
abbrev pub round_line : ℕ → List ℕ
round_line round = codes "round " ++ decimal round ++ codes "\n"

-- what is there now: how many rows and pairs
abbrev pub summary_line : ℕ → ℕ → List ℕ
summary_line rows pairs = codes "summary rows " ++ decimal rows ++ codes " pairs " ++ decimal pairs ++ codes "\n"

-- the close of a run: the number of its last publication, and how many packets had a line
abbrev pub done_line : ℕ → ℕ → List ℕ
done_line publications packets =
    codes "done publications " ++ decimal publications ++ codes " packets " ++ decimal packets ++ codes "\n"

-- what a verdict is called
abbrev pub verdict_text : Verdict → List ℕ
verdict_text Pass = codes "pass"
verdict_text Drop = codes "drop"
verdict_text BadHead = codes "badhead"
verdict_text NoIface = codes "noif"

-- whether the source address passes
abbrev pub verdict_of : Bool → Verdict
verdict_of pass = if pass then Pass else Drop

-- the check of one source against one session: its messages, its prefixes, and the octets after its last whole message
abbrev pub check_one_line : Addr → Bool → ℕ → ℕ → ℕ → List ℕ
check_one_line addr pass messages prefixes rest =
    codes "check " ++ addr_text addr ++ codes " " ++ verdict_text (verdict_of pass) ++ codes " messages "
    ++ decimal messages ++ codes " prefixes " ++ decimal prefixes ++ codes " rest " ++ decimal rest ++ codes "\n"

-- the check of a source on an interface against the publication of this number
abbrev pub check_line : ℕ → Addr → Verdict → ℕ → List ℕ
check_line iface addr verdict number =
    codes "check " ++ decimal iface ++ codes " " ++ addr_text addr ++ codes " " ++ verdict_text verdict ++ codes " "
    ++ decimal number ++ codes "\n"

-- the source of a packet, and `-` where none can be read
abbrev pub source_text : Option Addr → List ℕ
source_text None = codes "-"
source_text (Some addr) = addr_text addr

-- the verdict on a packet: its worker, its place among the packets of the worker, from 1, the interface that it came in on,
-- its source, and the publication of this number that it was checked against
abbrev pub packet_line : ℕ → ℕ → ℕ → Option Addr → Verdict → ℕ → List ℕ
packet_line worker place iface source verdict number =
    codes "packet " ++ decimal worker ++ codes " " ++ decimal place ++ codes " " ++ decimal iface ++ codes " "
    ++ source_text source ++ codes " " ++ verdict_text verdict ++ codes " " ++ decimal number ++ codes "\n"
