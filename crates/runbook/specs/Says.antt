-- What the words of a line say, and what becomes of it in a configured router. Our own format.
use Rattle.std.specs.Prelude.{◌≡◌, ◌⊎◌, ℕ, ◌+◌, ◌≤◌, nat_lt, length, List, [], ◌∷◌, Option, Some, None, Result, Ok, Err}
use Rattle.std.specs.Prelude.{codes, decimal, if◌then◌else◌}
use Rattle.ip_text.specs.Prefixes.{SpellsAsn, SpellsPrefix}
use Rattle.ip_text.specs.Texts.{SpellsAddr}
use Rattle.router_config.specs.Kinds.{iface_in}
use Rattle.router_config.specs.Names.{mode_name, role_name}
use Rattle.router_config.specs.Settings.{Settings}
use Rattle.router_config.specs.declared.edits.Edit.{Edit}
use Rattle.router_config.specs.declared.edits.Edit.TheVariants as edit
use Rattle.runbook.specs.declared.saying.Act.{Act}
use Rattle.runbook.specs.declared.saying.Act.TheVariants as act
use Rattle.runbook.specs.declared.saying.Alone.{Alone}
use Rattle.runbook.specs.declared.saying.Alone.TheVariants as alone
use Rattle.runbook.specs.declared.saying.PairAct.{PairAct}
use Rattle.runbook.specs.declared.saying.PairAct.TheVariants as pair
use Rattle.runbook.specs.declared.saying.Said.{Said}
use Rattle.runbook.specs.declared.saying.Said.TheVariants as said
use Rattle.runbook.specs.declared.lines.BookLine.{BookLine}
use Rattle.runbook.specs.declared.lines.BookLine.TheVariants as line
use Rattle.runbook.specs.declared.lines.BookKind.{BookKind}
use Rattle.runbook.specs.declared.lines.BookKind.TheVariants.{Syntax, Session, Iface, Rounds}
use Rattle.urpf_base.specs.Address.{Block}

-- the word names one session, or with `*` all of them; numbers are decimal without leading zeros
abbrev pub NamesSession : List ℕ → Option ℕ → Type 0
NamesSession word None = word ≡ codes "*"
NamesSession word (Some session) = (session ≤ 65535) × (word ≡ decimal session)

-- the word names a number of items, or with `all` all of them
abbrev pub NamesCount : List ℕ → Option ℕ → Type 0
NamesCount word None = word ≡ codes "all"
NamesCount word (Some count) = (count ≤ 1000000000) × (word ≡ decimal count)

-- the word of a line of one word
abbrev pub alone_word : Alone → List ℕ
alone_word alone.Publish = codes "publish"
alone_word alone.Round = codes "round"
alone_word alone.Summary = codes "summary"

-- the first word of a line on an interface
abbrev pub act_word : Act → List ℕ
act_word (act.Check addr) = codes "check"
act_word (act.Role role) = codes "role"
act_word (act.Mode mode) = codes "mode"

-- its last word
abbrev pub SpellsAct : List ℕ → Act → Type 0
SpellsAct word (act.Check addr) = SpellsAddr word addr
SpellsAct word (act.Role role) = word ≡ role_name role
SpellsAct word (act.Mode mode) = word ≡ mode_name mode

-- the second word of a line on a pair
abbrev pub pair_word : PairAct → List ℕ
pair_word pair.Add = codes "add"
pair_word pair.Del = codes "del"

-- the words say this
abbrev pub Says : List (List ℕ) → Said → Type 0
Says words (said.Pull session count) =
    (first : List ℕ) × (second : List ℕ) × NamesSession first session × NamesCount second count
    × (words ≡ codes "pull" ∷ first ∷ second ∷ [])
Says words (said.Alone one) = words ≡ alone_word one ∷ []
Says words (said.At iface act) =
    (iface ≤ 65535) × (last : List ℕ) × SpellsAct last act × (words ≡ act_word act ∷ decimal iface ∷ last ∷ [])
Says words (said.Pair act prefix asn) =
    (third : List ℕ) × (last : List ℕ) × SpellsPrefix third prefix × SpellsAsn last asn
    × (words ≡ codes "pair" ∷ pair_word act ∷ third ∷ last ∷ [])

-- the line on a configured interface
abbrev pub line_at : ℕ → Act → BookLine
line_at iface (act.Check addr) = line.Check iface addr
line_at iface (act.Role role) = line.Change (edit.Role iface role)
line_at iface (act.Mode mode) = line.Change (edit.Mode iface mode)

-- the edit of a pair
abbrev pub pair_edit : PairAct → Block → ℕ → Edit
pair_edit pair.Add prefix asn = edit.PairAdd prefix asn
pair_edit pair.Del prefix asn = edit.PairDel prefix asn

-- a pull, where there are so many sessions
abbrev pub judged_pull : ℕ → Option ℕ → Option ℕ → Result BookLine BookKind
judged_pull sessions None count = Ok (line.Pull None count)
judged_pull sessions (Some session) count =
    if nat_lt session sessions then Ok (line.Pull (Some session) count) else Err Session

-- a line of one word, where so many rounds are ended before
abbrev pub judged_alone : ℕ → Alone → Result BookLine BookKind
judged_alone rounds alone.Publish = Ok line.Publish
judged_alone rounds alone.Round = if nat_lt rounds 65535 then Ok line.Round else Err Rounds
judged_alone rounds alone.Summary = Ok line.Summary

-- a line on an interface, where that is configured
abbrev pub judged_at : Option ℕ → Act → Result BookLine BookKind
judged_at None act = Err Iface
judged_at (Some iface) act = Ok (line_at iface act)

-- what the words say, where so many rounds are ended before: a session and an interface that are not configured are
-- refused, and so is a round past 65,535; a pair needs nothing that is configured
abbrev pub judged : Settings → ℕ → Said → Result BookLine BookKind
judged config rounds (said.Pull session count) = judged_pull (length config.sessions) session count
judged config rounds (said.Alone one) = judged_alone rounds one
judged config rounds (said.At iface act) = judged_at (iface_in config.interfaces iface) act
judged config rounds (said.Pair act prefix asn) = Ok (line.Change (pair_edit act prefix asn))

-- what words say is judged, and words that say nothing are refused for that
abbrev pub IsJudged : Settings → ℕ → List (List ℕ) → Result BookLine BookKind → Type 0
IsJudged config rounds words result =
    ((s : Said) × Says words s × (judged config rounds s ≡ result))
    ⊎ (((s : Said) → ¬ (Says words s)) × (result ≡ Err Syntax))

-- so many rounds are ended once the line is taken
abbrev pub rounds_after : ℕ → BookLine → ℕ
rounds_after rounds line.Round = rounds + 1
rounds_after rounds _ = rounds
