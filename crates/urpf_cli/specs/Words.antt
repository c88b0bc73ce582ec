-- What the words of a command line ask for. Our own choice.
use Rattle.std.specs.Prelude.{◌≡◌, ℕ, List, [], ◌∷◌, ◌++◌, codes, map, string_bytes}
use Rattle.std.specs.List.{All}
use Rattle.urpf_base.specs.declared.address.Addr.{Addr}
use Rattle.feed_io.specs.GenWords.{SpellsGen}
use Rattle.feed_io.specs.declared.gen_words.GenSpec.{GenSpec}
use Rattle.ip_text.specs.Texts.{SpellsAddr}
use Rattle.mrt_feed.specs.Words.{SpellsMrt}
use Rattle.mrt_feed.specs.declared.words.MrtSpec.{MrtSpec}
use Rattle.urpf_cli.specs.declared.words.Command.{Command}
use Rattle.urpf_cli.specs.declared.words.Command.TheVariants.{Check, Offline}
use Rattle.urpf_cli.specs.declared.words.PairsWord.{PairsWord}
use Rattle.urpf_cli.specs.declared.words.PairsWord.TheVariants as word
use Rattle.urpf_cli.specs.declared.words.TableForm.{TableForm}
use Rattle.urpf_cli.specs.declared.words.TableForm.TheVariants as form

-- the word can name a file: it is neither empty nor `:`
abbrev pub IsName : List ℕ → Type 0
IsName word = ¬ (word ≡ []) × ¬ (word ≡ codes ":")

-- the word begins so
abbrev pub BeginsWith : List ℕ → List ℕ → Type 0
BeginsWith front word = (rest : List ℕ) × (word ≡ front ++ rest)

-- the word is that of a session: it names the file of a trace, where it begins with `gen:` a generator, and where it
-- begins with `mrt:` a recording and a peer
abbrev pub IsSessionWord : List ℕ → Type 0
IsSessionWord word =
    IsName word × (BeginsWith (codes "gen:") word → (spec : GenSpec) × SpellsGen word spec)
    × (BeginsWith (codes "mrt:") word → (spec : MrtSpec) × SpellsMrt word spec)

-- where the pairs of a run come from: from nowhere, or from the table of this form and name
pub data PairsFrom : Type 0 where
  nowhere : PairsFrom
  table : TableForm → List ℕ → PairsFrom

-- what stands before the name of a table of this form
abbrev pub form_word : TableForm → List ℕ
form_word form.Vrp = codes "vrp:"
form_word form.Irr = codes "irr:"

-- the word that says where the pairs come from
abbrev pub pairs_word : PairsFrom → List ℕ
pairs_word nowhere = codes "none"
pairs_word (table form name) = form_word form ++ name

-- the name of a table is not empty
abbrev pub IsNamed : PairsFrom → Type 0
IsNamed nowhere = Unit {0}
IsNamed (table form name) = ¬ (name ≡ [])

-- the word says where the pairs of a run come from
abbrev pub SaysPairs : List ℕ → PairsFrom → Type 0
SaysPairs word from = (word ≡ pairs_word from) × IsNamed from

-- what is read of the word
abbrev pub pairs_from : PairsWord → PairsFrom
pairs_from word.None = nowhere
pairs_from (word.Table form name) = table form name.now

-- the words are `check`, the name of a session and the text of the source
pub record AreCheckWords (words : List (List ℕ)) (source : Addr) : Type 0 where
  pub session : List ℕ
  pub text : List ℕ
  pub parts : words ≡ codes "check" ∷ session ∷ text ∷ []
  pub named : IsName session
  pub spelled : SpellsAddr text source

-- the words are `offline`, the name of a configuration, that of a runbook, the word of the pairs, and those of the
-- sessions
pub record AreOfflineWords (words : List (List ℕ)) : Type 0 where
  pub config : List ℕ
  pub book : List ℕ
  pub pairs : PairsFrom
  pub sessions : List (List ℕ)
  pub parts : words ≡ codes "offline" ∷ config ∷ book ∷ pairs_word pairs ∷ sessions
  pub config_named : IsName config
  pub book_named : IsName book
  pub pairs_named : IsNamed pairs
  pub sessions_fit : All IsSessionWord sessions

-- what a command line can ask for, by the texts of its names
pub data Request : Type 0 where
  check : List ℕ → Addr → Request
  offline : List ℕ → List ℕ → PairsFrom → List (List ℕ) → Request

-- what a command asks for
abbrev pub request_of : Command → Request
request_of (Check session source) = check session.now source
request_of (Offline config book pairs sessions) =
    offline config.now book.now (pairs_from pairs) (map string_bytes sessions.now)

-- the words ask for this
abbrev pub AskFor : List (List ℕ) → Request → Type 0
AskFor words (check session source) = (are : AreCheckWords words source) × (are.session ≡ session)
AskFor words (offline config book pairs sessions) =
    (are : AreOfflineWords words)
    × (are.config ≡ config) × (are.book ≡ book) × (are.pairs ≡ pairs) × (are.sessions ≡ sessions)
