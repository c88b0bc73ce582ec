-- Words, texts and a number of sessions open a run or decide a refusal.
use Rattle.std.proofs.Common.{◌≡◌, ◌⊎◌, ℕ, ◌<◌, ◌≤◌, List, [], ◌∷◌, ◌++◌, length, drop, refl, sym, ap, ◌∙◌, subst}
use Rattle.std.proofs.Common.{inl, inr, min}
use Rattle.std.proofs.Common.{Option, Some, None}
use Rattle.std.specs.Prelude.{codes, IsUtf8}
use Rattle.std.specs.List.{All, AllByRecursion}
use Rattle.std.proofs.lemmas.Bool.{cases_lt}
use Rattle.std.proofs.lemmas.Bool.Decides.{Decides-eqb}
use Rattle.std.proofs.lemmas.List.Elements.{All-from_recursion, recursion_from_All}
use Rattle.std.proofs.lemmas.Str.{IsUtf8-from_is_utf8, is_utf8-from_IsUtf8}
use Rattle.feed_io.specs.GenWords.{SpellsGen}
use Rattle.feed_io.specs.declared.gen_words.GenSpec.{GenSpec}
use Rattle.mrt_feed.specs.Words.{SpellsMrt}
use Rattle.mrt_feed.specs.declared.words.MrtSpec.{MrtSpec}
use Rattle.toml.specs.Data.{Members}
use Rattle.toml.specs.Data as toml
use Rattle.toml.specs.Parse.{parse_document}
use Rattle.router_config.specs.declared.faults.ConfigFault.{ConfigFault}
use Rattle.router_config.specs.declared.faults.ConfigKind.TheVariants as kind
use Rattle.router_config.specs.Rules.{first_broken, rules}
use Rattle.router_config.specs.Settings.{IsConfig, IsDocument, Settings, settings_of}
use Rattle.router_config.specs.Settings as settings
use Rattle.runbook.specs.declared.lines.BookKind.{BookKind}
use Rattle.runbook.specs.declared.lines.BookLine.{BookLine}
use Rattle.runbook.specs.Book.{IsBook, IsFirstFault}
use Rattle.runbook.proofs.Outcomes.{some_outcome}
use Rattle.roa_irr.specs.Tables.{Table, pairs_max}
use Rattle.urpf_cli.specs.Openings.{Configures, IsDecided, IsRefused, IsRunbook, Opens, Texts}
use Rattle.urpf_cli.specs.PairTables.{HasTable, IsPairsRefused, IsTable}
use Rattle.urpf_cli.specs.TextRefusals.{IsTextFailure}
use Rattle.urpf_cli.specs.Words.{AreOfflineWords, BeginsWith, IsName, IsSessionWord, PairsFrom, SaysPairs, form_word}
use Rattle.urpf_cli.specs.Words.{nowhere, pairs_word, table}
use Rattle.urpf_cli.specs.declared.refusals.Refusal.{Refusal}
use Rattle.urpf_cli.specs.declared.refusals.Refusal.TheVariants.{Misused, Config, Book, Pairs, SessionCount}
use Rattle.urpf_cli.specs.declared.refusals.TextRefusal.{TextRefusal}
use Rattle.urpf_cli.specs.declared.refusals.TextRefusal.TheVariants.{TooLong, Bad}
use Rattle.urpf_cli.specs.declared.refusals.TooManyPairs.{TooManyPairs}
use Rattle.urpf_cli.specs.declared.opening.TheConstants.{BOOK_OCTETS, CONFIG_OCTETS}
use Rattle.urpf_cli.specs.declared.pair_table.TheConstants.{PAIRS_OCTETS}
use Rattle.urpf_cli.specs.declared.words.TableForm.{TableForm}
use Rattle.urpf_cli.specs.declared.words.TableForm.TheVariants.{Vrp, Irr}
use Rattle.urpf_cli.proofs.Decisions.{both_or_not, decided, either_or_not, generator_or_not, implies_or_not, not_or, same_or_not}
use Rattle.urpf_cli.proofs.Decisions.{turned}
use Rattle.urpf_cli.proofs.RecordedWords.{recording_or_not}
use Rattle.urpf_cli.proofs.TableLaws.{some_table}

name_or_not : (word : List ℕ) → IsName word ⊎ (¬ (IsName word))
name_or_not word = both_or_not (not_or (same_or_not word [])) (not_or (same_or_not word (codes ":")))

begins_or_not : (front word : List ℕ) → BeginsWith front word ⊎ (¬ (BeginsWith front word))
begins_or_not [] word = inl (word, refl)
begins_or_not (c ∷ front) [] = inr (λ begins. let clash = begins.1 in cc)
begins_or_not (c ∷ front) (x ∷ word) =
    turned (λ both. (both.1.0, longer x c word (front ++ both.1.0) both.0 both.1.1))
    (λ begins. (first x c word (front ++ begins.0) begins.1, (begins.0, rest x c word (front ++ begins.0) begins.1)))
    (both_or_not (decided _ (Decides-eqb x c)) (begins_or_not front word))
  where
    longer : (x c : ℕ) (xs cs : List ℕ) → x ≡ c → xs ≡ cs → x ∷ xs ≡ c ∷ cs
    longer x c xs cs same all = cc

    first : (x c : ℕ) (xs cs : List ℕ) → x ∷ xs ≡ c ∷ cs → x ≡ c
    first x c xs cs is = cc

    rest : (x c : ℕ) (xs cs : List ℕ) → x ∷ xs ≡ c ∷ cs → xs ≡ cs
    rest x c xs cs is = cc

abbrev Generates : List ℕ → Type 0
Generates word = BeginsWith (codes "gen:") word → (spec : GenSpec) × SpellsGen word spec

abbrev Records : List ℕ → Type 0
Records word = BeginsWith (codes "mrt:") word → (spec : MrtSpec) × SpellsMrt word spec

session_word_or_not : (word : List ℕ) → IsSessionWord word ⊎ (¬ (IsSessionWord word))
session_word_or_not word =
    turned (λ (both : IsName word × (Generates word × Records word)). (both.0, both.1.0, both.1.1))
    (λ fits. (fits.0, (fits.1, fits.2)))
    (both_or_not (name_or_not word)
    (both_or_not (implies_or_not (begins_or_not (codes "gen:") word) (generator_or_not word))
    (implies_or_not (begins_or_not (codes "mrt:") word) (recording_or_not word))))

each_or_not : (words : List (List ℕ)) → AllByRecursion IsSessionWord words ⊎ (¬ (AllByRecursion IsSessionWord words))
each_or_not [] = inl tt
each_or_not (word ∷ words) = both_or_not (session_word_or_not word) (each_or_not words)

session_words_or_not : (words : List (List ℕ)) → All IsSessionWord words ⊎ (¬ (All IsSessionWord words))
session_words_or_not words =
    turned (All-from_recursion IsSessionWord words) (recursion_from_All IsSessionWord words) (each_or_not words)

-- the word has a name behind what stands before those of tables of this form
abbrev NamesTable : TableForm → List ℕ → Type 0
NamesTable form word = (name : List ℕ) × (word ≡ form_word form ++ name) × ¬ (name ≡ [])

same_behind : (form : TableForm) (a b : List ℕ) → form_word form ++ a ≡ form_word form ++ b → a ≡ b
same_behind Vrp a b is = ap (drop 4) is
same_behind Irr a b is = ap (drop 4) is

names_or_not : (form : TableForm) (word : List ℕ) → NamesTable form word ⊎ (¬ (NamesTable form word))
names_or_not form word =
    elim (begins_or_not (form_word form) word) [
      | inl begins ↦ elim (same_or_not begins.0 []) [
        | inl none ↦ inr (λ named. named.2 (sym (same_behind form begins.0 named.0 (sym begins.1 ∙ named.1)) ∙ none))
        | inr some ↦ inl (begins.0, begins.1, some)
      ]
      | inr never ↦ inr (λ named. never (named.0, named.1))
    ]

-- a word says where the pairs come from or does not
abbrev Says : List ℕ → Type 0
Says word = (from : PairsFrom) × SaysPairs word from

says_or_not : (word : List ℕ) → Says word ⊎ (¬ (Says word))
says_or_not word =
    turned (forth word) (back word)
    (either_or_not (same_or_not word (codes "none"))
    (either_or_not (names_or_not Vrp word) (names_or_not Irr word)))
  where
    forth : (word : List ℕ) → (word ≡ codes "none") ⊎ (NamesTable Vrp word ⊎ NamesTable Irr word) → Says word
    forth word (inl is) = (nowhere, (is, tt))
    forth word (inr (inl named)) = (table Vrp named.0, (named.1, named.2))
    forth word (inr (inr named)) = (table Irr named.0, (named.1, named.2))

    by : (word : List ℕ) (from : PairsFrom) → SaysPairs word from
        → (word ≡ codes "none") ⊎ (NamesTable Vrp word ⊎ NamesTable Irr word)
    by word nowhere says = inl says.0
    by word (table Vrp name) says = inr (inl (name, says.0, says.1))
    by word (table Irr name) says = inr (inr (name, says.0, says.1))

    back : (word : List ℕ) → Says word → (word ≡ codes "none") ⊎ (NamesTable Vrp word ⊎ NamesTable Irr word)
    back word says = by word says.0 says.1

-- the parts of four words and more that make them the words of `offline`
Parts : List ℕ → List ℕ → List ℕ → List ℕ → List (List ℕ) → Type 0
Parts a b c d rest = (a ≡ codes "offline") × (IsName b × (IsName c × (Says d × All IsSessionWord rest)))

from_parts : (a b c d : List ℕ) (rest : List (List ℕ)) → Parts a b c d rest
    → AreOfflineWords (a ∷ b ∷ c ∷ d ∷ rest)
unfolding Parts
from_parts a b c d rest parts =
    let first = parts.0 in
    let says = parts.1.1.1.0 in
    let fourth = says.1.0 in
    record {
      config = b;
      book = c;
      pairs = says.0;
      sessions = rest;
      parts = cc;
      config_named = parts.1.0;
      book_named = parts.1.1.0;
      pairs_named = says.1.1;
      sessions_fit = parts.1.1.1.1;
    }

to_parts : (a b c d : List ℕ) (rest : List (List ℕ)) → AreOfflineWords (a ∷ b ∷ c ∷ d ∷ rest)
    → Parts a b c d rest
unfolding Parts
to_parts a b c d rest are =
    let is = are.parts in
    let second : are.config ≡ b = cc in
    let third : are.book ≡ c = cc in
    let fourth : d ≡ pairs_word are.pairs = cc in
    let more : are.sessions ≡ rest = cc in (
      cc,
      (
        subst (λ w. IsName w) second are.config_named,
        (
          subst (λ w. IsName w) third are.book_named,
          ((are.pairs, (fourth, are.pairs_named)), subst (λ ws. All IsSessionWord ws) more are.sessions_fit),
        ),
      ),
    )

parts_or_not : (a b c d : List ℕ) (rest : List (List ℕ)) → Parts a b c d rest ⊎ (¬ (Parts a b c d rest))
unfolding Parts
parts_or_not a b c d rest =
    both_or_not (same_or_not a (codes "offline"))
    (both_or_not (name_or_not b)
    (both_or_not (name_or_not c) (both_or_not (says_or_not d) (session_words_or_not rest))))

-- words fit the form of `offline` or do not
pub fit_or_not : (words : List (List ℕ)) → AreOfflineWords words ⊎ (¬ (AreOfflineWords words))
fit_or_not [] = inr (λ are. let clash = are.parts in cc)
fit_or_not (a ∷ []) = inr (λ are. let clash = are.parts in cc)
fit_or_not (a ∷ b ∷ []) = inr (λ are. let clash = are.parts in cc)
fit_or_not (a ∷ b ∷ c ∷ []) = inr (λ are. let clash = are.parts in cc)
fit_or_not (a ∷ b ∷ c ∷ d ∷ rest) =
    turned (from_parts a b c d rest) (to_parts a b c d rest) (parts_or_not a b c d rest)

-- a text is a configuration, or refused as one
abbrev ConfigOutcome : List ℕ → Type 0
ConfigOutcome text = ((s : Settings) × IsConfig text s) ⊎ ((f : ConfigFault) × settings.IsRefused text f)

by_rule : (text : List ℕ) (members : Members) → IsDocument text members → (o : Option ConfigFault)
    → first_broken (rules (toml.table members)) ≡ o → ConfigOutcome text
by_rule text members parsed None is =
    inl (settings_of (toml.table members), record { members = members; parsed = parsed; kept = is; value = refl })
by_rule text members parsed (Some f) is = inr (f, inr (record { members = members; parsed = parsed; broken = is }))

by_document : (text : List ℕ) → IsUtf8 text ⊎ (¬ (IsUtf8 text)) → (o : Option Members) → parse_document text ≡ o
    → ConfigOutcome text
by_document text (inr never) o is =
    inr (record { kind = kind.NotToml; index = 0 }, inl (λ members parsed. never parsed.0, refl))
by_document text (inl utf8) None is =
    inr (record { kind = kind.NotToml; index = 0 }, inl (λ members parsed. let clash = parsed.1 in cc, refl))
by_document text (inl utf8) (Some members) is =
    by_rule text members (utf8, is) (first_broken (rules (toml.table members))) refl

pub some_config : (text : List ℕ) → ConfigOutcome text
some_config text =
    by_document text (decided _ (IsUtf8-from_is_utf8 text, is_utf8-from_IsUtf8 text)) (parse_document text) refl

-- the table of pairs is that of the text, or none, or it is refused
abbrev PairsOutcome : PairsFrom → List ℕ → Type 0
PairsOutcome from text =
    ((pairs : Option Table) × HasTable from text pairs)
    ⊎ ((r : TextRefusal TooManyPairs) × (¬ (IsTextFailure r)) × IsPairsRefused from text r)

by_size : (form : TableForm) (name text : List ℕ) (pairs : Table) → IsTable form text pairs
    → (PAIRS_OCTETS < length text) ⊎ (length text ≤ PAIRS_OCTETS)
    → (pairs_max < length pairs.pairs) ⊎ (length pairs.pairs ≤ pairs_max) → PairsOutcome (table form name) text
by_size form name text pairs is (inl long) many = inr (TooLong, λ f. f, long)
by_size form name text pairs is (inr short) (inl many) =
    inr (Bad (record {}), λ f. f, (short, (pairs, is, many)))
by_size form name text pairs is (inr short) (inr few) =
    inl (Some pairs, record { short = short; is = is; few = few })

some_pairs : (from : PairsFrom) (text : List ℕ) → PairsOutcome from text
some_pairs nowhere text = inl (None, refl)
some_pairs (table form name) text =
    let (pairs, is) = some_table form text in
    by_size form name text pairs is (cases_lt PAIRS_OCTETS (length text))
    (cases_lt pairs_max (length pairs.pairs))

-- words and texts open a run, or decide a refusal
abbrev pub Outcome : List (List ℕ) → Texts → ℕ → Type 0
Outcome words texts given =
    ((s : Settings) × (rows : List (ℕ × BookLine)) × (pairs : Option Table) × Opens words texts given s rows pairs)
    ⊎ ((r : Refusal) × IsDecided r × IsRefused words texts given r)

module _ (words : List (List ℕ)) (texts : Texts) (given : ℕ) (fit : AreOfflineWords words) where
  module _ (s : Settings) (configured : Configures texts.config s) where
    module _ (rows : List (ℕ × BookLine)) (listed : IsRunbook s texts.book rows) where
      by_count : (pairs : Option Table) → HasTable fit.pairs texts.pairs pairs
          → (given ≡ length s.sessions) ⊎ (¬ (given ≡ length s.sessions)) → Outcome words texts given
      by_count pairs tabled (inl counted) =
          inl (
            s,
            rows,
            pairs,
            record { fit = fit; configured = configured; listed = listed; tabled = tabled; counted = counted },
          )
      by_count pairs tabled (inr differs) =
          inr (
            SessionCount (min given 4294967295) (length s.sessions),
            λ f. f,
            record {
              settings = s;
              rows = rows;
              pairs = pairs;
              fit = fit;
              configured = configured;
              listed = listed;
              tabled = tabled;
              wants = refl;
              differs = differs;
              tells = refl;
            },
          )

      by_pairs : PairsOutcome fit.pairs texts.pairs → Outcome words texts given
      by_pairs (inl has) = by_count has.0 has.1 (decided _ (Decides-eqb given (length s.sessions)))
      by_pairs (inr refused) =
          inr (
            Pairs refused.0,
            refused.1,
            record {
              fit = fit;
              settings = s;
              configured = configured;
              rows = rows;
              listed = listed;
              refused = refused.2;
            },
          )

    by_book : (BOOK_OCTETS < length texts.book) ⊎ (length texts.book ≤ BOOK_OCTETS)
        → ((rows : List (ℕ × BookLine)) × IsBook s texts.book rows)
        ⊎ ((number : ℕ) × (kind : BookKind) × IsFirstFault s texts.book number kind) → Outcome words texts given
    by_book (inl long) read =
        inr (
          Book TooLong,
          λ f. f,
          record { fit = fit; settings = s; configured = configured; refused = long },
        )
    by_book (inr short) (inl rows) =
        let listed : IsRunbook s texts.book rows.0 = record { short = short; is = rows.1 } in
        by_pairs rows.0 listed (some_pairs fit.pairs texts.pairs)
    by_book (inr short) (inr fault) =
        inr (
          Book (Bad (record { line = fault.0; kind = fault.1 })),
          λ f. f,
          record { fit = fit; settings = s; configured = configured; refused = (short, fault.2) },
        )

  by_config : (CONFIG_OCTETS < length texts.config) ⊎ (length texts.config ≤ CONFIG_OCTETS)
      → ConfigOutcome texts.config → Outcome words texts given
  by_config (inl long) read = inr (Config TooLong, λ f. f, (fit, long))
  by_config (inr short) (inl s) =
      by_book s.0 (record { short = short; is = s.1 }) (cases_lt BOOK_OCTETS (length texts.book))
      (some_outcome s.0 texts.book)
  by_config (inr short) (inr fault) = inr (Config (Bad fault.0), λ f. f, (fit, (short, fault.1)))

by_words : (words : List (List ℕ)) (texts : Texts) (given : ℕ) → AreOfflineWords words ⊎ (¬ (AreOfflineWords words))
    → Outcome words texts given
by_words words texts given (inr never) = inr (Misused, λ f. f, never)
by_words words texts given (inl fit) =
    by_config words texts given fit (cases_lt CONFIG_OCTETS (length texts.config)) (some_config texts.config)

pub some_opening : (words : List (List ℕ)) (texts : Texts) (given : ℕ) → Outcome words texts given
some_opening words texts given = by_words words texts given (fit_or_not words)
