-- Words, texts and a number of sessions open one run, or decide one refusal, and never both.
use Rattle.std.proofs.Common.{◌≡◌, ◌⊎◌, ℕ, ◌<◌, List, [], ◌∷◌, length, refl, sym, ap, subst, ◌∙◌, inl, inr, arith}
use Rattle.std.proofs.Common.{Option, Some, None, IfSome, Result, Ok, Err, min}
use Rattle.router_config.specs.declared.faults.ConfigFault.{ConfigFault}
use Rattle.router_config.specs.Settings.{IsConfig, Settings}
use Rattle.router_config.specs.Settings as settings
use Rattle.router_config.proofs.Blank.{kept_not_blank}
use Rattle.toml.specs.Errors.{IsBlank}
use Rattle.toml.specs.Parse.{skip_bom}
use Rattle.toml.proofs.Blanks.{skip_within}
use Rattle.roa_irr.specs.Tables.{Table}
use Rattle.runbook.specs.declared.book.BookFault.{BookFault}
use Rattle.runbook.specs.declared.lines.BookLine.{BookLine}
use Rattle.runbook.specs.Book.{IsBook}
use Rattle.runbook.proofs.BookLaws.{never_both, one_book, one_fault}
use Rattle.urpf_cli.proofs.CheckEnds.{some_stream}
use Rattle.urpf_cli.proofs.RefusalStatuses.{same_book_fault}
use Rattle.urpf_cli.proofs.TableLaws.{has_or_refused, one_from, one_has, one_pairs_refusal}
use Rattle.urpf_cli.proofs.TextLaws.{not_refused, one_text_refusal}
use Rattle.urpf_cli.specs.Openings.{AreTold, Configures, IsBookRefused, IsConfigRefused, IsDecided, IsFailure}
use Rattle.urpf_cli.specs.Openings.{IsRefused, IsRunbook, Opens, RefusesBook, RefusesCount, RefusesPairs, Texts}
use Rattle.urpf_cli.specs.PairTables.{HasTable, IsPairsRefused}
use Rattle.urpf_cli.specs.TextRefusals.{IsTextFailure}
use Rattle.urpf_cli.specs.Words.{AreOfflineWords, PairsFrom}
use Rattle.urpf_cli.specs.declared.opening.Opening.{Opening}
use Rattle.urpf_cli.specs.declared.refusals.Refusal.{Refusal}
use Rattle.urpf_cli.specs.declared.refusals.Refusal.TheVariants.{Misused, Config, Book, Pairs, SessionCount}
use Rattle.urpf_cli.specs.declared.refusals.TextRefusal.{TextRefusal}
use Rattle.urpf_cli.specs.declared.refusals.TextRefusal.TheVariants.{ReadFault, TooLong, Bad, OutOfMemory}
use Rattle.urpf_cli.specs.declared.refusals.TooManyPairs.{TooManyPairs}

-- a text configures one thing
pub one_config : (text : List ℕ) (a b : Settings) → IsConfig text a → IsConfig text b → a ≡ b
one_config text a b is other =
    let first = is.parsed.1 in
    let second = other.parsed.1 in
    cc

-- a text that configures something is not refused
pub config_or_fault : (text : List ℕ) (config : Settings) (fault : ConfigFault) → IsConfig text config
    → settings.IsRefused text fault → ⊥
config_or_fault text config fault is (inl none) = none.0 is.members is.parsed
config_or_fault text config fault is (inr breaks) =
    let first = is.parsed.1 in
    let second = breaks.parsed.1 in
    cc

-- a text is refused for one fault
pub one_config_fault : (text : List ℕ) (f g : ConfigFault) → settings.IsRefused text f → settings.IsRefused text g
    → f ≡ g
one_config_fault text f g (inl a) (inl b) = a.1 ∙ sym b.1
one_config_fault text f g (inl a) (inr b) = absurd (a.0 b.members b.parsed)
one_config_fault text f g (inr a) (inl b) = absurd (b.0 a.members a.parsed)
one_config_fault text f g (inr a) (inr b) =
    let first = a.parsed.1 in
    let second = b.parsed.1 in
    cc

-- a text that configures something is not refused as a configuration
configured_or_refused : (text : List ℕ) (config : Settings) (r : TextRefusal ConfigFault) → Configures text config
    → IsConfigRefused text r → ⊥
configured_or_refused text config r is =
    not_refused _ (settings.IsRefused text) text is.short (λ f. config_or_fault text config f is.is) r

-- a configuration is refused for one thing
one_config_refusal : (text : List ℕ) (q r : TextRefusal ConfigFault) → IsConfigRefused text q → IsConfigRefused text r
    → q ≡ r
one_config_refusal text = one_text_refusal _ (settings.IsRefused text) text (one_config_fault text)

-- a text that is a runbook is not refused as one
listed_or_refused : (config : Settings) (text : List ℕ) (rows : List (ℕ × BookLine)) (r : TextRefusal BookFault)
    → IsRunbook config text rows → IsBookRefused config text r → ⊥
listed_or_refused config text rows r is =
    not_refused _ _ text is.short (λ f. never_both config text rows f.line f.kind is.is) r

-- a runbook is refused for one thing
one_book_refusal : (config : Settings) (text : List ℕ) (q r : TextRefusal BookFault) → IsBookRefused config text q
    → IsBookRefused config text r → q ≡ r
one_book_refusal config text =
    one_text_refusal _ _ text (λ f g a b.
    let same = one_fault config text f.line g.line f.kind g.kind a b in same_book_fault f g same.0 same.1)

no_mark : skip_bom [] ≡ []
unfolding skip_bom
no_mark = refl

some_octets : (text : List ℕ) → ¬ (IsBlank text) → 0 < length text
some_octets [] never =
    absurd (never (omega (arith, skip_within (skip_bom []), ap (λ (t : List ℕ). length t) no_mark)))
some_octets (c ∷ text) never = omega arith

-- a text that wants more than blanks has octets, and so has one that configures something
pub config_octets : (text : List ℕ) (config : Settings) → IsConfig text config → 0 < length text
config_octets text config is = some_octets text (kept_not_blank text is.members is.parsed.1 is.kept)

pub told_octets : (left : Option (List ℕ)) (text : List ℕ) → IfSome left (λ all. text ≡ all) → ¬ (IsBlank text)
    → IfSome left (λ all. 0 < length all)
told_octets left text whole never = some_stream left text whole (some_octets text never)

-- one configuration is configured
pub one_configured : (text : List ℕ) (a b : Settings) → Configures text a → Configures text b → a ≡ b
one_configured text a b is other = one_config text a b is.is other.is

-- over one configuration a text is one runbook
same_listed : (book : List ℕ) (a b : Settings) (rows others : List (ℕ × BookLine)) → a ≡ b → IsRunbook a book rows
    → IsRunbook b book others → rows ≡ others
same_listed book a b rows others same is other =
    one_book b book rows others (subst (λ (s : Settings). IsBook s book rows) same is.is) other.is

module _ (words : List (List ℕ)) (texts : Texts) where
  -- the words say where the pairs come from, whoever reads them
  has_table : (a b : AreOfflineWords words) (pairs : Option Table) → HasTable a.pairs texts.pairs pairs
      → HasTable b.pairs texts.pairs pairs
  has_table a b pairs = subst (λ (from : PairsFrom). HasTable from texts.pairs pairs) (one_from words a b)

  -- a runbook that is read is not refused
  book_clash : (s : Settings) (rows : List (ℕ × BookLine)) (r : TextRefusal BookFault) → Configures texts.config s
      → IsRunbook s texts.book rows → RefusesBook words texts r → ⊥
  book_clash s rows r configured listed refuses =
      let same = one_configured texts.config refuses.settings s refuses.configured configured in
      listed_or_refused s texts.book rows r listed
      (subst (λ (t : Settings). IsBookRefused t texts.book r) same refuses.refused)

  -- a table of pairs that a run begins with is not refused
  pairs_clash : (fit : AreOfflineWords words) (pairs : Option Table) (r : TextRefusal TooManyPairs)
      → HasTable fit.pairs texts.pairs pairs → RefusesPairs words texts r → ⊥
  pairs_clash fit pairs r tabled refuses =
      has_or_refused refuses.fit.pairs texts.pairs pairs r (has_table fit refuses.fit pairs tabled) refuses.refused

  one_book_refused : (q r : TextRefusal BookFault) → RefusesBook words texts q → RefusesBook words texts r → q ≡ r
  one_book_refused q r a b =
      let same = one_configured texts.config a.settings b.settings a.configured b.configured in
      one_book_refusal b.settings texts.book q r
      (subst (λ (t : Settings). IsBookRefused t texts.book q) same a.refused) b.refused

  one_pairs_refused : (q r : TextRefusal TooManyPairs) → RefusesPairs words texts q → RefusesPairs words texts r
      → q ≡ r
  one_pairs_refused q r a b =
      one_pairs_refusal b.fit.pairs texts.pairs q r
      (subst (λ (from : PairsFrom). IsPairsRefused from texts.pairs q) (one_from words a.fit b.fit) a.refused) b.refused

  module _ (given : ℕ) where
    one_count : (t w u v : ℕ) → RefusesCount words texts given t w → RefusesCount words texts given u v
        → SessionCount t w ≡ SessionCount u v
    one_count t w u v a b =
        let same = one_configured texts.config a.settings b.settings a.configured b.configured in
        let wanted : w ≡ v = a.wants ∙ ap (λ (x : Settings). length x.sessions) same ∙ sym b.wants in
        let told : t ≡ u = a.tells ∙ sym b.tells in
        cc

    -- one run is opened
    pub one_opening : (a b : Settings) (rows others : List (ℕ × BookLine)) (pairs other : Option Table)
        → Opens words texts given a rows pairs → Opens words texts given b others other
        → (a ≡ b) × (rows ≡ others) × (pairs ≡ other)
    one_opening a b rows others pairs other is more =
        let same = one_configured texts.config a b is.configured more.configured in (
          same,
          same_listed texts.book a b rows others same is.listed more.listed,
          one_has more.fit.pairs texts.pairs pairs other (has_table is.fit more.fit pairs is.tabled) more.tabled,
        )

    -- what opens a run is not refused
    pub opens_or_refused : (s : Settings) (rows : List (ℕ × BookLine)) (pairs : Option Table) (r : Refusal)
        → Opens words texts given s rows pairs → IsRefused words texts given r → ⊥
    opens_or_refused s rows pairs Misused is refused = refused is.fit
    opens_or_refused s rows pairs (Config r) is refused =
        configured_or_refused texts.config s r is.configured refused.1
    opens_or_refused s rows pairs (Book r) is refused = book_clash s rows r is.configured is.listed refused
    opens_or_refused s rows pairs (Pairs r) is refused = pairs_clash is.fit pairs r is.tabled refused
    opens_or_refused s rows pairs (SessionCount told wanted) is refused =
        let same = one_configured texts.config s refused.settings is.configured refused.configured in
        refused.differs (is.counted ∙ ap (λ (x : Settings). length x.sessions) same ∙ sym refused.wants)

    -- what is refused is refused for one thing
    pub one_refusal : (q r : Refusal) → IsRefused words texts given q → IsRefused words texts given r → q ≡ r
    one_refusal Misused Misused a b = refl
    one_refusal Misused (Config r) a b = absurd (a b.0)
    one_refusal Misused (Book r) a b = absurd (a b.fit)
    one_refusal Misused (Pairs r) a b = absurd (a b.fit)
    one_refusal Misused (SessionCount t w) a b = absurd (a b.fit)
    one_refusal (Config q) Misused a b = absurd (b a.0)
    one_refusal (Config q) (Config r) a b = ap (λ x. Config x) (one_config_refusal texts.config q r a.1 b.1)
    one_refusal (Config q) (Book r) a b = absurd (configured_or_refused texts.config b.settings q b.configured a.1)
    one_refusal (Config q) (Pairs r) a b = absurd (configured_or_refused texts.config b.settings q b.configured a.1)
    one_refusal (Config q) (SessionCount t w) a b =
        absurd (configured_or_refused texts.config b.settings q b.configured a.1)
    one_refusal (Book q) Misused a b = absurd (b a.fit)
    one_refusal (Book q) (Config r) a b = absurd (configured_or_refused texts.config a.settings r a.configured b.1)
    one_refusal (Book q) (Book r) a b = ap (λ x. Book x) (one_book_refused q r a b)
    one_refusal (Book q) (Pairs r) a b = absurd (book_clash b.settings b.rows q b.configured b.listed a)
    one_refusal (Book q) (SessionCount t w) a b = absurd (book_clash b.settings b.rows q b.configured b.listed a)
    one_refusal (Pairs q) Misused a b = absurd (b a.fit)
    one_refusal (Pairs q) (Config r) a b = absurd (configured_or_refused texts.config a.settings r a.configured b.1)
    one_refusal (Pairs q) (Book r) a b = absurd (book_clash a.settings a.rows r a.configured a.listed b)
    one_refusal (Pairs q) (Pairs r) a b = ap (λ x. Pairs x) (one_pairs_refused q r a b)
    one_refusal (Pairs q) (SessionCount t w) a b = absurd (pairs_clash b.fit b.pairs q b.tabled a)
    one_refusal (SessionCount t w) Misused a b = absurd (b a.fit)
    one_refusal (SessionCount t w) (Config r) a b =
        absurd (configured_or_refused texts.config a.settings r a.configured b.1)
    one_refusal (SessionCount t w) (Book r) a b = absurd (book_clash a.settings a.rows r a.configured a.listed b)
    one_refusal (SessionCount t w) (Pairs r) a b = absurd (pairs_clash a.fit a.pairs r a.tabled b)
    one_refusal (SessionCount t w) (SessionCount u v) a b = one_count t w u v a b

-- a refusal of a text is a failure or not
text_failure : {F : Type 0} (r : TextRefusal F) → IsTextFailure r ⊎ (¬ (IsTextFailure r))
text_failure ReadFault = inl tt
text_failure TooLong = inr (λ f. f)
text_failure (Bad fault) = inr (λ f. f)
text_failure OutOfMemory = inl tt

-- a refusal is a failure or decided
failure_or_decided : (r : Refusal) → IsFailure r ⊎ IsDecided r
failure_or_decided Misused = inr (λ f. f)
failure_or_decided (Config r) = text_failure r
failure_or_decided (Book r) = text_failure r
failure_or_decided (Pairs r) = text_failure r
failure_or_decided (SessionCount told wanted) = inr (λ f. f)

module _ (words : List (List ℕ)) (texts : Texts) (given : ℕ) where
  -- what opens a run is refused by a failure alone
  pub fails_if_opens : (s : Settings) (rows : List (ℕ × BookLine)) (pairs : Option Table) (r : Refusal)
      → Opens words texts given s rows pairs → (IsDecided r → IsRefused words texts given r) → IsFailure r
  fails_if_opens s rows pairs r opens refused =
      elim (failure_or_decided r) [
        | inl failure ↦ failure
        | inr decided ↦ absurd (opens_or_refused words texts given s rows pairs r opens (refused decided))
      ]

  -- what is refused for one thing is refused for that, or by a failure
  pub same_or_fails : (q r : Refusal) → IsRefused words texts given r → (IsDecided q → IsRefused words texts given q)
      → (q ≡ r) ⊎ IsFailure q
  same_or_fails q r is refused =
      elim (failure_or_decided q) [
        | inl failure ↦ inr failure
        | inr decided ↦ inl (one_refusal words texts given q r (refused decided) is)
      ]

-- what holds of a text that is told
told : (P : List ℕ → Type 0) (left : Option (List ℕ)) (text : List ℕ) → IfSome left P → left ≡ Some text → P text
told P left text holds is = subst (λ o. IfSome o P) is holds

-- a text that is told configures something
pub some_configured : (left : Option (List ℕ)) (config : Settings) → IfSome left (λ text. Configures text config)
    → IfSome left (λ text. (settings : Settings) × Configures text settings)
some_configured None config found = tt
some_configured (Some text) config found = (config, found)

-- the texts that three sources tell
module _ (words : List (List ℕ)) (config book pairs : Option (List ℕ)) (texts : Texts)
    (are : AreTold config book pairs texts) (fit : AreOfflineWords words) where
  -- a configuration that was refused
  pub config_told : (r : TextRefusal ConfigFault) → (¬ (IsTextFailure r) → IfSome config (λ t. IsConfigRefused t r))
      → (given : ℕ) → IsDecided (Config r) → IsRefused words texts given (Config r)
  config_told r refused given decided =
      (fit, told (λ t. IsConfigRefused t r) config texts.config (refused decided) are.configuration)

  module _ (s : Settings) (configured : IfSome config (λ t. Configures t s)) where
    -- a runbook that was refused
    pub book_told : (r : TextRefusal BookFault) → (¬ (IsTextFailure r) → IfSome book (λ t. IsBookRefused s t r))
        → ¬ (IsTextFailure r) → RefusesBook words texts r
    book_told r refused decided = record {
      fit = fit;
      settings = s;
      configured = told (λ t. Configures t s) config texts.config configured are.configuration;
      refused = told (λ t. IsBookRefused s t r) book texts.book (refused decided) are.runbook;
    }

    module _ (rows : List (ℕ × BookLine)) (listed : IfSome book (λ t. IsRunbook s t rows)) where
      -- a configuration and a runbook that were read
      pub texts_good : (settings : Settings) × (rows : List (ℕ × BookLine)) × Configures texts.config settings
          × IsRunbook settings texts.book rows
      texts_good = (
        s,
        rows,
        told (λ t. Configures t s) config texts.config configured are.configuration,
        told (λ t. IsRunbook s t rows) book texts.book listed are.runbook,
      )

      -- a table of pairs that was refused
      pub pairs_told : (r : TextRefusal TooManyPairs)
          → (¬ (IsTextFailure r) → IfSome pairs (λ t. IsPairsRefused fit.pairs t r)) → ¬ (IsTextFailure r)
          → RefusesPairs words texts r
      pairs_told r refused decided = record {
        fit = fit;
        settings = s;
        configured = told (λ t. Configures t s) config texts.config configured are.configuration;
        rows = rows;
        listed = told (λ t. IsRunbook s t rows) book texts.book listed are.runbook;
        refused = told (λ t. IsPairsRefused fit.pairs t r) pairs texts.pairs (refused decided) are.table;
      }

      module _ (table : Option Table) (tabled : IfSome pairs (λ t. HasTable fit.pairs t table)) (given : ℕ) where
        -- a number of sessions that was refused
        pub count_told : (t w : ℕ) → w ≡ length s.sessions → ¬ (given ≡ w) → t ≡ min given 4294967295
            → RefusesCount words texts given t w
        count_told t w wants differs tells = record {
          settings = s;
          rows = rows;
          pairs = table;
          fit = fit;
          configured = told (λ t. Configures t s) config texts.config configured are.configuration;
          listed = told (λ t. IsRunbook s t rows) book texts.book listed are.runbook;
          tabled = told (λ t. HasTable fit.pairs t table) pairs texts.pairs tabled are.table;
          wants = wants;
          differs = differs;
          tells = tells;
        }

        -- what was opened
        pub opens_told : given ≡ length s.sessions → Opens words texts given s rows table
        opens_told counted = record {
          fit = fit;
          configured = told (λ t. Configures t s) config texts.config configured are.configuration;
          listed = told (λ t. IsRunbook s t rows) book texts.book listed are.runbook;
          tabled = told (λ t. HasTable fit.pairs t table) pairs texts.pairs tabled are.table;
          counted = counted;
        }

-- an error of this refusal, or one that is a failure
pub same_error_or_fails : {T : Type 0} (q r : Refusal) → (q ≡ r) ⊎ IsFailure q
    → (◌≡◌ {A = Result T Refusal} (Err q) (Err r)) ⊎ IsFailure q
same_error_or_fails q r (inl is) = inl (ap (λ x. Err x) is)
same_error_or_fails q r (inr fails) = inr fails

pub same_opening : (a b : Settings) (rows others : List (ℕ × BookLine)) (pairs other : Option Table)
    → (a ≡ b) × (rows ≡ others) × (pairs ≡ other)
    → ◌≡◌ {A = Result Opening Refusal} (Ok (record { config = a; book = rows; pairs = pairs }))
    (Ok (record { config = b; book = others; pairs = other }))
same_opening a b rows others pairs other same =
    λ i. Ok (record { config = same.0 i; book = same.1 i; pairs = same.2 i })
