-- Words say something or nothing, so a text is a book or has a first fault.
use Rattle.std.proofs.Common.{◌≡◌, ℕ, ◌+◌, ◌<◌, ◌≤◌, ◌⊎◌, inl, inr, List, [], ◌∷◌, ◌++◌, Option, Some, None, Result, Ok}
use Rattle.std.proofs.Common.{Err, refl, ap, sym, subst, arith}
use Rattle.std.specs.Prelude.{codes, decimal}
use Rattle.std.specs.List.{AllZip}
use Rattle.ip_text.specs.Prefixes.{SpellsAsn, SpellsPrefix}
use Rattle.ip_text.specs.Texts.{SpellsAddr}
use Rattle.ip_text.proofs.Found.{known_addr}
use Rattle.ip_text.proofs.Known.{Known, known_both, known_either, known_like, known_text, known_below}
use Rattle.ip_text.proofs.PrefixTexts.{known_asn, known_prefix}
use Rattle.urpf_base.specs.Address.{Block}
use Rattle.urpf_base.specs.declared.address.Addr.{Addr}
use Rattle.urpf_base.specs.declared.kinds.Mode.{Mode}
use Rattle.urpf_base.specs.declared.kinds.Mode.TheVariants as mode
use Rattle.urpf_base.specs.declared.kinds.Role.{Role}
use Rattle.urpf_base.specs.declared.kinds.Role.TheVariants as role
use Rattle.router_config.specs.Names.{mode_name, role_name}
use Rattle.router_config.specs.Settings.{Settings}
use Rattle.runbook.specs.declared.lines.BookLine.{BookLine}
use Rattle.runbook.specs.declared.lines.BookKind.{BookKind}
use Rattle.runbook.specs.declared.lines.BookKind.TheVariants.{Syntax}
use Rattle.runbook.specs.declared.saying.Act.{Act}
use Rattle.runbook.specs.declared.saying.Act.TheVariants as act
use Rattle.runbook.specs.declared.saying.Alone.{Alone}
use Rattle.runbook.specs.declared.saying.Alone.TheVariants as alone
use Rattle.runbook.specs.declared.saying.PairAct.{PairAct}
use Rattle.runbook.specs.declared.saying.PairAct.TheVariants as pair
use Rattle.runbook.specs.declared.saying.Said.{Said}
use Rattle.runbook.specs.declared.saying.Said.TheVariants as said
use Rattle.runbook.specs.Lines.{Line, numbered}
use Rattle.runbook.specs.Says.{IsJudged, NamesCount, NamesSession, Says, SpellsAct, act_word, alone_word, judged}
use Rattle.runbook.specs.Says.{pair_word}
use Rattle.runbook.specs.Book.{IsBook, IsLine, IsFirstFault}
use Rattle.runbook.proofs.Books.{Row}
use Rattle.runbook.proofs.Sayings.{first, fourth, second, second_of_four, third, third_of_four, tail}

-- the text is decimal of a number up to the most
abbrev Number : ℕ → List ℕ → Type 0
Number most text = (n : ℕ) × (n ≤ most) × (text ≡ decimal n)

known_number : (most : ℕ) (text : List ℕ) → Known (Number most text)
known_number most text =
    known_like ((n : ℕ) × (n < most + 1) × (text ≡ decimal n)) (Number most text)
    (λ h. (h.0, omega (arith, h.1), h.2)) (λ h. (h.0, omega (arith, h.1), h.2))
    (known_below (λ n. text ≡ decimal n) (λ n. known_text text (decimal n)) (most + 1))

abbrev Saying : List (List ℕ) → Type 0
Saying words = (s : Said) × Says words s

abbrev Sessions : List ℕ → Type 0
Sessions word = (s : Option ℕ) × NamesSession word s

session_to : (word : List ℕ) → ((word ≡ codes "*") ⊎ Number 65535 word) → Sessions word
session_to word (inl star) = (None, star)
session_to word (inr n) = (Some n.0, (n.1, n.2))

session_by : (word : List ℕ) (s : Option ℕ) → NamesSession word s → ((word ≡ codes "*") ⊎ Number 65535 word)
session_by word None star = inl star
session_by word (Some s) is = inr (s, is.0, is.1)

known_session : (word : List ℕ) → Known (Sessions word)
known_session word =
    known_like ((word ≡ codes "*") ⊎ Number 65535 word) (Sessions word)
    (session_to word) (λ h. session_by word h.0 h.1)
    (known_either _ _ (known_text word (codes "*")) (known_number 65535 word))

abbrev Counts : List ℕ → Type 0
Counts word = (n : Option ℕ) × NamesCount word n

count_to : (word : List ℕ) → ((word ≡ codes "all") ⊎ Number 1000000000 word) → Counts word
count_to word (inl all) = (None, all)
count_to word (inr n) = (Some n.0, (n.1, n.2))

count_by : (word : List ℕ) (n : Option ℕ) → NamesCount word n → ((word ≡ codes "all") ⊎ Number 1000000000 word)
count_by word None all = inl all
count_by word (Some n) is = inr (n, is.0, is.1)

known_count : (word : List ℕ) → Known (Counts word)
known_count word =
    known_like ((word ≡ codes "all") ⊎ Number 1000000000 word) (Counts word)
    (count_to word) (λ h. count_by word h.0 h.1)
    (known_either _ _ (known_text word (codes "all")) (known_number 1000000000 word))

-- the word of a line of one word
abbrev Alones : List ℕ → Type 0
Alones word = (one : Alone) × (word ≡ alone_word one)

alone_to : (word : List ℕ)
    → ((word ≡ codes "publish") ⊎ ((word ≡ codes "round") ⊎ (word ≡ codes "summary"))) → Alones word
alone_to word (inl is) = (alone.Publish, is)
alone_to word (inr (inl is)) = (alone.Round, is)
alone_to word (inr (inr is)) = (alone.Summary, is)

alone_by : (word : List ℕ) (one : Alone) → word ≡ alone_word one
    → ((word ≡ codes "publish") ⊎ ((word ≡ codes "round") ⊎ (word ≡ codes "summary")))
alone_by word alone.Publish is = inl is
alone_by word alone.Round is = inr (inl is)
alone_by word alone.Summary is = inr (inr is)

known_alone : (word : List ℕ) → Known (Alones word)
known_alone word =
    known_like _ (Alones word) (alone_to word) (λ h. alone_by word h.0 h.1)
    (known_either _ _ (known_text word (codes "publish"))
    (known_either _ _ (known_text word (codes "round")) (known_text word (codes "summary"))))

-- the words of a line on an interface
abbrev Acts : List ℕ → List ℕ → Type 0
Acts word last = (one : Act) × (word ≡ act_word one) × SpellsAct last one

abbrev Roles : List ℕ → Type 0
Roles last = (r : Role) × (last ≡ role_name r)

abbrev Modes : List ℕ → Type 0
Modes last = (m : Mode) × (last ≡ mode_name m)

abbrev RoleForms : List ℕ → Type 0
RoleForms last = (last ≡ codes "customer") ⊎ ((last ≡ codes "peer") ⊎ (last ≡ codes "provider"))

role_to : (last : List ℕ) → RoleForms last → Roles last
role_to last (inl is) = (role.Customer, is)
role_to last (inr (inl is)) = (role.Peer, is)
role_to last (inr (inr is)) = (role.Provider, is)

role_from : (last : List ℕ) (r : Role) → last ≡ role_name r → RoleForms last
role_from last role.Customer is = inl is
role_from last role.Peer is = inr (inl is)
role_from last role.Provider is = inr (inr is)

abbrev ModeForms : List ℕ → Type 0
ModeForms last =
    (last ≡ codes "off") ⊎ ((last ≡ codes "feasible") ⊎ ((last ≡ codes "loose") ⊎ ((last ≡ codes "loose-nodefault")
    ⊎ ((last ≡ codes "efp-a") ⊎ (last ≡ codes "efp-b")))))

mode_to : (last : List ℕ) → ModeForms last → Modes last
mode_to last (inl is) = (mode.Off, is)
mode_to last (inr (inl is)) = (mode.Feasible, is)
mode_to last (inr (inr (inl is))) = (mode.Loose, is)
mode_to last (inr (inr (inr (inl is)))) = (mode.LooseNoDefault, is)
mode_to last (inr (inr (inr (inr (inl is))))) = (mode.EfpA, is)
mode_to last (inr (inr (inr (inr (inr is))))) = (mode.EfpB, is)

mode_from : (last : List ℕ) (m : Mode) → last ≡ mode_name m → ModeForms last
mode_from last mode.Off is = inl is
mode_from last mode.Feasible is = inr (inl is)
mode_from last mode.Loose is = inr (inr (inl is))
mode_from last mode.LooseNoDefault is = inr (inr (inr (inl is)))
mode_from last mode.EfpA is = inr (inr (inr (inr (inl is))))
mode_from last mode.EfpB is = inr (inr (inr (inr (inr is))))

abbrev ActForms : List ℕ → List ℕ → Type 0
ActForms word last =
    ((word ≡ codes "check") × ((a : Addr) × SpellsAddr last a))
    ⊎ (((word ≡ codes "role") × Roles last) ⊎ ((word ≡ codes "mode") × Modes last))

act_to : (word last : List ℕ) → ActForms word last → Acts word last
act_to word last (inl (is, a)) = (act.Check a.0, is, a.1)
act_to word last (inr (inl (is, r))) = (act.Role r.0, is, r.1)
act_to word last (inr (inr (is, m))) = (act.Mode m.0, is, m.1)

act_by : (word last : List ℕ) (one : Act) → word ≡ act_word one → SpellsAct last one → ActForms word last
act_by word last (act.Check a) is spells = inl (is, (a, spells))
act_by word last (act.Role r) is spells = inr (inl (is, (r, spells)))
act_by word last (act.Mode m) is spells = inr (inr (is, (m, spells)))

known_role : (last : List ℕ) → Known (Roles last)
known_role last =
    known_like _ (Roles last) (role_to last) (λ h. role_from last h.0 h.1)
    (known_either _ _ (known_text last (codes "customer"))
    (known_either _ _ (known_text last (codes "peer")) (known_text last (codes "provider"))))

known_mode : (last : List ℕ) → Known (Modes last)
known_mode last =
    known_like _ (Modes last) (mode_to last) (λ h. mode_from last h.0 h.1)
    (known_either _ _ (known_text last (codes "off"))
    (known_either _ _ (known_text last (codes "feasible"))
    (known_either _ _ (known_text last (codes "loose"))
    (known_either _ _ (known_text last (codes "loose-nodefault"))
    (known_either _ _ (known_text last (codes "efp-a")) (known_text last (codes "efp-b")))))))

known_act : (word last : List ℕ) → Known (Acts word last)
known_act word last =
    known_like _ (Acts word last) (act_to word last) (λ h. act_by word last h.0 h.1 h.2)
    (known_either _ _ (known_both _ _ (known_text word (codes "check")) (known_addr last))
    (known_either _ _ (known_both _ _ (known_text word (codes "role")) (known_role last))
    (known_both _ _ (known_text word (codes "mode")) (known_mode last))))

three : {a b c x y z : List ℕ} → a ≡ x → b ≡ y → c ≡ z → a ∷ b ∷ c ∷ [] ≡ x ∷ y ∷ z ∷ []
three p q r i = p i ∷ q i ∷ r i ∷ []

-- three words say a pull, or what is done on an interface
abbrev Three : List ℕ → List ℕ → List ℕ → Type 0
Three a b c = ((a ≡ codes "pull") × (Sessions b × Counts c)) ⊎ (Number 65535 b × Acts a c)

known_three : (a b c : List ℕ) → Known (Three a b c)
known_three a b c =
    known_either _ _
    (known_both _ _ (known_text a (codes "pull")) (known_both _ _ (known_session b) (known_count c)))
    (known_both _ _ (known_number 65535 b) (known_act a c))

said_by : (a b c : List ℕ) → Three a b c → Saying (a ∷ b ∷ c ∷ [])
said_by a b c (inl (is, (s, n))) = (said.Pull s.0 n.0, (b, c, s.1, n.1, three is refl refl))
said_by a b c (inr (n, one)) = (said.At n.0 one.0, (n.1, c, one.2, three one.1 n.2 refl))

three_by : (a b c : List ℕ) (s : Said) → Says (a ∷ b ∷ c ∷ []) s → Three a b c
three_by a b c (said.Pull s n) (x, y, session, count, is) =
    inl (
      first is,
      (
        (s, subst (λ t. NamesSession t s) (sym (second is)) session),
        (n, subst (λ t. NamesCount t n) (sym (third is)) count),
      ),
    )
three_by a b c (said.Alone one) h = let e = tail h in cc
three_by a b c (said.At i one) (within, last, spells, is) =
    inr ((i, within, second is), (one, first is, subst (λ t. SpellsAct t one) (sym (third is)) spells))
three_by a b c (said.Pair act p n) (x, y, prefix, asn, is) = let e = tail (tail (tail is)) in cc

-- the second word of a line on a pair
abbrev PairActs : List ℕ → Type 0
PairActs word = (one : PairAct) × (word ≡ pair_word one)

pair_act_to : (word : List ℕ) → ((word ≡ codes "add") ⊎ (word ≡ codes "del")) → PairActs word
pair_act_to word (inl is) = (pair.Add, is)
pair_act_to word (inr is) = (pair.Del, is)

pair_act_by : (word : List ℕ) (one : PairAct) → word ≡ pair_word one → ((word ≡ codes "add") ⊎ (word ≡ codes "del"))
pair_act_by word pair.Add is = inl is
pair_act_by word pair.Del is = inr is

known_pair_act : (word : List ℕ) → Known (PairActs word)
known_pair_act word =
    known_like _ (PairActs word) (pair_act_to word) (λ h. pair_act_by word h.0 h.1)
    (known_either _ _ (known_text word (codes "add")) (known_text word (codes "del")))

four : {a b c d w x y z : List ℕ} → a ≡ w → b ≡ x → c ≡ y → d ≡ z → a ∷ b ∷ c ∷ d ∷ [] ≡ w ∷ x ∷ y ∷ z ∷ []
four p q r s i = p i ∷ q i ∷ r i ∷ s i ∷ []

-- four words say what is done with a pair
abbrev Four : List ℕ → List ℕ → List ℕ → List ℕ → Type 0
Four a b c d = (a ≡ codes "pair") × (PairActs b × (((p : Block) × SpellsPrefix c p) × ((n : ℕ) × SpellsAsn d n)))

known_four : (a b c d : List ℕ) → Known (Four a b c d)
known_four a b c d =
    known_both _ _ (known_text a (codes "pair"))
    (known_both _ _ (known_pair_act b) (known_both _ _ (known_prefix c) (known_asn d)))

said_by_four : (a b c d : List ℕ) → Four a b c d → Saying (a ∷ b ∷ c ∷ d ∷ [])
said_by_four a b c d (is, (one, (p, n))) =
    (said.Pair one.0 p.0 n.0, (c, d, p.1, n.1, four is one.1 refl refl))

four_by : (a b c d : List ℕ) (s : Said) → Says (a ∷ b ∷ c ∷ d ∷ []) s → Four a b c d
four_by a b c d (said.Pull s n) (x, y, session, count, is) = let e = tail (tail (tail is)) in cc
four_by a b c d (said.Alone one) h = let e = tail h in cc
four_by a b c d (said.At i one) (within, last, spells, is) = let e = tail (tail (tail is)) in cc
four_by a b c d (said.Pair one p n) (x, y, prefix, asn, is) = (
  first is,
  (
    (one, second_of_four is),
    (
      (p, subst (λ t. SpellsPrefix t p) (sym (third_of_four is)) prefix),
      (n, subst (λ t. SpellsAsn t n) (sym (fourth is)) asn),
    ),
  ),
)

none_of_none : (s : Said) → Says [] s → ⊥
none_of_none (said.Pull s n) (x, y, session, count, is) = cc
none_of_none (said.Alone one) h = cc
none_of_none (said.At i one) (within, last, spells, is) = cc
none_of_none (said.Pair one p n) (x, y, prefix, asn, is) = cc

one_by : (a : List ℕ) (s : Said) → Says (a ∷ []) s → Alones a
one_by a (said.Pull s n) (x, y, session, count, is) = let e = tail is in cc
one_by a (said.Alone one) h = (one, first h)
one_by a (said.At i one) (within, last, spells, is) = let e = tail is in cc
one_by a (said.Pair one p n) (x, y, prefix, asn, is) = let e = tail is in cc

none_of_two : (a b : List ℕ) (s : Said) → Says (a ∷ b ∷ []) s → ⊥
none_of_two a b (said.Pull s n) (x, y, session, count, is) = let e = tail (tail is) in cc
none_of_two a b (said.Alone one) h = let e = tail h in cc
none_of_two a b (said.At i one) (within, last, spells, is) = let e = tail (tail is) in cc
none_of_two a b (said.Pair one p n) (x, y, prefix, asn, is) = let e = tail (tail is) in cc

none_of_five : (a b c d e : List ℕ) (more : List (List ℕ)) (s : Said) → Says (a ∷ b ∷ c ∷ d ∷ e ∷ more) s → ⊥
none_of_five a b c d e more (said.Pull s n) (x, y, session, count, is) = let t = tail (tail (tail is)) in cc
none_of_five a b c d e more (said.Alone one) h = let t = tail h in cc
none_of_five a b c d e more (said.At i one) (within, last, spells, is) = let t = tail (tail (tail is)) in cc
none_of_five a b c d e more (said.Pair one p n) (x, y, prefix, asn, is) = let t = tail (tail (tail (tail is))) in cc

-- words say something or nothing
known_saying : (words : List (List ℕ)) → Known (Saying words)
known_saying [] = inr (λ h. none_of_none h.0 h.1)
known_saying (a ∷ []) =
    known_like (Alones a) (Saying (a ∷ [])) (λ h. (said.Alone h.0, ap (λ w. w ∷ []) h.1))
    (λ h. one_by a h.0 h.1) (known_alone a)
known_saying (a ∷ b ∷ []) = inr (λ h. none_of_two a b h.0 h.1)
known_saying (a ∷ b ∷ c ∷ []) =
    known_like (Three a b c) (Saying (a ∷ b ∷ c ∷ [])) (said_by a b c) (λ h. three_by a b c h.0 h.1) (known_three a b c)
known_saying (a ∷ b ∷ c ∷ d ∷ []) =
    known_like (Four a b c d) (Saying (a ∷ b ∷ c ∷ d ∷ [])) (said_by_four a b c d) (λ h. four_by a b c d h.0 h.1)
    (known_four a b c d)
known_saying (a ∷ b ∷ c ∷ d ∷ e ∷ more) = inr (λ h. none_of_five a b c d e more h.0 h.1)

-- something becomes of all words
outcome_by : (config : Settings) (rounds : ℕ) (words : List (List ℕ)) → Known (Saying words)
    → (r : Result BookLine BookKind) × IsJudged config rounds words r
outcome_by config rounds words (inl h) = (judged config rounds h.0, inl (h.0, h.1, refl))
outcome_by config rounds words (inr none) = (Err Syntax, inr ((λ s is. none (s, is)), refl))

-- all lines are taken, or one is the first that is refused
record Stops (config : Settings) (lines : List Line) : Type 0 where
  kind : BookKind
  before : List Line
  line : Line
  behind : List Line
  parts : lines ≡ before ++ (line ∷ behind)
  rows : List Row
  taken : AllZip (IsLine config) before rows
  refused : IsJudged config line.rounds line.words (Err kind)

abbrev Ends : Settings → List Line → Type 0
Ends config lines = ((rows : List Row) × AllZip (IsLine config) lines rows) ⊎ Stops config lines

ends_more : (config : Settings) (line : Line) (lines : List Line) → (r : Result BookLine BookKind)
    → IsJudged config line.rounds line.words r → Ends config lines → Ends config (line ∷ lines)
ends_more config line lines (Err kind) is others = inr (record {
  kind = kind;
  before = [];
  line = line;
  behind = lines;
  parts = refl;
  rows = [];
  taken = tt;
  refused = is;
})
ends_more config line lines (Ok one) is (inl all) = inl ((line.number, one) ∷ all.0, ((refl, is), all.1))
ends_more config line lines (Ok one) is (inr s) = inr (record {
  kind = s.kind;
  before = line ∷ s.before;
  line = s.line;
  behind = s.behind;
  parts = ap (λ ls. line ∷ ls) s.parts;
  rows = (line.number, one) ∷ s.rows;
  taken = ((refl, is), s.taken);
  refused = s.refused;
})

ends_of : (config : Settings) (lines : List Line) → Ends config lines
ends_of config [] = inl ([], tt)
ends_of config (line ∷ lines) =
    let o = outcome_by config line.rounds line.words (known_saying line.words) in
    ends_more config line lines o.0 o.1 (ends_of config lines)

book_or_fault : (config : Settings) (text : List ℕ) → Ends config (numbered text)
    → ((rows : List Row) × IsBook config text rows)
    ⊎ ((number : ℕ) × (kind : BookKind) × IsFirstFault config text number kind)
book_or_fault config text (inl all) = inl all
book_or_fault config text (inr s) = inr (
  s.line.number,
  s.kind,
  record {
    before = s.before;
    line = s.line;
    behind = s.behind;
    parts = s.parts;
    place = refl;
    rows = s.rows;
    taken = s.taken;
    refused = s.refused;
  },
)

-- a text is a book or has a first fault
pub some_outcome : (config : Settings) (text : List ℕ)
    → ((rows : List Row) × IsBook config text rows)
    ⊎ ((number : ℕ) × (kind : BookKind) × IsFirstFault config text number kind)
some_outcome config text = book_or_fault config text (ends_of config (numbered text))
