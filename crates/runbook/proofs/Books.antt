-- How far a runbook was read, and what follows at each end of the reading.
use Rattle.std.proofs.lemmas.Bool.{eqb-true}
use Rattle.std.proofs.Common.{◌≡◌, inl, inr, ℕ, ◌+◌, ◌==◌, Bool, true, false, ◌<◌, ◌≤◌, List, [], ◌∷◌, ◌++◌, length}
use Rattle.std.proofs.Common.{Option, Some, None, Result, Ok, Err, if◌then◌else◌, refl, sym, ap, subst, ◌∙◌}
use Rattle.std.proofs.Common.{append_assoc, length-append}
use Rattle.std.proofs.Common.{arith}
use Rattle.std.specs.List.{AllZip}
use Rattle.router_config.specs.Kinds.{iface_in}
use Rattle.router_config.specs.Settings.{Settings}
use Rattle.router_config.specs.declared.edits.Edit.TheVariants as edit
use Rattle.runbook.specs.declared.lines.BookLine.{BookLine}
use Rattle.runbook.specs.declared.lines.BookLine.TheVariants as entry
use Rattle.runbook.specs.declared.lines.BookKind.{BookKind}
use Rattle.runbook.specs.declared.lines.BookKind.TheVariants.{Syntax, Session, Rounds}
use Rattle.runbook.specs.declared.saying.Act.{Act}
use Rattle.runbook.specs.declared.saying.Act.TheVariants as act
use Rattle.runbook.specs.declared.saying.Alone.TheVariants as alone
use Rattle.runbook.specs.declared.saying.Said.{Said}
use Rattle.runbook.specs.declared.saying.Said.TheVariants as said
use Rattle.runbook.specs.Lines.{Line, counted, lines_of, numbered, numbered_from, one_numbered, words_of}
use Rattle.runbook.specs.Says.{IsJudged, Says, judged, judged_at, pair_edit, rounds_after}
use Rattle.runbook.specs.Book.{IsBook, IsLine, IsFirstFault, OpensTaken}

abbrev pub Row : Type 0
Row = ℕ × BookLine

-- words come to this and to nothing else
pub record ComesTo (config : Settings) (rounds : ℕ) (words : List (List ℕ))
    (outcome : Result BookLine BookKind) : Type 0 where
  pub found : IsJudged config rounds words outcome
  pub only : (other : Result BookLine BookKind) → IsJudged config rounds words other → outcome ≡ other

-- the row is that of the line, and of no other form
pub record IsTaken (config : Settings) (line : Line) (row : Row) : Type 0 where
  pub number : row.0 ≡ line.number
  pub comes : ComesTo config line.rounds line.words (Ok row.1)

-- the lines before the rest were taken, and are these rows
pub record Reached (config : Settings) (text rest : List ℕ) (number rounds : ℕ) (rows : List Row) : Type 0 where
  pub before : List Line
  pub parts : numbered text ≡ before ++ numbered_from (number + 1) rounds (lines_of rest)
  pub taken : AllZip (IsTaken config) before rows
  pub room : number + length rest ≤ length text
  pub fewer : rounds ≤ number
  pub short : length rows ≤ number

-- a line and what follows it
pub record IsCut (rest line after : List ℕ) : Type 0 where
  pub parts : (number rounds : ℕ)
      → numbered_from number rounds (lines_of rest) ≡ one_numbered number rounds (words_of line)
      ++ numbered_from (number + 1) (counted rounds (words_of line)) (lines_of after)
  pub shorter : length after < length rest

pub started : (config : Settings) (text : List ℕ) → Reached config text text 0 0 []
started config text =
    record { before = []; parts = refl; taken = tt; room = omega arith; fewer = omega arith; short = omega arith }

pub skipped : (config : Settings) (text rest line after : List ℕ) (number rounds : ℕ) (rows : List Row)
    → Reached config text rest number rounds rows → IsCut rest line after → words_of line ≡ []
    → Reached config text after (number + 1) rounds rows
skipped config text rest line after number rounds rows r cut none = record {
  before = r.before;
  parts =
      r.parts
      ∙ ap (λ ls. r.before ++ ls)
      (cut.parts (number + 1) rounds
      ∙ ap (λ ws. one_numbered (number + 1) rounds ws
      ++ numbered_from (number + 1 + 1) (counted rounds ws) (lines_of after)) none);
  taken = r.taken;
  room = let least = r.room in let less = cut.shorter in omega arith;
  fewer = let few = r.fewer in omega arith;
  short = let few = r.short in omega arith;
}

-- a line of a text, by its number, the rounds before it, and its words
abbrev pub line_of : ℕ → ℕ → List (List ℕ) → Line
line_of number rounds words = record { number = number; rounds = rounds; words = words }

is_numbered : (number rounds : ℕ) (words : List (List ℕ)) → ¬ (words ≡ [])
    → one_numbered number rounds words ≡ line_of number rounds words ∷ []
is_numbered number rounds [] some = absurd (some refl)
is_numbered number rounds (w ∷ ws) some = refl

-- the lines from a line with words on are that line and then the others
from_words : (config : Settings) (text rest line after : List ℕ) (number rounds : ℕ) (rows : List Row)
    (r : Reached config text rest number rounds rows) → IsCut rest line after → ¬ (words_of line ≡ [])
    → numbered text
    ≡ r.before ++ (line_of (number + 1) rounds (words_of line)
    ∷ numbered_from (number + 1 + 1) (counted rounds (words_of line)) (lines_of after))
from_words config text rest line after number rounds rows r cut some =
    r.parts
    ∙ ap (λ ls. r.before ++ ls)
    (cut.parts (number + 1) rounds
    ∙ ap (λ ls. ls ++ numbered_from (number + 1 + 1) (counted rounds (words_of line)) (lines_of after))
    (is_numbered (number + 1) rounds (words_of line) some))

taken_more : (config : Settings) (lines : List Line) (rows : List Row) (line : Line) (row : Row)
    → AllZip (IsTaken config) lines rows → IsTaken config line row
    → AllZip (IsTaken config) (lines ++ line ∷ []) (rows ++ row ∷ [])
taken_more config [] [] line row all one = (one, tt)
taken_more config [] (r ∷ rows) line row all one = absurd all
taken_more config (l ∷ lines) [] line row all one = absurd all
taken_more config (l ∷ lines) (r ∷ rows) line row all one = (all.0, taken_more config lines rows line row all.1 one)

after_test : (test : Bool) (rounds : ℕ) (one other : BookLine) (kind : BookKind) (words : List (List ℕ))
    → counted rounds words ≡ rounds_after rounds other → (if test then Ok other else Err kind) ≡ Ok one
    → counted rounds words ≡ rounds_after rounds one
after_test true rounds one other kind words is e =
    let same : other ≡ one = cc in
    subst (λ l. counted rounds words ≡ rounds_after rounds l) same is
after_test false rounds one other kind words is e = cc

after_act : (o : Option ℕ) (rounds : ℕ) (a : Act) (one : BookLine) (words : List (List ℕ))
    → counted rounds words ≡ rounds
    → judged_at o a ≡ Ok one → counted rounds words ≡ rounds_after rounds one
after_act None rounds a one words is e = cc
after_act (Some i) rounds (act.Check addr) one words is e =
    after_test true rounds one (entry.Check i addr) Syntax words is e
after_act (Some i) rounds (act.Role r) one words is e =
    after_test true rounds one (entry.Change (edit.Role i r)) Syntax words is e
after_act (Some i) rounds (act.Mode m) one words is e =
    after_test true rounds one (entry.Change (edit.Mode i m)) Syntax words is e

after_said : (config : Settings) (rounds : ℕ) (words : List (List ℕ)) (s : Said) (one : BookLine) → Says words s
    → judged config rounds s ≡ Ok one → counted rounds words ≡ rounds_after rounds one
after_said config rounds words (said.Pull None count) one (x, y, session, n, is) e =
    after_test true rounds one (entry.Pull None count) Syntax words (ap (counted rounds) is) e
after_said config rounds words (said.Pull (Some s) count) one (x, y, session, n, is) e =
    after_test _ rounds one (entry.Pull (Some s) count) Session words (ap (counted rounds) is) e
after_said config rounds words (said.Alone alone.Publish) one is e =
    after_test true rounds one entry.Publish Syntax words (ap (counted rounds) is) e
after_said config rounds words (said.Alone alone.Round) one is e =
    after_test _ rounds one entry.Round Rounds words (ap (counted rounds) is) e
after_said config rounds words (said.Alone alone.Summary) one is e =
    after_test true rounds one entry.Summary Syntax words (ap (counted rounds) is) e
after_said config rounds words (said.At iface a) one (within, last, spells, is) e =
    after_act (iface_in config.interfaces iface) rounds a one words (ap (counted rounds) is) e
after_said config rounds words (said.Pair what prefix asn) one (x, y, spelled, number, is) e =
    after_test true rounds one (entry.Change (pair_edit what prefix asn)) Syntax words (ap (counted rounds) is) e

-- the rounds are counted by the words as by the line
rounds_told : (config : Settings) (rounds : ℕ) (words : List (List ℕ)) (one : BookLine)
    → IsJudged config rounds words (Ok one) → counted rounds words ≡ rounds_after rounds one
rounds_told config rounds words one (inl is) = after_said config rounds words is.0 one is.1 is.2
rounds_told config rounds words one (inr none) = let no = none.1 in cc

one_at_most : (rounds : ℕ) (one : BookLine) → rounds_after rounds one ≤ rounds + 1
one_at_most rounds (entry.Pull s n) = omega arith
one_at_most rounds entry.Publish = omega arith
one_at_most rounds entry.Round = omega arith
one_at_most rounds (entry.Check i a) = omega arith
one_at_most rounds (entry.Change e) = omega arith
one_at_most rounds entry.Summary = omega arith

pub added : (config : Settings) (text rest line after : List ℕ) (number rounds : ℕ) (rows : List Row) (one : BookLine)
    → Reached config text rest number rounds rows
    → IsCut rest line after → ¬ (words_of line ≡ []) → ComesTo config rounds (words_of line) (Ok one)
    → Reached config text after (number + 1) (rounds_after rounds one) (rows ++ (number + 1, one) ∷ [])
added config text rest line after number rounds rows one r cut some comes =
    let here = line_of (number + 1) rounds (words_of line) in
    record {
      before = r.before ++ here ∷ [];
      parts =
          from_words config text rest line after number rounds rows r cut some
          ∙ ap (λ n. r.before ++ (here ∷ numbered_from (number + 1 + 1) n (lines_of after)))
          (rounds_told config rounds (words_of line) one comes.found)
          ∙ sym (append_assoc r.before (here ∷ [])
          (numbered_from (number + 1 + 1) (rounds_after rounds one) (lines_of after)));
      taken = taken_more config r.before rows here (number + 1, one) r.taken (record { number = refl; comes = comes });
      room = let least = r.room in let less = cut.shorter in omega arith;
      fewer = let few = r.fewer in let most = one_at_most rounds one in omega arith;
      short = omega (arith, r.short, length-append rows ((number + 1, one) ∷ []));
    }

lines_taken : (config : Settings) (lines : List Line) (rows : List Row) → AllZip (IsTaken config) lines rows
    → AllZip (IsLine config) lines rows
lines_taken config [] [] all = tt
lines_taken config [] (r ∷ rows) all = absurd all
lines_taken config (l ∷ lines) [] all = absurd all
lines_taken config (l ∷ lines) (r ∷ rows) all = ((all.0.number, all.0.comes.found), lines_taken config lines rows all.1)

nothing_behind : (lines : List Line) → lines ++ [] ≡ lines
nothing_behind [] = refl
nothing_behind (l ∷ lines) = ap (λ ls. l ∷ ls) (nothing_behind lines)

all_taken : (config : Settings) (text : List ℕ) (number rounds : ℕ) (rows : List Row)
    → Reached config text [] number rounds rows
    → AllZip (IsTaken config) (numbered text) rows
all_taken config text number rounds rows r =
    subst (λ ls. AllZip (IsTaken config) ls rows) (sym (r.parts ∙ nothing_behind r.before)) r.taken

pub book_read : (config : Settings) (text : List ℕ) (number rounds : ℕ) (rows : List Row)
    → Reached config text [] number rounds rows → IsBook config text rows
book_read config text number rounds rows r =
    lines_taken config (numbered text) rows (all_taken config text number rounds rows r)

same_row : (config : Settings) (line : Line) (r s : Row) → IsTaken config line r → IsLine config line s → r ≡ s
same_row config line r s taken is =
    let number : r.0 ≡ s.0 = taken.number ∙ sym is.0 in
    let outcome = taken.comes.only (Ok s.1) is.1 in
    let said : r.1 ≡ s.1 = cc in
    λ i. (number i, said i)

pub same_rows : (config : Settings) (lines : List Line) (rows others : List Row)
    → AllZip (IsTaken config) lines rows → AllZip (IsLine config) lines others
    → rows ≡ others
same_rows config [] [] [] all is = refl
same_rows config [] [] (o ∷ others) all is = absurd is
same_rows config [] (r ∷ rows) others all is = absurd all
same_rows config (l ∷ lines) [] others all is = absurd all
same_rows config (l ∷ lines) (r ∷ rows) [] all is = absurd is
same_rows config (l ∷ lines) (r ∷ rows) (o ∷ others) all is =
    λ i. same_row config l r o all.0 is.0 i ∷ same_rows config lines rows others all.1 is.1 i

pub one_book : (config : Settings) (text : List ℕ) (number rounds : ℕ) (rows others : List Row)
    → Reached config text [] number rounds rows → IsBook config text others
    → rows ≡ others
one_book config text number rounds rows others r is =
    same_rows config (numbered text) rows others (all_taken config text number rounds rows r) is

pub no_refusal : (config : Settings) (before behind : List Line) (line : Line) (rows : List Row) (kind : BookKind)
    → AllZip (IsTaken config) (before ++ line ∷ behind) rows → IsJudged config line.rounds line.words (Err kind) → ⊥
no_refusal config [] behind line [] kind all refused = absurd all
no_refusal config [] behind line (r ∷ rows) kind all refused = let outcome = all.0.comes.only (Err kind) refused in cc
no_refusal config (b ∷ before) behind line [] kind all refused = absurd all
no_refusal config (b ∷ before) behind line (r ∷ rows) kind all refused =
    no_refusal config before behind line rows kind all.1 refused

-- where all lines were taken none is refused
pub no_fault : (config : Settings) (text : List ℕ) (number rounds : ℕ) (rows : List Row) (at : ℕ) (kind : BookKind)
    → Reached config text [] number rounds rows
    → IsFirstFault config text at kind → ⊥
no_fault config text number rounds rows at kind r fault =
    no_refusal config fault.before fault.behind fault.line rows kind
    (subst (λ ls. AllZip (IsTaken config) ls rows) fault.parts (all_taken config text number rounds rows r))
    fault.refused

-- where a line is refused, and all before it were taken
pub fault_found : (config : Settings) (text rest line after : List ℕ) (number rounds : ℕ) (rows : List Row)
    (kind : BookKind)
    → Reached config text rest number rounds rows
    → IsCut rest line after → ¬ (words_of line ≡ []) → ComesTo config rounds (words_of line) (Err kind)
    → IsFirstFault config text (number + 1) kind
fault_found config text rest line after number rounds rows kind r cut some comes = record {
  before = r.before;
  line = line_of (number + 1) rounds (words_of line);
  behind = numbered_from (number + 1 + 1) (counted rounds (words_of line)) (lines_of after);
  parts = from_words config text rest line after number rounds rows r cut some;
  place = refl;
  rows = rows;
  taken = lines_taken config r.before rows r.taken;
  refused = comes.found;
}

some_taken : (config : Settings) (lines : List Line) (rows : List Row) (row : Row)
    → AllZip (IsTaken config) lines (rows ++ row ∷ [])
    → 0 < length lines
some_taken config [] [] row all = absurd all
some_taken config [] (r ∷ rows) row all = absurd all
some_taken config (l ∷ lines) rows row all = omega arith

-- where one more line is taken, a line is
pub opens_taken : (config : Settings) (text rest line after : List ℕ) (number rounds : ℕ) (rows : List Row)
    (one : BookLine)
    → Reached config text rest number rounds rows
    → IsCut rest line after → ¬ (words_of line ≡ []) → ComesTo config rounds (words_of line) (Ok one)
    → OpensTaken config text
opens_taken config text rest line after number rounds rows one r cut some comes =
    let more = added config text rest line after number rounds rows one r cut some comes in
    record {
      before = more.before;
      behind = numbered_from (number + 1 + 1) (rounds_after rounds one) (lines_of after);
      parts = more.parts;
      some = some_taken config more.before rows (number + 1, one) more.taken;
      rows = rows ++ (number + 1, one) ∷ [];
      taken = lines_taken config more.before (rows ++ (number + 1, one) ∷ []) more.taken;
    }

no_taking : (config : Settings) (before behind : List Line) (line : Line) (others : List Row) (kind : BookKind)
    → AllZip (IsLine config) (before ++ line ∷ behind) others → ComesTo config line.rounds line.words (Err kind) → ⊥
no_taking config [] behind line [] kind all comes = absurd all
no_taking config [] behind line (o ∷ others) kind all comes = let outcome = comes.only (Ok o.1) all.0.1 in cc
no_taking config (b ∷ before) behind line [] kind all comes = absurd all
no_taking config (b ∷ before) behind line (o ∷ others) kind all comes =
    no_taking config before behind line others kind all.1 comes

-- where a line is refused there is no book
pub no_book : (config : Settings) (text rest line after : List ℕ) (number rounds : ℕ) (rows others : List Row)
    (kind : BookKind)
    → Reached config text rest number rounds rows → IsCut rest line after → ¬ (words_of line ≡ [])
    → ComesTo config rounds (words_of line) (Err kind)
    → IsBook config text others → ⊥
no_book config text rest line after number rounds rows others kind r cut some comes is =
    no_taking config r.before _ (line_of (number + 1) rounds (words_of line)) others kind
    (subst (λ ls. AllZip (IsLine config) ls others)
    (from_words config text rest line after number rounds rows r cut some) is) comes

tail : {x y : Line} {xs ys : List Line} → x ∷ xs ≡ y ∷ ys → xs ≡ ys
tail e = cc

head : {x y : Line} {xs ys : List Line} → x ∷ xs ≡ y ∷ ys → x ≡ y
head e = cc

pub same_refusal : (config : Settings) (before before' behind behind' : List Line) (x y : Line) (rows rows' : List Row)
    (kind kind' : BookKind)
    → before ++ x ∷ behind ≡ before' ++ y ∷ behind' → AllZip (IsTaken config) before rows
    → AllZip (IsLine config) before' rows'
    → ComesTo config x.rounds x.words (Err kind) → IsJudged config y.rounds y.words (Err kind')
    → (y.number ≡ x.number) × (kind ≡ kind')
same_refusal config [] [] behind behind' x y rows rows' kind kind' e all all' comes refused =
    let same : y ≡ x = sym (head e) in
    let outcome =
    comes.only (Err kind') (subst (λ (l : Line). IsJudged config l.rounds l.words (Err kind')) same refused) in
    (ap (λ l. l.number) same, cc)
same_refusal config [] (b' ∷ before') behind behind' x y rows [] kind kind' e all all' comes refused = absurd all'
same_refusal config [] (b' ∷ before') behind behind' x y rows (r' ∷ rows') kind kind' e all all' comes refused =
    let same : b' ≡ x = sym (head e) in
    let outcome =
    comes.only (Ok r'.1) (subst (λ (l : Line). IsJudged config l.rounds l.words (Ok r'.1)) same all'.0.1) in
    absurd cc
same_refusal config (b ∷ before) [] behind behind' x y [] rows' kind kind' e all all' comes refused = absurd all
same_refusal config (b ∷ before) [] behind behind' x y (r ∷ rows) rows' kind kind' e all all' comes refused =
    let same : y ≡ b = sym (head e) in
    let outcome =
    all.0.comes.only (Err kind') (subst (λ (l : Line). IsJudged config l.rounds l.words (Err kind')) same refused) in
    absurd cc
same_refusal config (b ∷ before) (b' ∷ before') behind behind' x y [] rows' kind kind' e all all' comes refused =
    absurd all
same_refusal config (b ∷ before) (b' ∷ before') behind behind' x y (r ∷ rows) [] kind kind' e all all' comes refused =
    absurd all'
same_refusal config (b ∷ before) (b' ∷ before') behind behind' x y (r ∷ rows) (r' ∷ rows') kind kind' e all all' comes
    refused =
    same_refusal config before before' behind behind' x y rows rows' kind kind' (tail e) all.1 all'.1 comes refused

-- where a line is refused, and all before it were taken, no other is the first refused
pub one_fault : (config : Settings) (text rest line after : List ℕ) (number rounds : ℕ) (rows : List Row)
    (kind : BookKind) (at : ℕ)
    (other : BookKind)
    → Reached config text rest number rounds rows → IsCut rest line after → ¬ (words_of line ≡ [])
    → ComesTo config rounds (words_of line) (Err kind)
    → IsFirstFault config text at other → (at ≡ number + 1) × (kind ≡ other)
one_fault config text rest line after number rounds rows kind at other r cut some comes fault =
    let same = same_refusal config r.before fault.before _ fault.behind (line_of (number + 1) rounds (words_of line))
    fault.line rows fault.rows kind other
    (sym (from_words config text rest line after number rounds rows r cut some) ∙ fault.parts) r.taken fault.taken
    comes fault.refused in
    (sym fault.place ∙ same.0, same.1)

nothing : (rest : List ℕ) → (length rest == 0) ≡ true → rest ≡ []
nothing [] none = refl
nothing (c ∷ cs) none = let zero_length : length (c ∷ cs) ≡ 0 = eqb-true _ _ none in absurd (omega arith)

-- no rest is left
pub reached_end : (config : Settings) (text rest : List ℕ) (number rounds : ℕ) (rows : List Row)
    → (length rest == 0) ≡ true
    → Reached config text rest number rounds rows → Reached config text [] number rounds rows
reached_end config text rest number rounds rows none r =
    subst (λ t. Reached config text t number rounds rows) (nothing rest none) r

-- what is known of an outcome that was found, by its form
pub comes_to : (config : Settings) (rounds : ℕ) (words : List (List ℕ)) (outcome form : Result BookLine BookKind)
    → IsJudged config rounds words outcome
    → ((other : Result BookLine BookKind) → IsJudged config rounds words other → outcome ≡ other) → outcome ≡ form
    → ComesTo config rounds words form
comes_to config rounds words outcome form found only is =
    subst (ComesTo config rounds words) is (record { found = found; only = only })
