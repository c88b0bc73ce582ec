-- The answers of rows, while batches and rows are added.
use Rattle.std.proofs.Common.{◌≡◌, ℕ, ◌≤◌, Bool, true, false, List, [], ◌∷◌, ◌++◌, length, take}
use Rattle.std.proofs.Common.{Option, Some, None, IsSome, IsNone, IfSome, MatchOption, is_some, refl, ap, sym, subst, ◌∙◌, append_assoc, length-append, arith}
use Rattle.std.proofs.lemmas.List.{take-append-le}
use Rattle.std.proofs.Math.Seq.{take-length}
use mathlib.Core.List.{IsPrefix}
use Rattle.urpf_base.specs.Faults.{Rose}
use Rattle.urpf_base.specs.declared.kinds.Kind.{Kind}
use Rattle.urpf_base.specs.declared.verdicts.Verdict.{Verdict}
use Rattle.cover_table.specs.Judging.{judge}
use Rattle.cover_table.specs.Snapshots.{fold}
use Rattle.cover_table.specs.declared.batch.Batch.{Batch}
use Rattle.forward_worker.specs.Answers.{AllAnswered, AreAnswered, Asks, NoneAnswered}
use Rattle.forward_worker.specs.declared.rows.CheckRow.{CheckRow}

-- the number of a publication, and a verdict
abbrev pub Answer : Type 0
Answer = ℕ × Verdict

-- ---- the lowest number is that of a batch

low_by : (lowest len : ℕ) (A : Type 0) (P : Answer → Type 0) (Later : ℕ → Type 0) (answer : Option Answer)
    → MatchOption answer ((lowest ≤ len) × A) (λ a. (lowest ≤ a.0) × P a × Later a.0)
    → ((n : ℕ) → Later n → n ≤ len) → lowest ≤ len
low_by lowest len A P Later None m later = m.0
low_by lowest len A P Later (Some a) m later = omega (arith, m.0, later a.0 m.2)

pub answered_low : (kinds : List (ℕ × Kind)) (batches : List Batch) (lowest : ℕ) (rows : List CheckRow)
    → AreAnswered kinds batches lowest rows → lowest ≤ length batches
answered_low kinds batches lowest [] a = a
answered_low kinds batches lowest (row ∷ rows) a =
    low_by lowest (length batches) (NoneAnswered rows)
    (λ x. x.1 ≡ judge (fold kinds (take x.0 batches)) row.iface row.source) (λ n. AreAnswered kinds batches n rows) row.answer a
    (λ n. answered_low kinds batches n rows)

-- ---- more batches

longer_by : (kinds : List (ℕ × Kind)) (batches more : List Batch) (lowest iface : ℕ) (row : CheckRow) (rows : List CheckRow)
    (answer : Option Answer)
    → MatchOption answer ((lowest ≤ length batches) × NoneAnswered rows)
    (λ a. (lowest ≤ a.0) × (a.1 ≡ judge (fold kinds (take a.0 batches)) row.iface row.source) × AreAnswered kinds batches a.0 rows)
    → ((n : ℕ) → AreAnswered kinds batches n rows → AreAnswered kinds (batches ++ more) n rows)
    → MatchOption answer ((lowest ≤ length (batches ++ more)) × NoneAnswered rows)
    (λ a. (lowest ≤ a.0) × (a.1 ≡ judge (fold kinds (take a.0 (batches ++ more))) row.iface row.source)
    × AreAnswered kinds (batches ++ more) a.0 rows)
longer_by kinds batches more lowest iface row rows None m later = (omega (arith, m.0, length-append batches more), m.1)
longer_by kinds batches more lowest iface row rows (Some a) m later = (
  m.0,
  m.1 ∙ ap (λ l. judge (fold kinds l) row.iface row.source)
      (sym (take-append-le a.0 batches more (answered_low kinds batches a.0 rows m.2))),
  later a.0 m.2,
)

longer : (kinds : List (ℕ × Kind)) (batches more : List Batch) (lowest : ℕ) (rows : List CheckRow)
    → AreAnswered kinds batches lowest rows → AreAnswered kinds (batches ++ more) lowest rows
longer kinds batches more lowest [] a = omega (arith, a, length-append batches more)
longer kinds batches more lowest (row ∷ rows) a =
    longer_by kinds batches more lowest 0 row rows row.answer a (λ n. longer kinds batches more n rows)

pub answered_longer : (kinds : List (ℕ × Kind)) (batches all : List Batch) (lowest : ℕ) (rows : List CheckRow)
    → IsPrefix batches all → AreAnswered kinds batches lowest rows → AreAnswered kinds all lowest rows
answered_longer kinds batches all lowest rows p a =
    subst (λ l. AreAnswered kinds l lowest rows) p.1 (longer kinds batches p.0 lowest rows a)

-- ---- one row more

none_more : (rows : List CheckRow) (row : CheckRow) → NoneAnswered rows → row.answer ≡ None
    → NoneAnswered (rows ++ row ∷ [])
none_more [] row none is = (is, tt)
none_more (r ∷ rows) row none is = (none.0, none_more rows row none.1 is)

pub all_more : (rows : List CheckRow) (row : CheckRow) → AllAnswered rows → IsSome row.answer
    → AllAnswered (rows ++ row ∷ [])
all_more [] row all is = (is, tt)
all_more (r ∷ rows) row all is = (all.0, all_more rows row all.1 is)

module _ (kinds : List (ℕ × Kind)) (batches : List Batch) (row : CheckRow) where
  -- the row follows these rows
  abbrev pub IsLast : ℕ → List CheckRow → Type 0
  IsLast lowest rows = AreAnswered kinds batches lowest (rows ++ row ∷ [])

  -- the further row has no answer
  unanswered_by : (lowest : ℕ) (r : CheckRow) (rows : List CheckRow) (answer : Option Answer) → row.answer ≡ None
      → MatchOption answer ((lowest ≤ length batches) × NoneAnswered rows)
      (λ a. (lowest ≤ a.0) × (a.1 ≡ judge (fold kinds (take a.0 batches)) r.iface r.source) × AreAnswered kinds batches a.0 rows)
      → ((n : ℕ) → AreAnswered kinds batches n rows → IsLast n rows)
      → MatchOption answer ((lowest ≤ length batches) × NoneAnswered (rows ++ row ∷ []))
      (λ a. (lowest ≤ a.0) × (a.1 ≡ judge (fold kinds (take a.0 batches)) r.iface r.source) × IsLast a.0 rows)
  unanswered_by lowest r rows None is m later = (m.0, none_more rows row m.1 is)
  unanswered_by lowest r rows (Some a) is m later = (m.0, m.1, later a.0 m.2)

  pub answered_none : (lowest : ℕ) (rows : List CheckRow) → row.answer ≡ None → AreAnswered kinds batches lowest rows
      → IsLast lowest rows
  answered_none lowest [] is a = rw is (a, tt)
  answered_none lowest (r ∷ rows) is a =
      unanswered_by lowest r rows r.answer is a (λ n. answered_none n rows is)

  -- the further row has the number and the verdict of the last batch
  answered_by : (lowest : ℕ) (r : CheckRow) (rows : List CheckRow) (answer : Option Answer) → IsSome answer
      → MatchOption answer ((lowest ≤ length batches) × NoneAnswered rows)
      (λ a. (lowest ≤ a.0) × (a.1 ≡ judge (fold kinds (take a.0 batches)) r.iface r.source) × AreAnswered kinds batches a.0 rows)
      → ((n : ℕ) → AreAnswered kinds batches n rows → IsLast n rows)
      → MatchOption answer ((lowest ≤ length batches) × NoneAnswered (rows ++ row ∷ []))
      (λ a. (lowest ≤ a.0) × (a.1 ≡ judge (fold kinds (take a.0 batches)) r.iface r.source) × IsLast a.0 rows)
  answered_by lowest r rows None some m later = absurd (cc some)
  answered_by lowest r rows (Some a) some m later = (m.0, m.1, later a.0 m.2)

  last_answered : (lowest : ℕ) (a : Answer) → a.0 ≡ length batches
      → a.1 ≡ judge (fold kinds batches) row.iface row.source → lowest ≤ length batches
      → (lowest ≤ a.0) × (a.1 ≡ judge (fold kinds (take a.0 batches)) row.iface row.source) × (a.0 ≤ length batches)
  last_answered lowest a number verdict low = (
    omega (arith, number, low),
    verdict ∙ ap (λ l. judge (fold kinds l) row.iface row.source)
        (sym (ap (λ n. take n batches) number ∙ take-length batches)),
    omega (arith, number),
  )

  pub answered_some : (lowest : ℕ) (rows : List CheckRow) (a : Answer) → AllAnswered rows → row.answer ≡ Some a
      → a.0 ≡ length batches → a.1 ≡ judge (fold kinds batches) row.iface row.source
      → AreAnswered kinds batches lowest rows → IsLast lowest rows
  answered_some lowest [] a all is number verdict low = rw is (last_answered lowest a number verdict low)
  answered_some lowest (r ∷ rows) a all is number verdict low =
      answered_by lowest r rows r.answer all.0 low (λ n. answered_some n rows a all.1 is number verdict)

  -- the further row has the answer of a check, or none where the pass was refused before
  asked_by : (lowest first count : ℕ) (rows : List CheckRow) (asks : Bool) (answer : Option Answer) → row.answer ≡ answer
      → (asks ≡ false → IsNone answer)
      → IfSome answer (λ a. a.0 ≡ length batches)
      → IfSome answer (λ a. a.1 ≡ judge (fold kinds batches) row.iface row.source)
      → Asks asks first count rows → AreAnswered kinds batches lowest rows → IsLast lowest rows
  asked_by lowest first count rows asks None is unasked number verdict ask a = answered_none lowest rows is a
  asked_by lowest first count rows true (Some x) is unasked number verdict ask a =
      answered_some lowest rows x ask.1 is number verdict a
  asked_by lowest first count rows false (Some x) is unasked number verdict ask a = absurd (cc (unasked refl))

pub row_answered : (kinds opening : List (ℕ × Kind)) (batches all : List Batch) (row : CheckRow) (lowest first count : ℕ)
    (rows : List CheckRow) (asks : Bool) (answer : Option Answer) → opening ≡ kinds → IsPrefix batches all
    → row.answer ≡ answer → (asks ≡ false → IsNone answer)
    → IfSome answer (λ a. a.0 ≡ length all)
    → IfSome answer (λ a. a.1 ≡ judge (fold opening all) row.iface row.source)
    → Asks asks first count rows → AreAnswered kinds batches lowest rows
    → AreAnswered opening all lowest (rows ++ row ∷ [])
row_answered kinds opening batches all row lowest first count rows asks answer same p is unasked number verdict ask a =
    asked_by opening all row lowest first count rows asks answer is unasked number verdict ask
    (subst (λ k. AreAnswered k all lowest rows) (sym same) (answered_longer kinds batches all lowest rows p a))

-- ---- whether the pass is asked on

pub asks_on : (row : CheckRow) (first old new : ℕ) (rows : List CheckRow) (asks now : Bool) (answer : Option Answer)
    → row.answer ≡ answer → now ≡ is_some answer → (asks ≡ false → IsNone answer)
    → (asks ≡ true → IsNone answer → Rose old new) → (asks ≡ false → new ≡ old)
    → IfSome answer (λ _. new ≡ old)
    → Asks asks first old rows → Asks now first new (rows ++ row ∷ [])
asks_on row first old new rows true now (Some a) is some unasked rose same counted ask =
    rw some (counted ∙ ask.0, all_more rows row ask.1 (rw is refl))
asks_on row first old new rows false now (Some a) is some unasked rose same counted ask = absurd (cc (unasked refl))
asks_on row first old new rows true now None is some unasked rose same counted ask =
    rw some (subst (λ n. Rose n new) ask.0 (rose refl refl))
asks_on row first old new rows false now None is some unasked rose same counted ask =
    rw some (subst (λ n. Rose first n) (sym (same refl)) ask)

-- ---- beginnings

pub prefix_trans : {A : Type 0} (xs ys zs : List A) → IsPrefix xs ys → IsPrefix ys zs → IsPrefix xs zs
prefix_trans xs ys zs p q = (p.0 ++ q.0, sym (append_assoc xs p.0 q.0) ∙ (ap (λ w. w ++ q.0) p.1 ∙ q.1))

pub none_is_not : {X : Type 0} (x : X) → None ≡ Some x → ⊥
none_is_not x e = absurd cc
