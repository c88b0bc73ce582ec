-- A text is one book at most, has one first refused line at most, and never both.
use Rattle.std.proofs.Common.{◌≡◌, ℕ, inl, inr, List, [], ◌∷◌, Result, ap, sym, subst, ◌∙◌}
use Rattle.std.specs.List.{AllZip}
use Rattle.router_config.specs.Settings.{Settings}
use Rattle.runbook.specs.declared.lines.BookLine.{BookLine}
use Rattle.runbook.specs.declared.lines.BookKind.{BookKind}
use Rattle.runbook.specs.Lines.{Line, numbered}
use Rattle.runbook.specs.Says.{IsJudged, judged}
use Rattle.runbook.specs.Book.{IsBook, IsLine, IsFirstFault}
use Rattle.runbook.proofs.Books.{ComesTo, IsTaken, Row, same_rows, no_refusal, same_refusal}
use Rattle.runbook.proofs.Sayings.{one_saying}

one_outcome : (config : Settings) (rounds : ℕ) (words : List (List ℕ)) (r s : Result BookLine BookKind)
    → IsJudged config rounds words r → IsJudged config rounds words s → r ≡ s
one_outcome config rounds words r s (inl a) (inl b) =
    sym a.2 ∙ ap (judged config rounds) (one_saying words a.0 b.0 a.1 b.1) ∙ b.2
one_outcome config rounds words r s (inl a) (inr b) = absurd (b.0 a.0 a.1)
one_outcome config rounds words r s (inr a) (inl b) = absurd (a.0 b.0 b.1)
one_outcome config rounds words r s (inr a) (inr b) = a.1 ∙ sym b.1

comes : (config : Settings) (rounds : ℕ) (words : List (List ℕ)) (r : Result BookLine BookKind)
    → IsJudged config rounds words r → ComesTo config rounds words r
comes config rounds words r is = record {
  found = is;
  only = λ s other. one_outcome config rounds words r s is other;
}

all_taken : (config : Settings) (lines : List Line) (rows : List Row) → AllZip (IsLine config) lines rows
    → AllZip (IsTaken config) lines rows
all_taken config [] [] all = tt
all_taken config [] (r ∷ rows) all = absurd all
all_taken config (l ∷ lines) [] all = absurd all
all_taken config (l ∷ lines) (r ∷ rows) all =
    (record { number = all.0.0; comes = comes config l.rounds l.words _ all.0.1 }, all_taken config lines rows all.1)

pub one_book : (config : Settings) (text : List ℕ) (rows others : List Row) → IsBook config text rows
    → IsBook config text others → rows ≡ others
one_book config text rows others is other =
    same_rows config (numbered text) rows others (all_taken config (numbered text) rows is) other

pub one_fault : (config : Settings) (text : List ℕ) (number other : ℕ) (kind cause : BookKind)
    → IsFirstFault config text number kind → IsFirstFault config text other cause → (number ≡ other) × (kind ≡ cause)
one_fault config text number other kind cause f g =
    let same = same_refusal config f.before g.before f.behind g.behind f.line g.line f.rows g.rows kind
    cause (sym f.parts ∙ g.parts) (all_taken config f.before f.rows f.taken) g.taken
    (comes config f.line.rounds f.line.words _ f.refused) g.refused in
    (sym f.place ∙ sym same.0 ∙ g.place, same.1)

pub never_both : (config : Settings) (text : List ℕ) (rows : List Row) (number : ℕ) (kind : BookKind)
    → IsBook config text rows → IsFirstFault config text number kind → ⊥
never_both config text rows number kind is f =
    no_refusal config f.before f.behind f.line rows kind
    (subst (λ ls. AllZip (IsTaken config) ls rows) f.parts (all_taken config (numbered text) rows is)) f.refused
