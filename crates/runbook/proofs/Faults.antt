-- The fault that an answer names.
use Rattle.std.proofs.Common.{◌≡◌, ℕ, List, Result, Ok, Err, ap, sym}
use Rattle.runbook.specs.declared.book.ReadBook.{ReadBook}
use Rattle.runbook.specs.declared.book.ReadBook.TheVariants.{Bad, OutOfMemory}
use Rattle.runbook.specs.declared.lines.BookKind.{BookKind}
use Rattle.runbook.specs.declared.lines.BookKind.TheVariants.{Syntax}
use Rattle.runbook.proofs.Books.{Row}

line_in : Result (List Row) ReadBook → ℕ
line_in (Ok rows) = 0
line_in (Err (Bad fault)) = fault.line
line_in (Err OutOfMemory) = 0

kind_in : Result (List Row) ReadBook → BookKind
kind_in (Ok rows) = Syntax
kind_in (Err (Bad fault)) = fault.kind
kind_in (Err OutOfMemory) = Syntax

abbrev pub answer : ℕ → BookKind → Result (List Row) ReadBook
answer line kind = Err (Bad (record { line = line; kind = kind }))

pub same_line : (line other : ℕ) (kind cause : BookKind) → answer line kind ≡ answer other cause → line ≡ other
unfolding line_in
same_line line other kind cause is = ap line_in is

pub same_kind : (line other : ℕ) (kind cause : BookKind) → answer line kind ≡ answer other cause → kind ≡ cause
unfolding kind_in
same_kind line other kind cause is = ap kind_in is

pub same_answer : (line other : ℕ) (kind cause : BookKind) → other ≡ line → kind ≡ cause
    → answer line kind ≡ answer other cause
same_answer line other kind cause a b i = answer (sym a i) (b i)
