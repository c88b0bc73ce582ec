-- A refusal is told by its status.
use Rattle.std.proofs.Common.{◌≡◌, ◌⊎◌, ℕ, refl, ap, sym, ◌∙◌, inl, inr, Option, Some, None, unwrap_or}
use Rattle.router_config.specs.declared.faults.ConfigFault.{ConfigFault}
use Rattle.router_config.specs.declared.faults.ConfigKind.{ConfigKind}
use Rattle.runbook.specs.declared.book.BookFault.{BookFault}
use Rattle.runbook.specs.declared.lines.BookKind.{BookKind}
use Rattle.urpf_cli.specs.Openings.{IsBeforePairs, IsDecided, IsFailure}
use Rattle.urpf_cli.specs.Statuses.{status_of_refusal}
use Rattle.urpf_cli.specs.declared.refusals.Refusal.{Refusal}
use Rattle.urpf_cli.specs.declared.refusals.Refusal.TheVariants.{Misused, Config, Book, Pairs, SessionCount}
use Rattle.urpf_cli.specs.declared.refusals.TextRefusal.{TextRefusal}
use Rattle.urpf_cli.specs.declared.refusals.TextRefusal.TheVariants.{ReadFault, TooLong, Bad, OutOfMemory}
use Rattle.urpf_cli.specs.declared.status.Object.{Object}
use Rattle.urpf_cli.specs.declared.status.Object.TheVariants as object
use Rattle.urpf_cli.specs.declared.status.Status.{Status}
use Rattle.urpf_cli.specs.declared.status.Status.TheVariants as status

pub same_config_fault : (f g : ConfigFault) → f.kind ≡ g.kind → f.index ≡ g.index → f ≡ g
same_config_fault f g kind index = ap (λ (k : ConfigKind). record { kind = k; index = f.index }) kind
    ∙ ap (λ (n : ℕ). record { kind = g.kind; index = n }) index

pub same_book_fault : (f g : BookFault) → f.line ≡ g.line → f.kind ≡ g.kind → f ≡ g
same_book_fault f g line kind = ap (λ (n : ℕ). record { line = n; kind = f.kind }) line
    ∙ ap (λ (k : BookKind). record { line = g.line; kind = k }) kind

-- the refusal that a failed read of an object is
failed_read : Object → Option Refusal
failed_read object.Config = Some (Config ReadFault)
failed_read object.Book = Some (Book ReadFault)
failed_read object.Pairs = Some (Pairs ReadFault)
failed_read object.Stream = None
failed_read (object.Session session) = None

-- the refusal that an object is too long for
long_text : Object → Option Refusal
long_text object.Config = Some (Config TooLong)
long_text object.Book = Some (Book TooLong)
long_text object.Pairs = Some (Pairs TooLong)
long_text object.Stream = None
long_text (object.Session session) = None

-- the refusal that a status tells
refusal_of : Status → Option Refusal
refusal_of status.Done = None
refusal_of status.Usage = Some Misused
refusal_of (status.BadConfig kind index) = Some (Config (Bad (record { kind = kind; index = index })))
refusal_of (status.BadBook line kind) = Some (Book (Bad (record { line = line; kind = kind })))
refusal_of (status.SessionCount given wanted) = Some (SessionCount given wanted)
refusal_of status.TooManyPairs = Some (Pairs (Bad (record {})))
refusal_of (status.TooLong object) = long_text object
refusal_of (status.ReadFault object) = failed_read object
refusal_of status.WriteFault = None
refusal_of (status.ItemLimit session) = None
refusal_of (status.OctetLimit session) = None
refusal_of (status.BadSession code sub place) = None
refusal_of (status.Unsupported place) = None
refusal_of status.OutOfMemory = None

told_back : (r : Refusal) → (status_of_refusal r ≡ status.OutOfMemory → ⊥) → refusal_of (status_of_refusal r) ≡ Some r
unfolding refusal_of failed_read long_text
told_back Misused other = refl
told_back (Config ReadFault) other = refl
told_back (Config TooLong) other = refl
told_back (Config (Bad f)) other = refl
told_back (Config OutOfMemory) other = absurd (other refl)
told_back (Book ReadFault) other = refl
told_back (Book TooLong) other = refl
told_back (Book (Bad f)) other = refl
told_back (Book OutOfMemory) other = absurd (other refl)
told_back (Pairs ReadFault) other = refl
told_back (Pairs TooLong) other = refl
told_back (Pairs (Bad f)) other = refl
told_back (Pairs OutOfMemory) other = absurd (other refl)
told_back (SessionCount told wanted) other = refl

-- a refusal that is no want of memory is told by its status
pub one_told : (a b : Refusal) → (status_of_refusal b ≡ status.OutOfMemory → ⊥)
    → status_of_refusal a ≡ status_of_refusal b → a ≡ b
one_told a b other is =
    ap (λ (o : Option Refusal). unwrap_or o a)
    (sym (told_back a (λ memory. other (sym is ∙ memory))) ∙ ap refusal_of is ∙ told_back b other)

-- want of memory is told of a configuration for nothing else
pub config_memory : (r : TextRefusal ConfigFault) → status_of_refusal (Config r) ≡ status.OutOfMemory → r ≡ OutOfMemory
config_memory ReadFault is = cc
config_memory TooLong is = cc
config_memory (Bad f) is = cc
config_memory OutOfMemory is = refl

-- a refusal that is decided is no want of memory
decided_other : (r : Refusal) → IsDecided r → status_of_refusal r ≡ status.OutOfMemory → ⊥
decided_other Misused decided is = cc
decided_other (Config ReadFault) decided is = decided tt
decided_other (Config TooLong) decided is = cc
decided_other (Config (Bad f)) decided is = cc
decided_other (Config OutOfMemory) decided is = decided tt
decided_other (Book ReadFault) decided is = decided tt
decided_other (Book TooLong) decided is = cc
decided_other (Book (Bad f)) decided is = cc
decided_other (Book OutOfMemory) decided is = decided tt
decided_other (Pairs ReadFault) decided is = decided tt
decided_other (Pairs TooLong) decided is = cc
decided_other (Pairs (Bad f)) decided is = cc
decided_other (Pairs OutOfMemory) decided is = decided tt
decided_other (SessionCount told wanted) decided is = cc

-- a refusal that is decided is told by its status
pub one_status : (a b : Refusal) → IsDecided b → status_of_refusal a ≡ status_of_refusal b → a ≡ b
one_status a b decided = one_told a b (decided_other b decided)

-- a failure is a failed read of a text, or want of memory
pub failure_told : (r : Refusal) → IsFailure r
    → (r ≡ Config ReadFault) ⊎ ((r ≡ Book ReadFault) ⊎ ((r ≡ Pairs ReadFault)
    ⊎ (status_of_refusal r ≡ status.OutOfMemory)))
failure_told Misused fails = absurd fails
failure_told (Config ReadFault) fails = inl refl
failure_told (Config TooLong) fails = absurd fails
failure_told (Config (Bad f)) fails = absurd fails
failure_told (Config OutOfMemory) fails = inr (inr (inr refl))
failure_told (Book ReadFault) fails = inr (inl refl)
failure_told (Book TooLong) fails = absurd fails
failure_told (Book (Bad f)) fails = absurd fails
failure_told (Book OutOfMemory) fails = inr (inr (inr refl))
failure_told (Pairs ReadFault) fails = inr (inr (inl refl))
failure_told (Pairs TooLong) fails = absurd fails
failure_told (Pairs (Bad f)) fails = absurd fails
failure_told (Pairs OutOfMemory) fails = inr (inr (inr refl))
failure_told (SessionCount told wanted) fails = absurd fails

-- a refusal that comes before the table of pairs leaves what none of the three steps before it touches
pub before_pairs : {A B C : Type 0} (q : Refusal) → IsBeforePairs q → (q ≡ Misused → A × B × C)
    → ((r : TextRefusal ConfigFault) → q ≡ Config r → B × C) → ((r : TextRefusal BookFault) → q ≡ Book r → C) → C
before_pairs Misused before words config book = (words refl).2
before_pairs (Config r) before words config book = (config r refl).1
before_pairs (Book r) before words config book = book r refl
before_pairs (Pairs r) before words config book = absurd before
before_pairs (SessionCount told wanted) before words config book = absurd before
