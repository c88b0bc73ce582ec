-- What contracts see of a publisher, of its notes and of who checks packets. Our own choice.
use Rattle.std.specs.Prelude.{◌≡◌, ℕ, Bool, List, [], map}
use Rattle.logbook.specs.Pages.{Book}
use Rattle.urpf_base.specs.declared.kinds.Kind.{Kind}
use Rattle.cover_table.specs.declared.batch.Batch.{Batch}

-- a history in which nothing was handed over yet: whose publications these will be, and the interfaces before the first
pub record Beginning : Type 0 where
  pub identity : Book
  pub opening : List (ℕ × Kind)

-- a publisher: whose publications these are, the interfaces before the first one, all that it published, and whether
-- a publication was refused
pub record Publishing : Type 0 where
  pub identity : Book
  pub opening : List (ℕ × Kind)
  pub list : List Batch
  pub refused : Bool

-- what a note tells: whose publications these are, the interfaces before the first one, and the batches
pub record Told : Type 0 where
  pub identity : Book
  pub opening : List (ℕ × Kind)
  pub list : List Batch

-- a pass: whose publications it sees, the interfaces before the first one, the batches that it saw or was told of,
-- and how often it was refused
pub record Known : Type 0 where
  pub identity : Book
  pub opening : List (ℕ × Kind)
  pub list : List Batch
  pub count : ℕ

-- both name the same interfaces, in any roles and modes
abbrev pub NameSame : List (ℕ × Kind) → List (ℕ × Kind) → Type 0
NameSame kinds others = map (λ row. row.0) kinds ≡ map (λ row. row.0) others

-- a pass that was just handed out
abbrev pub fresh : Book → List (ℕ × Kind) → Known
fresh identity opening = record { identity = identity; opening = opening; list = []; count = 0 }
