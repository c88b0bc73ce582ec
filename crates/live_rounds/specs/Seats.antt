-- What contracts see of the place of a worker. Our own choice.
use Rattle.std.specs.Prelude.{ℕ, List, [], Option, None, Some}
use Rattle.logbook.specs.Pages.{Book}
use Rattle.urpf_base.specs.declared.kinds.Kind.{Kind}
use Rattle.cover_table.specs.declared.batch.Batch.{Batch}
use Rattle.live_rounds.specs.declared.place.Seat.{Seat}
use Rattle.live_rounds.specs.declared.place.Seat.TheVariants.{Seated, Standing}

-- whose publications it checks by: none without a pass
abbrev pub identity_of : {J : Type 0} → Seat J → Option Book
identity_of (Seated pass) = Some pass.identity
identity_of (Standing count) = None

abbrev pub opening_of : {J : Type 0} → Seat J → List (ℕ × Kind)
opening_of (Seated pass) = pass.opening
opening_of (Standing count) = []

abbrev pub list_of : {J : Type 0} → Seat J → List Batch
list_of (Seated pass) = pass.list
list_of (Standing count) = []

abbrev pub count_of : {J : Type 0} → Seat J → ℕ
count_of (Seated pass) = pass.count
count_of (Standing count) = count
