-- The last of marks.
use Rattle.std.proofs.Common.{◌≡◌, List, [], ◌∷◌, ◌++◌, refl}
use Rattle.control_core.specs.Worlds.{Position, last_number}

pub last_number-push : (marks : List Position) (mark : Position) → last_number (marks ++ mark ∷ []) ≡ mark.number
last_number-push [] mark = refl
last_number-push (m ∷ []) mark = refl
last_number-push (m ∷ n ∷ marks) mark = last_number-push (n ∷ marks) mark
