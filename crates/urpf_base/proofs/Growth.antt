-- What a sink holds after one write and then another.
use Rattle.std.proofs.Common.{◌≡◌, ℕ, ◌+◌, ◌-◌, List, ◌++◌, length, take, drop, Option, Some, None, ap, sym, ◌∙◌}
use Rattle.std.proofs.Common.{append_assoc, arith}
use Rattle.std.proofs.Math.Seq.{take-add}
use Rattle.std.proofs.lemmas.Slice.{between_to_end}
use Rattle.std.specs.Io.KnownBytes.{Appends}

-- one piece and then another is both joined
pub Appends-append : (old mid new : Option (List ℕ)) (xs ys : List ℕ) → Appends old mid xs → Appends mid new ys
    → Appends old new (xs ++ ys)
Appends-append None mid new xs ys first second = tt
Appends-append (Some o) None new xs ys first second = absurd first
Appends-append (Some o) (Some m) None xs ys first second = absurd second
Appends-append (Some o) (Some m) (Some n) xs ys first second =
    second ∙ ap (λ a. a ++ ys) first ∙ append_assoc o xs ys

-- the first n of what follows the first t are those that come next
pub take-take-drop : (t n : ℕ) (piece : List ℕ)
    → take t piece ++ take n (take (length piece - t) (drop t piece)) ≡ take (t + n) piece
take-take-drop t n piece =
    ap (λ rest. take t piece ++ take n rest) (between_to_end piece t (length piece) (omega arith))
    ∙ sym (take-add t n piece)

pub Appends-more : (old mid new : Option (List ℕ)) (piece : List ℕ) (t n : ℕ) → Appends old mid (take t piece)
    → Appends mid new (take n (take (length piece - t) (drop t piece))) → Appends old new (take (t + n) piece)
Appends-more old mid new piece t n first second =
    rw (← take-take-drop t n piece) (Appends-append old mid new _ _ first second)
