-- What a read out of memory leaves in the buffer and in the source.
use Rattle.std.proofs.Common.{◌≡◌, ℕ, ◌+◌, ◌-◌, ◌≤◌, ◌<◌, List, [], ◌++◌, length, take, drop, min, ap, sym, ◌∙◌, arith}
use Rattle.std.proofs.Common.{length-take, length-drop}
use Rattle.std.proofs.lemmas.List.{take_at, drop-drop, drop_all, take-append-drop}

-- the front of what is left is copied into the front of the buffer
pub copied_front : (octets copied rest : List ℕ) (at n : ℕ) → n ≤ length octets - at
    → copied ≡ take (at + n - at) (drop at octets) → drop at octets ≡ take n (copied ++ rest) ++ drop (at + n) octets
copied_front octets copied rest at n room is =
    let front : copied ≡ take n (drop at octets) = is ∙ ap (λ k. take k (drop at octets)) (omega arith) in
    let long : length copied ≡ n = ap length front
    ∙ omega (arith, length-take n (drop at octets), length-drop at octets) in
    sym
    (ap (λ xs. xs ++ drop (at + n) octets) (take_at copied rest n long ∙ front)
    ∙ ap (λ xs. take n (drop at octets) ++ xs) (sym (drop-drop n at octets))
    ∙ take-append-drop n (drop at octets))

-- a read of nothing into a buffer with room is the end
pub none_left : (octets : List ℕ) (at n room : ℕ) → n ≡ min room (length octets - at) → n ≡ 0 → 0 < room
    → drop (at + n) octets ≡ []
none_left octets at n room is none some = drop_all (at + n) octets (omega arith)
