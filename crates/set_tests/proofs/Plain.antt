-- An engine beside the plain list of its rows.
use Rattle.std.proofs.Common.{◌≡◌, ◌+◌, ◌<◌, ◌≤◌, ◌^◌, List, [], ◌∷◌, ◌++◌, length, arith, sym, ap, ◌∙◌, refl}
use Rattle.std.proofs.Common.{true}
use Rattle.std.specs.Ordering.{is_eq}
use Rattle.urpf_base.specs.Lists.{Has}
use Rattle.rpf_plain.specs.Rows.{AreSameRows, repeats, row_order}
use Rattle.rpf_plain.specs.declared.rows.Row.{Row}
use Rattle.rpf_plain.proofs.Counted.{counted, same_length}
use Rattle.rpf_plain.proofs.Orders.{tie}
use Rattle.rpf_plain.proofs.Repeats.{repeats-append}

-- the rows once one was added at the end
pub added : (old new listed more : List Row) (row : Row) → AreSameRows old listed → AreSameRows new (row ∷ old)
    → more ≡ listed ++ row ∷ [] → AreSameRows new more
added old new listed more row same adds is q =
    let joined : repeats more q ≡ repeats listed q + repeats (row ∷ []) q =
    ap (λ l. repeats l q) is ∙ repeats-append listed (row ∷ []) q in
    let one = adds q in
    let before = same q in
    omega arith

-- and once the last was taken away
pub taken : (old new listed less : List Row) (row : Row) → AreSameRows old listed → AreSameRows old (row ∷ new)
    → listed ≡ less ++ row ∷ [] → AreSameRows new less
taken old new listed less row same takes is q =
    let joined : repeats listed q ≡ repeats less q + repeats (row ∷ []) q =
    ap (λ l. repeats l q) is ∙ repeats-append less (row ∷ []) q in
    let one = takes q in
    let before = same q in
    omega arith

-- the last row is there
pub last_there : (old listed less : List Row) (row : Row) → AreSameRows old listed → listed ≡ less ++ row ∷ []
    → Has old row
last_there old listed less row same is =
    let joined : repeats listed row ≡ repeats less row + repeats (row ∷ []) row =
    ap (λ l. repeats l row) is ∙ repeats-append less (row ∷ []) row in
    let self_tie : is_eq (row_order row row) ≡ true = tie row in
    let one : repeats (row ∷ []) row ≡ 1 = rw self_tie (omega arith) in
    let before = same row in
    counted old row (omega arith)

-- few rows are fewer than an engine may hold
pub few : (old listed : List Row) → AreSameRows old listed → length listed < 1000 → length old < 2 ^ 40
few old listed same less = let equal = same_length old listed same in omega arith
