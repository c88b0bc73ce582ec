-- Laws on the list of interfaces.
use Rattle.std.proofs.Common.{◌≡◌, ℕ, ◌+◌, ◌<◌, List, [], ◌∷◌, ◌++◌, map, take, length, refl, ap, sym, subst, ◌∙◌}
use Rattle.std.proofs.Common.{inl, inr, arith}
use Rattle.std.proofs.Math.Seq.{take-append_seam}
use Rattle.std.specs.List.{AllByRecursion}
use Rattle.std.proofs.lemmas.Bool.{cases_Bool}
use Rattle.std.proofs.lemmas.List.{map-append}
use Rattle.router_config.specs.declared.edits.Edit.{Edit}
use Rattle.router_config.specs.Edits.{edited, edited_row, is_of}
use Rattle.router_config.specs.Kinds.{Row, AllBelow, AreIncreasing, IsAscending}

abbrev pub numbers : List Row → List ℕ
numbers rows = map (λ row. row.0) rows

pub edited_row-number : (edit : Edit) (row : Row) → (edited_row edit row).0 ≡ row.0
edited_row-number edit row =
    elim (cases_Bool (is_of edit row.0)) [ inl same ↦ rw same refl | inr other ↦ rw other refl ]

pub numbers-edited : (edit : Edit) (rows : List Row) → numbers (edited edit rows) ≡ numbers rows
numbers-edited edit [] = refl
numbers-edited edit (row ∷ rows) = rw (edited_row-number edit row, numbers-edited edit rows) refl

-- an edit leaves the numbers in their order
pub ascending-edited : (edit : Edit) (old new : List Row) → new ≡ edited edit old → IsAscending old → IsAscending new
ascending-edited edit old new is ascending =
    subst AreIncreasing (sym (ap numbers is ∙ numbers-edited edit old)) ascending

-- what stands in the list once the edited rows are written back
pub ascending-written : (edit : Edit) (old lent new rest : List Row) (n : ℕ) → lent ≡ old → new ≡ edited edit lent
    → n ≡ length new → IsAscending old → IsAscending (take n (new ++ rest))
ascending-written edit old lent new rest n same is len ascending =
    let whole : take n (new ++ rest) ≡ edited edit old =
    ap (λ k. take k (new ++ rest)) len ∙ take-append_seam new rest ∙ is ∙ ap (edited edit) same in
    ascending-edited edit old _ whole ascending

AllByRecursion-push : (P : ℕ → Type 0) (ns : List ℕ) (n : ℕ) → AllByRecursion P ns → P n
    → AllByRecursion P (ns ++ n ∷ [])
AllByRecursion-push P [] n all last = (last, tt)
AllByRecursion-push P (m ∷ ns) n all last = (all.0, AllByRecursion-push P ns n all.1 last)

AreIncreasing-push : (ns : List ℕ) (n : ℕ) → AreIncreasing ns → AllByRecursion (λ m. m < n) ns
    → AreIncreasing (ns ++ n ∷ [])
AreIncreasing-push [] n increasing below = (tt, tt)
AreIncreasing-push (m ∷ ns) n increasing below =
    (AllByRecursion-push (λ o. m < o) ns n increasing.0 below.0, AreIncreasing-push ns n increasing.1 below.1)

-- an interface whose number is greater than all others goes last
pub IsAscending-push : (rows : List Row) (row : Row) → IsAscending rows → AllBelow rows row.0
    → IsAscending (rows ++ row ∷ [])
IsAscending-push rows row ascending below =
    subst AreIncreasing (sym (map-append (λ r. r.0) rows (row ∷ [])))
    (AreIncreasing-push (numbers rows) row.0 ascending below)

AllByRecursion-further : (ns : List ℕ) (n : ℕ) → AllByRecursion (λ m. m < n) ns → AllByRecursion (λ m. m < n + 1) ns
AllByRecursion-further [] n below = tt
AllByRecursion-further (m ∷ ns) n below = (omega (arith, below.0), AllByRecursion-further ns n below.1)

-- what is below a number is below the next
pub AllBelow-further : (rows : List Row) (n : ℕ) → AllBelow rows n → AllBelow rows (n + 1)
AllBelow-further rows n below = AllByRecursion-further (numbers rows) n below

pub AllBelow-push : (rows : List Row) (row : Row) → AllBelow rows row.0 → AllBelow (rows ++ row ∷ []) (row.0 + 1)
AllBelow-push rows row below =
    let P : ℕ → Type 0 = λ m. m < row.0 + 1 in
    let Q : List ℕ → Type 0 = AllByRecursion P in
    subst Q (sym (map-append (λ r. r.0) rows (row ∷ [])))
    (AllByRecursion-push P (numbers rows) row.0 (AllByRecursion-further (numbers rows) row.0 below) (omega arith))
