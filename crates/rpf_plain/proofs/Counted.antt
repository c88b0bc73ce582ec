-- What counts say of lists of rows.
use Rattle.std.proofs.Common.{◌≡◌, ◌↔◌, inl, inr, ◌+◌, ◌<◌, true, cond, List, [], ◌∷◌, length, refl}
use Rattle.std.proofs.Common.{sym, ap, arith}
use Rattle.std.specs.Ordering.{is_eq}
use Rattle.std.proofs.lemmas.Bool.{cases_Bool}
use Rattle.urpf_base.specs.Lists.{Has}
use Rattle.rpf_plain.specs.declared.rows.Row.{Row}
use Rattle.rpf_plain.specs.Rows.{AreSameRows, repeats, row_order}
use Rattle.rpf_plain.proofs.Orders.{same_from_tie, tie}
use Rattle.rpf_plain.proofs.Repeats.{repeats-some}

-- a row that is counted stands in the list
pub counted : (rows : List Row) (row : Row) → 0 < repeats rows row → Has rows row
counted [] row some = absurd (omega arith)
counted (r ∷ rows) row some =
    elim (cases_Bool (is_eq (row_order r row))) [
      | inl e ↦ inl (sym (same_from_tie r row e))
      | inr e ↦ inr (counted rows row (let less = rw e at some in omega arith))
    ]

pub held : (rows : List Row) (row : Row) → Has rows row ↔ (0 < repeats rows row)
held rows row = (repeats-some rows row, counted rows row)

-- the list without the first such row
abbrev without : Row → List Row → List Row
without x [] = []
without x (r ∷ rows) = cond (is_eq (row_order r x)) rows (r ∷ without x rows)

repeats-without : (x : Row) (rows : List Row) (q : Row) → 0 < repeats rows x
    → cond (is_eq (row_order x q)) 1 0 + repeats (without x rows) q ≡ repeats rows q
repeats-without x [] q some = absurd (omega arith)
repeats-without x (r ∷ rows) q some =
    elim (cases_Bool (is_eq (row_order r x))) [
      | inl e ↦ rw e (ap (λ z. cond (is_eq (row_order z q)) 1 0 + repeats rows q) (sym (same_from_tie r x e)))
      | inr e ↦
          let more = repeats-without x rows q (let less = rw e at some in omega arith) in
          rw e (omega arith)
    ]

length-without : (x : Row) (rows : List Row) → 0 < repeats rows x → length (without x rows) + 1 ≡ length rows
length-without x [] some = absurd (omega arith)
length-without x (r ∷ rows) some =
    elim (cases_Bool (is_eq (row_order r x))) [
      | inl e ↦ rw e (omega arith)
      | inr e ↦
          let more = length-without x rows (let less = rw e at some in omega arith) in
          rw e (omega arith)
    ]

no_rows : (rows : List Row) → ((row : Row) → repeats rows row ≡ 0) → length rows ≡ 0
no_rows [] none = refl
no_rows (r ∷ rows) none =
    let here : repeats (r ∷ rows) r ≡ 0 = none r in
    let one : is_eq (row_order r r) ≡ true = tie r in
    let more = rw one at here in
    absurd (omega arith)

-- lists with the same rows are equally long
pub same_length : (a b : List Row) → AreSameRows a b → length a ≡ length b
same_length [] b same = sym (no_rows b (λ row. sym (same row)))
same_length (x ∷ a) b same =
    let some : 0 < repeats b x = (let here = same x in let one : is_eq (row_order x x) ≡ true = tie x in
    let more = rw one at here in omega arith) in
    let rest : AreSameRows a (without x b) = (λ q.
    let here = same q in let there = repeats-without x b q some in omega arith) in
    let shorter = same_length a (without x b) rest in
    let one_less = length-without x b some in
    omega arith
