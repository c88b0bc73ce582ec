-- Numbers that are put one after the other.
use Rattle.std.proofs.Common.{◌≡◌, ℕ, ◌+◌, ◌*◌, ◌<◌, ◌≤◌, List, [], ◌∷◌, ◌++◌, length, get_or, take, ap, sym, ◌∙◌}
use Rattle.std.proofs.Common.{append_assoc, add-one, arith, decimal}
use Rattle.std.proofs.Math.Seq.{take-suc}
use Rattle.std.proofs.lemmas.List.{append-nil}
use Rattle.report_text.specs.Lines.{spaced}

-- the line has grown by these numbers, of which there are so many
pub record IsPut (before now taken : List ℕ) (count : ℕ) : Type 0 where
  pub text : now ≡ before ++ spaced taken
  pub short : length now ≤ length before + 21 * count

pub spaced_push : (numbers : List ℕ) (n : ℕ) → spaced (numbers ++ (n ∷ [])) ≡ spaced numbers ++ (32 ∷ decimal n)
spaced_push [] n = ap (λ ds. 32 ∷ ds) (append-nil (decimal n))
spaced_push (m ∷ ms) n =
    ap (λ t. (32 ∷ decimal m) ++ t) (spaced_push ms n)
    ∙ sym (append_assoc (32 ∷ decimal m) (spaced ms) (32 ∷ decimal n))

-- one more number is put
pub put_more : (before now next numbers : List ℕ) (i : ℕ) → IsPut before now (take i numbers) i → i < length numbers
    → next ≡ now ++ (32 ∷ decimal (get_or numbers i 0)) → length next ≤ length now + 21
    → IsPut before next (take (i + 1) numbers) (i + 1)
put_more before now next numbers i put less text short = record {
  text =
      text ∙ ap (λ t. t ++ (32 ∷ decimal (get_or numbers i 0))) put.text
      ∙ append_assoc before (spaced (take i numbers)) (32 ∷ decimal (get_or numbers i 0))
      ∙ ap (λ t. before ++ t)
      (sym (spaced_push (take i numbers) (get_or numbers i 0))
      ∙ ap spaced (sym (rw add-one (take-suc numbers i 0 less))));
  short = omega (arith, put.short);
}
