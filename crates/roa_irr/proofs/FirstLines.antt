-- The first line of a text, and blanks around a text.
use Rattle.std.proofs.Common.{◌≡◌, ℕ, zero, suc, ◌+◌, ◌-◌, ◌<◌, ◌≤◌, Bool, true, false, List, [], ◌∷◌, length, take}
use Rattle.std.proofs.Common.{drop, Some, None, refl, sym, ap, ◌∙◌, arith, cond, ltb, get_or}
use Rattle.std.specs.Prelude.{◌==◌, position}
use Rattle.std.specs.List.{onto_first, position_or_len, slice_split}
use Rattle.std.proofs.lemmas.Bool.Decides.{nat_tests}
use Rattle.std.proofs.lemmas.List.Splits.{length-slice_split, slice_split_first, slice_split-cons_no}
use Rattle.std.proofs.lemmas.Slice.{between_to_end}
use Rattle.roa_irr.specs.Lines.{ended, ends_line, is_blank, kept_before, lines_of, trimmed_end, without_return}

-- a place that is found is the first
place_of_some : (n size i : ℕ) → Some i ≡ cond (ltb n size) (Some n) None → (n < size) × (i ≡ n)
place_of_some n size i is = (grind (arith, nat_tests), grind (arith, nat_tests))

place_of_none : (n size : ℕ) → None ≡ cond (ltb n size) (Some n) None → size ≤ n
place_of_none n size is = grind (arith, nat_tests)

whole_by : (x : ℕ) (xs : List ℕ) (b : Bool) → ends_line x ≡ b → (length xs ≤ position_or_len ends_line xs
    → slice_split ends_line xs ≡ xs ∷ []) → length (x ∷ xs) ≤ position_or_len ends_line (x ∷ xs)
    → slice_split ends_line (x ∷ xs) ≡ (x ∷ xs) ∷ []
whole_by x xs true is go none = absurd (let h = rw is at none in omega arith)
whole_by x xs false is go none =
    let h = rw is at none in
    slice_split-cons_no ends_line x xs is ∙ ap (onto_first x) (go (omega arith))

-- a text without a line feed is one part
whole : (xs : List ℕ) → length xs ≤ position_or_len ends_line xs → slice_split ends_line xs ≡ xs ∷ []
whole [] none = refl
whole (x ∷ xs) none = whole_by x xs (ends_line x) refl (whole xs) none

ended_more : (line : List ℕ) (more : List (List ℕ)) → 0 < length more
    → ended (line ∷ more) ≡ without_return line ∷ ended more
ended_more line [] some = absurd (omega arith)
ended_more [] (next ∷ more) some = refl
ended_more (octet ∷ octets) (next ∷ more) some = refl

ended_one : (line : List ℕ) → 0 < length line → ended (line ∷ []) ≡ line ∷ []
ended_one [] some = absurd (omega arith)
ended_one (octet ∷ octets) some = refl

-- a text without a line feed is one line
pub lines_of-whole : (text : List ℕ) → 0 < length text → None ≡ position (λ b. b == 10) text → lines_of text ≡ text ∷ []
lines_of-whole text some none =
    ap ended (whole text (place_of_none (position_or_len ends_line text) (length text) none)) ∙ ended_one text some

-- the line before the first line feed, and the lines behind it
pub lines_of-cut : (text : List ℕ) (i : ℕ) → Some i ≡ position (λ b. b == 10) text
    → lines_of text ≡ without_return (take i text) ∷ lines_of (take (length text - (i + 1)) (drop (i + 1) text))
lines_of-cut text i is =
    let at = place_of_some (position_or_len ends_line text) (length text) i is in
    let rest : take (length text - (i + 1)) (drop (i + 1) text) ≡ drop (position_or_len ends_line text + 1) text =
    between_to_end text (i + 1) (length text) (omega arith) ∙ ap (λ n. drop (n + 1) text) at.1 in
    let many = length-slice_split ends_line (drop (position_or_len ends_line text + 1) text) in
    ap ended (slice_split_first ends_line text 0 at.0)
    ∙ ended_more (take (position_or_len ends_line text) text)
    (slice_split ends_line (drop (position_or_len ends_line text + 1) text)) (omega arith)
    ∙ ap (λ n. without_return (take n text) ∷ lines_of (drop (position_or_len ends_line text + 1) text)) (sym at.1)
    ∙ ap (λ t. without_return (take i text) ∷ lines_of t) (sym rest)

-- where the last octet is no blank, the text ends there
pub trimmed_end-tight : (xs : List ℕ) (n : ℕ) → suc n ≡ length xs → is_blank (get_or xs n 0) ≡ false
    → trimmed_end xs ≡ xs
trimmed_end-tight [] n size last = absurd (omega arith)
trimmed_end-tight (x ∷ []) zero size last = rw last refl
trimmed_end-tight (x ∷ []) (suc n) size last = absurd (omega arith)
trimmed_end-tight (x ∷ y ∷ ys) zero size last = absurd (omega arith)
trimmed_end-tight (x ∷ y ∷ ys) (suc n) size last =
    ap (kept_before x) (trimmed_end-tight (y ∷ ys) n (omega arith) last)

-- and a blank at the end does not count
pub trimmed_end-blank : (xs : List ℕ) (n : ℕ) → suc n ≡ length xs → is_blank (get_or xs n 0) ≡ true
    → trimmed_end (take n xs) ≡ trimmed_end xs
trimmed_end-blank [] n size last = absurd (omega arith)
trimmed_end-blank (x ∷ []) zero size last = rw last refl
trimmed_end-blank (x ∷ []) (suc n) size last = absurd (omega arith)
trimmed_end-blank (x ∷ y ∷ ys) zero size last = absurd (omega arith)
trimmed_end-blank (x ∷ y ∷ ys) (suc n) size last =
    ap (kept_before x) (trimmed_end-blank (y ∷ ys) n (omega arith) last)
