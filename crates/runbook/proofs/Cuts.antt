-- What stands before and behind a cut: the words of a text and its lines.
use Rattle.std.proofs.Common.{◌≡◌, ℕ, suc, ◌+◌, ◌==◌, Bool, true, false, cond, not, List, [], ◌∷◌, ◌++◌, length, take}
use Rattle.std.proofs.Common.{drop, refl, sym, ap, subst, ◌∙◌, arith}
use Rattle.std.specs.List.{slice_split, onto_first, position_or_len, prefix_len, filter}
use Rattle.std.proofs.lemmas.List.Splits.{slice_split-cons_yes, slice_split-cons_no}
use Rattle.std.proofs.lemmas.Bool.{eqb-true}
use Rattle.runbook.specs.Lines.{is_blank, is_word, words_in, words_of, ends_line, ended, lines_of, without_return}
use Rattle.runbook.specs.Lines.{counted, numbered_from, one_numbered}

one_plus : (n : ℕ) → 1 + n ≡ suc n
one_plus n = omega arith

-- what is split off first by a cut behind so many elements, and the other fields
record IsSplitAt (p : ℕ → Bool) (text : List ℕ) (place : ℕ) : Type 0 where
  fields : List (List ℕ)
  parts : slice_split p text ≡ take place text ∷ fields
  rest : filter is_word fields ≡ filter is_word (slice_split p (drop place text))
  ends : drop place text ≡ [] → fields ≡ []
  more : (c : ℕ) (cs : List ℕ) → drop place text ≡ c ∷ cs → fields ≡ slice_split p cs

split_by : (p : ℕ → Bool) (c : ℕ) (cs : List ℕ) (b : Bool) → p c ≡ b → (n : ℕ) → IsSplitAt p cs n
    → IsSplitAt p (c ∷ cs) (cond (not b) (1 + n) 0)
split_by p c cs true is n h = record {
  fields = slice_split p cs;
  parts = slice_split-cons_yes p c cs is;
  rest = sym (ap (filter is_word) (slice_split-cons_yes p c cs is));
  ends = λ e. cc;
  more = λ d ds e. let same : cs ≡ ds = cc in ap (slice_split p) same;
}
split_by p c cs false is n h =
    subst (IsSplitAt p (c ∷ cs)) (sym (one_plus n)) (record {
      fields = h.fields;
      parts = slice_split-cons_no p c cs is ∙ ap (onto_first c) h.parts;
      rest = h.rest;
      ends = h.ends;
      more = h.more;
    })

-- a text is cut at the first element that passes
split : (p : ℕ → Bool) (text : List ℕ) → IsSplitAt p text (position_or_len p text)
split p [] = record { fields = []; parts = refl; rest = refl; ends = λ e. refl; more = λ c cs e. cc }
split p (c ∷ cs) = split_by p c cs (p c) refl (position_or_len p cs) (split p cs)

blanks_by : (c : ℕ) (cs : List ℕ) (b : Bool) → is_blank c ≡ b → (n : ℕ) → words_in (drop n cs) ≡ words_in cs
    → words_in (drop (cond b (1 + n) 0) (c ∷ cs)) ≡ words_in (c ∷ cs)
blanks_by c cs true is n h =
    ap (λ k. words_in (drop k (c ∷ cs))) (one_plus n) ∙ h
    ∙ sym (ap (filter is_word) (slice_split-cons_yes is_blank c cs is))
blanks_by c cs false is n h = refl

-- blanks in front part no words
blanks_dropped : (text : List ℕ) → words_in (drop (prefix_len is_blank text) text) ≡ words_in text
blanks_dropped [] = refl
blanks_dropped (c ∷ cs) = blanks_by c cs (is_blank c) refl (prefix_len is_blank cs) (blanks_dropped cs)

begins_by : (c : ℕ) (cs : List ℕ) (b : Bool) → is_blank c ≡ b → (n d : ℕ) (ds : List ℕ) → (drop n cs ≡ d ∷ ds
    → is_blank d ≡ false) → drop (cond b (1 + n) 0) (c ∷ cs) ≡ d ∷ ds → is_blank d ≡ false
begins_by c cs true is n d ds h e = h (ap (λ k. drop k (c ∷ cs)) (sym (one_plus n)) ∙ e)
begins_by c cs false is n d ds h e = let same : c ≡ d = cc in ap is_blank (sym same) ∙ is

-- behind the blanks in front stands none
begins_word : (text : List ℕ) (d : ℕ) (ds : List ℕ) → drop (prefix_len is_blank text) text ≡ d ∷ ds → is_blank d ≡ false
begins_word [] d ds e = cc
begins_word (c ∷ cs) d ds e = begins_by c cs (is_blank c) refl (prefix_len is_blank cs) d ds (begins_word cs d ds) e

first_word : (c : ℕ) (cs : List ℕ) → is_blank c ≡ false
    → words_in (c ∷ cs) ≡ take (position_or_len is_blank (c ∷ cs)) (c ∷ cs)
    ∷ words_in (drop (position_or_len is_blank (c ∷ cs)) (c ∷ cs))
first_word c cs is =
    let n = position_or_len is_blank (c ∷ cs) in
    let h = split is_blank (c ∷ cs) in
    let place : n ≡ suc (position_or_len is_blank cs) = ap (λ b. cond (not b) (1 + position_or_len is_blank cs) 0) is
    ∙ one_plus _ in
    let word : is_word (take n (c ∷ cs)) ≡ true = ap (λ k. is_word (take k (c ∷ cs))) place in
    ap (filter is_word) h.parts
    ∙ ap (λ b. cond b (take n (c ∷ cs) ∷ filter is_word h.fields) (filter is_word h.fields)) word
    ∙ ap (λ ws. take n (c ∷ cs) ∷ ws) h.rest

-- nothing is left behind the blanks, so there is no word
pub no_word : (text rest : List ℕ) (n : ℕ) → n ≡ prefix_len is_blank text → rest ≡ drop n text
    → (length rest == 0) ≡ true → words_in text ≡ []
no_word text [] n place is none = sym (ap words_in (is ∙ ap (λ k. drop k text) place) ∙ blanks_dropped text)
no_word text (c ∷ cs) n place is none = let zero_length : length (c ∷ cs) ≡ 0 = eqb-true _ _ none in
    absurd (omega arith)

-- what is left behind the blanks begins with a word
pub one_word : (text rest word after : List ℕ) (n m : ℕ) → n ≡ prefix_len is_blank text → rest ≡ drop n text
    → (length rest == 0) ≡ false
    → m ≡ position_or_len is_blank rest → word ≡ take m rest → after ≡ drop m rest
    → words_in text ≡ word ∷ words_in after
one_word text [] word after n m place is some end front back = cc
one_word text (c ∷ cs) word after n m place is some end front back =
    let left : c ∷ cs ≡ drop (prefix_len is_blank text) text = is ∙ ap (λ k. drop k text) place in
    sym (blanks_dropped text)
    ∙ ap words_in (sym left)
    ∙ first_word c cs (begins_word text c cs (sym left))
    ∙ ap (λ k. take k (c ∷ cs) ∷ words_in (drop k (c ∷ cs))) (sym end)
    ∙ ap (λ w. w ∷ words_in (drop m (c ∷ cs))) (sym front)
    ∙ ap (λ t. word ∷ words_in t) (sym back)

ended_more : (line text : List ℕ)
    → ended (line ∷ slice_split ends_line text) ≡ without_return line ∷ ended (slice_split ends_line text)
ended_more line text =
    subst (λ s. ended (line ∷ s) ≡ without_return line ∷ ended s) (sym (split ends_line text).parts) refl

-- no line feed is left, so the text is its one line
pub last_line : (text line after : List ℕ) (n number rounds : ℕ) → n ≡ position_or_len ends_line text
    → line ≡ take n text → after ≡ drop n text → (length after == 0) ≡ true
    → numbered_from number rounds (lines_of text) ≡ one_numbered number rounds (words_of line)
    ++ numbered_from (number + 1) (counted rounds (words_of line)) (lines_of after)
last_line text line [] n number rounds place front back none =
    let h = split ends_line text in
    let at : drop (position_or_len ends_line text) text ≡ [] = sym (back ∙ ap (λ k. drop k text) place) in
    ap (λ s. numbered_from number rounds (ended s))
    (h.parts ∙ ap (λ fs. take (position_or_len ends_line text) text ∷ fs) (h.ends at))
    ∙ ap (λ l. one_numbered number rounds (words_of l) ++ []) (ap (λ k. take k text) (sym place) ∙ sym front)
last_line text line (c ∷ cs) n number rounds place front back none =
    let zero_length : length (c ∷ cs) ≡ 0 = eqb-true _ _ none in
    absurd (omega arith)

-- the text up to the line feed is a line, and behind the line feed the next begins
pub one_line : (text line after rest : List ℕ) (n number rounds : ℕ) → n ≡ position_or_len ends_line text
    → line ≡ take n text → after ≡ drop n text → (length after == 0) ≡ false → rest ≡ drop 1 after
    → numbered_from number rounds (lines_of text) ≡ one_numbered number rounds (words_of (without_return line))
    ++ numbered_from (number + 1) (counted rounds (words_of (without_return line))) (lines_of rest)
one_line text line [] rest n number rounds place front back some behind = cc
one_line text line (c ∷ cs) rest n number rounds place front back some behind =
    let h = split ends_line text in
    let at : drop (position_or_len ends_line text) text ≡ c ∷ cs = sym (back ∙ ap (λ k. drop k text) place) in
    ap (λ s. numbered_from number rounds (ended s))
    (h.parts ∙ ap (λ fs. take (position_or_len ends_line text) text ∷ fs) (h.more c cs at))
    ∙ ap (numbered_from number rounds) (ended_more _ cs)
    ∙ ap (λ l. one_numbered number rounds (words_of (without_return l))
    ++ numbered_from (number + 1) (counted rounds (words_of (without_return l))) (lines_of cs))
    (ap (λ k. take k text) (sym place) ∙ sym front)
    ∙ ap (λ t. one_numbered number rounds (words_of (without_return line))
    ++ numbered_from (number + 1) (counted rounds (words_of (without_return line))) (lines_of t))
    (sym behind)
