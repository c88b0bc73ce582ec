-- The records that `csv` reads: they are fewer than the octets of the text and one, and a text has one list of them.
use Rattle.std.proofs.Common.{◌≡◌, ℕ, ◌+◌, ◌*◌, ◌<◌, ◌≤◌, Bool, true, false, List, [], ◌∷◌, ◌++◌, length, Option, Some, None}
use Rattle.std.proofs.Common.{if◌then◌else◌, refl, sym, ap, subst, ◌∙◌, arith}
use Rattle.csv.specs.Machine.{Read, ends_at_end, fields_after, field_after, is_end, next_record, step}
use Rattle.csv.specs.Reading.{AreRecords, Reached, strip_bom, is_bom}
use Rattle.csv.specs.declared.parser.Config.{Config}
use Rattle.csv.specs.declared.parser.State.{State}
use Rattle.csv.specs.declared.parser.State.TheVariants as st

picked : (b : Bool) (one : Read) (other : Option Read) (n : ℕ) (r : Read)
    → (if b then Some one else other) ≡ Some r
    → length one.2 ≤ n → (other ≡ Some r → length r.2 ≤ n) → length r.2 ≤ n
picked true one other n r e small more = let same : one ≡ r = cc in subst (λ q. length q.2 ≤ n) same small
picked false one other n r e small more = more e

-- reading a record leaves no more text than there was
within : (cfg : Config) (s : State) (fields : List (List ℕ)) (field xs : List ℕ) (r : Read)
    → next_record cfg s fields field xs ≡ Some r → length r.2 ≤ length xs
unfolding next_record
within cfg s fields field [] r e =
    picked (ends_at_end s) (fields ++ (field ∷ []), st.StartRecord, []) None 0 r e (omega arith) (λ none. absurd cc)
within cfg s fields field (c ∷ rest) r e =
    picked (is_end (step cfg s c).1) (fields_after (step cfg s c).1 fields field, (step cfg s c).0, rest)
    (next_record cfg (step cfg s c).0 (fields_after (step cfg s c).1 fields field)
    (field_after (step cfg s c).1 c field) rest)
    (length (c ∷ rest)) r e (omega arith)
    (λ more. let small = within cfg (step cfg s c).0 (fields_after (step cfg s c).1 fields field)
    (field_after (step cfg s c).1 c field) rest r more in omega arith)

-- and less, where there was some
pub shorter : (cfg : Config) (s : State) (fields : List (List ℕ)) (field : List ℕ) (c : ℕ) (rest : List ℕ) (r : Read)
    → next_record cfg s fields field (c ∷ rest) ≡ Some r → length r.2 ≤ length rest
unfolding next_record
shorter cfg s fields field c rest r e =
    picked (is_end (step cfg s c).1) (fields_after (step cfg s c).1 fields field, (step cfg s c).0, rest)
    (next_record cfg (step cfg s c).0 (fields_after (step cfg s c).1 fields field)
    (field_after (step cfg s c).1 c field) rest)
    (length rest) r e (omega arith)
    (within cfg (step cfg s c).0 (fields_after (step cfg s c).1 fields field)
    (field_after (step cfg s c).1 c field) rest r)

ended : (b : Bool) (one p : Read) → one.1 ≡ st.StartRecord → one.2 ≡ [] → (if b then Some one else None) ≡ Some p
    → (p.1 ≡ st.StartRecord) × (p.2 ≡ [])
ended true one p state rest e =
    let same : p ≡ one = cc in (ap (λ (q : Read). q.1) same ∙ state, ap (λ (q : Read). q.2) same ∙ rest)
ended false one p state rest e = absurd cc

-- where nothing is left, the record that was begun is the last
pub at_end : (cfg : Config) (s : State) (p : Read) → next_record cfg s [] [] [] ≡ Some p
    → (p.1 ≡ st.StartRecord) × (p.2 ≡ [])
unfolding next_record
at_end cfg s p e = ended (ends_at_end s) ([] ∷ [], st.StartRecord, []) p refl refl e

none_left : (cfg : Config) (rows : List (List (List ℕ))) (s2 : State) (ys : List ℕ)
    → Reached cfg st.StartRecord [] rows s2 ys → length rows ≤ 0
unfolding Reached next_record
none_left cfg [] s2 ys r = omega arith
none_left cfg (row ∷ rows) s2 ys r = absurd (let is = r.1 in cc)

-- there are no more records than octets and one
pub few_records : (cfg : Config) (s : State) (xs : List ℕ) (rows : List (List (List ℕ))) (s2 : State) (ys : List ℕ)
    → Reached cfg s xs rows s2 ys → length rows ≤ length xs + 1
unfolding Reached
few_records cfg s xs [] s2 ys r = omega arith
few_records cfg s [] (row ∷ rows) s2 ys r =
    let last = at_end cfg s r.0 r.1 in
    let none = none_left cfg rows s2 ys
    (subst (λ z. Reached cfg st.StartRecord z rows s2 ys) last.1
    (subst (λ z. Reached cfg z r.0.2 rows s2 ys) last.0 r.3)) in
    omega arith
few_records cfg s (c ∷ rest) (row ∷ rows) s2 ys r =
    let less = shorter cfg s [] [] c rest r.0 r.1 in
    let few = few_records cfg r.0.1 r.0.2 rows s2 ys r.3 in
    omega arith

-- the records of the text begin with those that were read
pub begins : (cfg : Config) (s : State) (xs : List ℕ) (rows all : List (List (List ℕ))) (s2 : State) (ys : List ℕ)
    → Reached cfg s xs rows s2 ys → AreRecords cfg s xs all
    → (more : List (List (List ℕ))) × (all ≡ rows ++ more) × AreRecords cfg s2 ys more
unfolding Reached
begins cfg s xs [] all s2 ys r are =
    (all, refl, subst (λ z. AreRecords cfg s2 z all) r.1 (subst (λ z. AreRecords cfg z xs all) r.0 are))
begins cfg s xs (row ∷ rows) [] s2 ys r are = absurd (let e = are.2.0 in let f = are.2.1 in let n = are.3 in let o = r.1 in
    let none : next_record cfg s [] [] xs ≡ None = cc in cc)
begins cfg s xs (row ∷ rows) (one ∷ all) s2 ys r are =
    let o = r.1 in let p = are.2.1 in
    let same : are.2.0 ≡ r.0 = cc in
    let go = begins cfg r.0.1 r.0.2 rows all s2 ys r.3
    (subst (λ (q : Read). AreRecords cfg q.1 q.2 all) same (are.0, are.1, are.2.3, are.3)) in
    let first : one ≡ row = are.2.2 ∙ ap (λ (q : Read). q.0) same ∙ sym r.2 in
    (go.0, ap (λ x. x ∷ all) first ∙ ap (λ t. row ∷ t) go.1, go.2)

one_of : (t : Bool) (a b c : ℕ) (rest : List ℕ)
    → length (if t then rest else a ∷ b ∷ c ∷ rest) ≤ length (a ∷ b ∷ c ∷ rest)
one_of true a b c rest = omega arith
one_of false a b c rest = omega arith

-- a mark of the byte order takes none away but its own octets
pub stripped : (xs : List ℕ) → length (strip_bom xs) ≤ length xs
unfolding strip_bom
stripped [] = omega arith
stripped (a ∷ []) = omega arith
stripped (a ∷ b ∷ []) = omega arith
stripped (a ∷ b ∷ c ∷ rest) = one_of (is_bom a b c) a b c rest

abbrev pub one_if : Bool → ℕ
one_if true = 1
one_if false = 0

-- what is left behind a state, as a number: two for an octet, and one where a record is to end
abbrev pub left : State → List ℕ → ℕ
left s xs = 2 * length xs + one_if (ends_at_end s)

one_at_most : (b : Bool) → one_if b ≤ 1
one_at_most true = omega arith
one_at_most false = omega arith

one_where : (b : Bool) (one p : Read) → (if b then Some one else None) ≡ Some p → one_if b ≡ 1
one_where true one p e = refl
one_where false one p e = absurd cc

-- after a record less is left
pub left_less : (cfg : Config) (s : State) (xs : List ℕ) (row : List (List ℕ)) (s2 : State) (ys : List ℕ)
    → Reached cfg s xs (row ∷ []) s2 ys → left s2 ys < left s xs
unfolding Reached next_record
left_less cfg s [] row s2 ys r =
    let last = at_end cfg s r.0 r.1 in
    let one = one_where (ends_at_end s) ([] ∷ [], st.StartRecord, []) r.0 r.1 in
    let state : s2 ≡ st.StartRecord = sym r.3.0 ∙ last.0 in
    let none : ys ≡ [] = sym r.3.1 ∙ last.1 in
    rw (state, none) (omega arith)
left_less cfg s (c ∷ rest) row s2 ys r =
    let less = shorter cfg s [] [] c rest r.0 r.1 in
    let same : length r.0.2 ≡ length ys = ap (λ (t : List ℕ). length t) r.3.1 in
    let one = one_at_most (ends_at_end s2) in
    omega arith
