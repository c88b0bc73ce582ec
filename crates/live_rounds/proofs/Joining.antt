-- Rounds that are joined to a run.
use Rattle.std.proofs.Common.{◌≡◌, ℕ, zero, suc, ◌+◌, ◌-◌, ◌≤◌, List, [], ◌∷◌, ◌++◌, length, map, take, drop, slice_get, slice_range}
use Rattle.std.proofs.Common.{Some, refl, ap, sym, subst, ◌∙◌, append-nil, arith}
use Rattle.std.proofs.lemmas.List.{drop-drop, take_rest, take-append-drop}
use Rattle.std.proofs.lemmas.List.Concat.{flat_map-append}
use Rattle.std.proofs.lemmas.List.Sums.{sum_by-cons}
use Rattle.std.proofs.Math.Seq.{take-add}
use Rattle.std.specs.List.{flat_map}
use Rattle.urpf_base.specs.declared.kinds.Kind.{Kind}
use Rattle.runbook.specs.declared.lines.BookLine.{BookLine}
use Rattle.control_core.proofs.Places.{some_one}
use Rattle.live_rounds.specs.Parts.{Running}
use Rattle.live_rounds.specs.Rounds.{AreOthers, AreRounds, IsLastOf, IsLiveRun, IsOther, IsRoundOf, Stage, packet_count}
use Rattle.live_rounds.specs.Stations.{Station}

-- ---- lines one after the other

row_at : {X : Type 0} (xs : List X) (k : ℕ) (x : X) → slice_get xs k ≡ Some x → drop k xs ≡ x ∷ drop (suc k) xs
row_at [] k x at = absurd cc
row_at (y ∷ ys) zero x at = ap (λ z. z ∷ ys) (some_one y x at)
row_at (y ∷ ys) (suc k) x at = row_at ys k x at

-- the line at a place alone
pub range_one : {X : Type 0} (xs : List X) (k : ℕ) (x : X) → slice_get xs k ≡ Some x
    → slice_range xs k (k + 1) ≡ x ∷ []
range_one xs k x at =
    let one : k + 1 - k ≡ 1 = omega arith in
    ap (λ n. take n (drop k xs)) one ∙ ap (λ l. take 1 l) (row_at xs k x at)

-- lines and the one behind them
pub range_more : {X : Type 0} (xs : List X) (from k : ℕ) (x : X) → from ≤ k → slice_get xs k ≡ Some x
    → slice_range xs from (k + 1) ≡ slice_range xs from k ++ x ∷ []
range_more xs from k x le at =
    let whole : from + (k - from) ≡ k = omega (arith, le) in
    let one : k + 1 - from ≡ (k - from) + 1 = omega (arith, le) in
    let last : take 1 (drop (k - from) (drop from xs)) ≡ x ∷ [] =
    ap (λ l. take 1 l) (drop-drop (k - from) from xs ∙ (ap (λ n. drop n xs) whole ∙ row_at xs k x at)) in
    ap (λ n. take n (drop from xs)) one ∙ (take-add (k - from) 1 (drop from xs)
    ∙ ap (λ l. take (k - from) (drop from xs) ++ l) last)

-- no lines at all
pub range_none : {X : Type 0} (xs : List X) (k : ℕ) → slice_range xs k k ≡ []
range_none xs k =
    let none : k - k ≡ 0 = omega arith in
    ap (λ n. take n (drop k xs)) none

-- the lines before a place and those behind it
pub range_then : {X : Type 0} (xs : List X) (from upto : ℕ) → from ≤ upto → upto ≤ length xs
    → take upto xs ≡ take from xs ++ slice_range xs from upto
range_then xs from upto le within =
    let add : from + (upto - from) ≡ upto = omega (arith, le) in
    ap (λ n. take n xs) (sym add) ∙ take-add from (upto - from) xs

pub range_rest : {X : Type 0} (xs : List X) (from : ℕ) → xs ≡ take from xs ++ slice_range xs from (length xs)
range_rest xs from =
    sym (ap (λ l. take from xs ++ l) (take_rest xs from) ∙ take-append-drop from xs)

pub others_more : (rows : List (ℕ × BookLine)) (row : ℕ × BookLine) → AreOthers rows → IsOther row.1
    → AreOthers (rows ++ row ∷ [])
others_more [] row others other = (other, tt)
others_more (r ∷ rows) row others other = (others.0, others_more rows row others.1 other)

pub others_none : (rows : List (ℕ × BookLine)) (k : ℕ) → AreOthers (slice_range rows k k)
others_none rows k = subst (λ lines. AreOthers lines) (sym (range_none rows k)) tt

pub others_next : (rows : List (ℕ × BookLine)) (from k : ℕ) → from ≤ k → AreOthers (slice_range rows from k)
    → (row : ℕ × BookLine) × (slice_get rows k ≡ Some row) × IsOther row.1 → AreOthers (slice_range rows from (k + 1))
others_next rows from k le others row =
    subst (λ lines. AreOthers lines) (sym (range_more rows from k row.0 le row.1))
    (others_more (slice_range rows from k) row.0 others row.2)

-- ---- rounds one after the other

module _ (Ran : Running) (kinds : List (ℕ × Kind)) where
  pub rounds_more : (rounds : List (List (ℕ × BookLine))) (lines : List (ℕ × BookLine)) (from mid to : Stage)
      → AreRounds Ran kinds rounds from mid → IsRoundOf Ran kinds lines mid to
      → AreRounds Ran kinds (rounds ++ lines ∷ []) from to
  rounds_more [] lines from mid to are is = (to, subst (λ s. IsRoundOf Ran kinds lines s to) are is, refl)
  rounds_more (round ∷ rounds) lines from mid to are is =
      (are.0, are.1, rounds_more rounds lines are.0 mid to are.2 is)

  -- the first lines of a run are rounds, which lead here
  pub record AreRun (lines : List (ℕ × BookLine)) (from : ℕ) (start here : Stage) : Type 0 where
    pub rounds : List (List (ℕ × BookLine))
    pub parts : take from lines ≡ flat_map (λ round. round) rounds
    pub are : AreRounds Ran kinds rounds start here

  pub run_none : (lines : List (ℕ × BookLine)) (start : Stage) → AreRun lines 0 start start
  run_none lines start = record { rounds = []; parts = refl; are = refl }

  pub run_more : (lines : List (ℕ × BookLine)) (from upto : ℕ) (start here there : Stage) → from ≤ upto
      → upto ≤ length lines → AreRun lines from start here → IsRoundOf Ran kinds (slice_range lines from upto) here there
      → AreRun lines upto start there
  run_more lines from upto start here there le within run is =
      let round = slice_range lines from upto in record {
        rounds = run.rounds ++ round ∷ [];
        parts = range_then lines from upto le within
            ∙ ap (λ l. l ++ round) run.parts
            ∙ ap (λ l. flat_map (λ r. r) run.rounds ++ l) (sym (append-nil round))
            ∙ sym (flat_map-append (λ r. r) run.rounds (round ∷ []));
        are = rounds_more run.rounds round start here there run.are is;
      }

  pub run_ends : (lines : List (ℕ × BookLine)) (from : ℕ) (start here there : Stage) → AreRun lines from start here
      → IsLastOf Ran kinds (slice_range lines from (length lines)) here there → IsLiveRun Ran kinds lines start there
  run_ends lines from start here there run last = record {
    rounds = run.rounds;
    rest = slice_range lines from (length lines);
    parts = range_rest lines from ∙ ap (λ l. l ++ slice_range lines from (length lines)) run.parts;
    mid = here;
    are = run.are;
    last = last;
  }

pub count_more : (station : Station) (stations : List Station)
    → packet_count (station ∷ stations) ≡ station.desk.place + packet_count stations
count_more station stations = sum_by-cons (λ n. n) station.desk.place (map (λ s. s.desk.place) stations)
