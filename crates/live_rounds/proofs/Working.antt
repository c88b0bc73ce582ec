-- What one worker made of a round, and what all of them made of it.
use Rattle.std.proofs.Common.{◌≡◌, ◌⊎◌, inl, inr, ℕ, zero, suc, ◌<◌, ◌≤◌, Bool, true, false, List, [], ◌∷◌, ◌++◌, length, map, take, drop, slice_index_or}
use Rattle.std.proofs.Common.{Option, None, refl, ap, sym, subst, ◌∙◌, append-nil, length-append, arith}
use Rattle.std.proofs.lemmas.List.{drop_all}
use Rattle.std.proofs.lemmas.List.Elements.{All-cons, All-nil}
use Rattle.std.proofs.Math.Seq.{take-length}
use Rattle.std.specs.List.{All, AllByRecursion, AllZip}
use mathlib.Core.List.{IsPrefix}
use Rattle.logbook.specs.Pages.{Book}
use Rattle.urpf_base.specs.declared.kinds.Kind.{Kind}
use Rattle.cover_table.specs.declared.batch.Batch.{Batch}
use Rattle.forward_worker.specs.declared.desk.Stop.{Stop}
use Rattle.forward_worker.specs.declared.desk.Stop.TheVariants as stop
use Rattle.forward_worker.specs.Answers.{AreAnswered}
use Rattle.forward_worker.specs.Rounds.{IsRound}
use Rattle.forward_worker.proofs.Answering.{answered_longer}
use Rattle.live_rounds.specs.Rows.{AreJudged, final_row}
use Rattle.live_rounds.specs.Stations.{IsFine, IsReady, IsTold, Settled, Worked, WorkedRound, station_of}
use Rattle.live_rounds.specs.declared.worker.TheConstants.{RECORD_LIMIT}
use Rattle.live_rounds.specs.declared.worker.Worker.{Worker}
use Rattle.live_rounds.proofs.Judging.{known_judged, unknown_judged}

-- ---- facts of each worker

pub all_of : {X : Type 0} (P Q : X → Type 0) → ((x : X) → P x → Q x) → (xs : List X) → AllByRecursion P xs → All Q xs
all_of P Q one [] all = All-nil Q
all_of P Q one (x ∷ xs) all = All-cons Q x xs (one x all.0) (all_of P Q one xs all.1)

pub each_of : {X : Type 0} (P Q : X → Type 0) → ((x : X) → P x → Q x) → (xs : List X) → AllByRecursion P xs
    → AllByRecursion Q xs
each_of P Q one [] all = tt
each_of P Q one (x ∷ xs) all = (one x all.0, each_of P Q one xs all.1)

pub zip_at : {X : Type 0} (R : X → X → Type 0) (xs ys : List X) → length ys ≡ length xs
    → ((i : ℕ) (d : X) → i < length xs → R (slice_index_or xs i d) (slice_index_or ys i d)) → AllZip R xs ys
zip_at R [] [] len at = tt
zip_at R [] (y ∷ ys) len at = absurd (omega (arith, len))
zip_at R (x ∷ xs) [] len at = absurd (omega (arith, len))
zip_at R (x ∷ xs) (y ∷ ys) len at =
    (at zero x (omega arith), zip_at R xs ys (omega (arith, len)) (λ i d below. at (suc i) d (omega (arith, below))))

-- what one call left there
pub left_at : {X : Type 0} (R : X → X → Type 0) (x y a b : X) → a ≡ x → b ≡ y → R a b → R x y
left_at R x y a b old new r = subst (λ v. R x v) new (subst (λ u. R u b) old r)

-- a list that was lent whole and came back
pub came_back : {X : Type 0} (n : ℕ) (xs ys : List X) → length xs ≡ n → length ys ≡ length xs
    → take n (ys ++ drop (length ys) xs) ≡ ys
came_back n xs ys len same =
    let all : length ys ≡ n = same ∙ len in
    let none : drop (length ys) xs ≡ [] = drop_all (length ys) xs (omega arith) in
    ap (λ l. take n (ys ++ l)) none
    ∙ (ap (λ l. take n l) (append-nil ys) ∙ (ap (λ k. take k ys) (sym all) ∙ take-length ys))

prefix_le : {A : Type 0} (xs ys : List A) → IsPrefix xs ys → length xs ≤ length ys
prefix_le xs ys p = omega (arith, ap length p.1, length-append xs p.0)

module _ {S P : Type 0} (identity : S → Option Book) (opening : S → List (ℕ × Kind)) (list : S → List Batch)
    (left : P → Option (List ℕ)) where
  -- ---- one worker

  -- the round is that of the desk and the source as they are left
  round_settled : (stop_at : Stop) (batches : List Batch) (old mid new : Worker S P)
      → Worked identity opening list left stop_at old mid → Settled identity opening list left batches mid new
      → IsRound stop_at old.desk new.desk (left old.packets) (left new.packets) [] new.rows new.outcome
  round_settled stop_at batches old mid new w s =
      rw (s.desk, s.packets, s.rows, s.outcome) w.round

  -- what it keeps of the list that it was told of
  answered_settled : (stop_at : Stop) (kinds : List (ℕ × Kind)) (batches : List Batch) (old mid new : Worker S P)
      → Worked identity opening list left stop_at old mid → Settled identity opening list left batches mid new
      → opening old.place ≡ kinds
      → AreAnswered kinds (list new.place) (length (list old.place)) new.rows
  answered_settled stop_at kinds batches old mid new w s is =
      subst (λ rows. AreAnswered kinds (list new.place) (length (list old.place)) rows) (sym s.rows)
      (subst (λ k. AreAnswered k (list new.place) (length (list old.place)) mid.rows) (w.same_opening ∙ is)
      (answered_longer (opening mid.place) (list mid.place) (list new.place) (length (list old.place)) mid.rows s.grows
      w.answered))

  told_judged : (stop_at : Stop) (kinds : List (ℕ × Kind)) (low batches : List Batch) (old mid new : Worker S P)
      → Worked identity opening list left stop_at old mid → Settled identity opening list left batches mid new
      → IsPrefix low batches → ¬ (identity new.place ≡ None)
      → IsTold (identity old.place) (opening old.place) (list old.place) kinds low
      → (identity new.place ≡ None) ⊎ IsPrefix batches (list new.place)
      → AreJudged kinds batches (length low) (map (final_row true kinds batches) new.rows)
  told_judged stop_at kinds low batches old mid new w s grows some (inl none) follows =
      absurd (some (s.same_identity ∙ (w.same_identity ∙ none)))
  told_judged stop_at kinds low batches old mid new w s grows some (inr told) (inl none) = absurd (some none)
  told_judged stop_at kinds low batches old mid new w s grows some (inr told) (inr follows) =
      known_judged kinds batches (list new.place) follows new.rows (length low) (length (list old.place))
      (prefix_le low (list old.place) told.1) (prefix_le low batches grows)
      (answered_settled stop_at kinds batches old mid new w s told.0)

  judged_by : (stop_at : Stop) (kinds : List (ℕ × Kind)) (low batches : List Batch) (old mid new : Worker S P)
      (known : Bool) → (known ≡ true → ¬ (identity new.place ≡ None))
      → Worked identity opening list left stop_at old mid → Settled identity opening list left batches mid new
      → IsPrefix low batches → IsTold (identity old.place) (opening old.place) (list old.place) kinds low
      → AreJudged kinds batches (length low) (map (final_row known kinds batches) new.rows)
  judged_by stop_at kinds low batches old mid new true some w s grows told =
      told_judged stop_at kinds low batches old mid new w s grows (some refl) told s.follows
  judged_by stop_at kinds low batches old mid new false some w s grows told =
      unknown_judged kinds batches (length low) new.rows (prefix_le low batches grows)

  -- a worker worked a round, was told of what was published and has no fault
  pub one_worked : (stop_at : Stop) (kinds : List (ℕ × Kind)) (low batches : List Batch) (old mid new : Worker S P)
      → Worked identity opening list left stop_at old mid → Settled identity opening list left batches mid new
      → IsPrefix low batches → IsReady identity opening list left kinds low old → IsFine new.outcome
      → WorkedRound stop_at kinds batches (length low) (station_of left old) (station_of left new)
  one_worked stop_at kinds low batches old mid new w s grows ready fine = record {
    round = round_settled stop_at batches old mid new w s;
    ended = rw (s.desk, s.outcome) w.ended;
    judged = judged_by stop_at kinds low batches old mid new new.known s.known w s grows ready.1;
    fine = fine;
  }

  told_on : (kinds : List (ℕ × Kind)) (low batches : List Batch) (old new : S) → identity new ≡ identity old
      → opening new ≡ opening old → IsTold (identity old) (opening old) (list old) kinds low
      → (identity new ≡ None) ⊎ IsPrefix batches (list new)
      → IsTold (identity new) (opening new) (list new) kinds batches
  told_on kinds low batches old new same_identity same_opening (inl none) follows = inl (same_identity ∙ none)
  told_on kinds low batches old new same_identity same_opening (inr told) (inl none) = inl none
  told_on kinds low batches old new same_identity same_opening (inr told) (inr follows) =
      inr (same_opening ∙ told.0, follows)

  -- a worker that was told is ready for the next round
  pub one_told : (kinds : List (ℕ × Kind)) (low batches : List Batch) (old new : Worker S P)
      → Settled identity opening list left batches old new → IsReady identity opening list left kinds low old
      → IsReady identity opening list left kinds batches new
  one_told kinds low batches old new s ready = (
    subst (λ desk. (desk.place ≤ desk.taken) × (desk.taken ≤ desk.limit) × (desk.limit ≤ RECORD_LIMIT)) (sym s.desk) ready.0,
    told_on kinds low batches old.place new.place s.same_identity s.same_opening ready.1 s.follows,
  )

  -- and so is one that worked before
  pub one_ready : (stop_at : Stop) (kinds : List (ℕ × Kind)) (low batches : List Batch) (old mid new : Worker S P)
      → Worked identity opening list left stop_at old mid → Settled identity opening list left batches mid new
      → IsReady identity opening list left kinds low old → IsReady identity opening list left kinds batches new
  one_ready stop_at kinds low batches old mid new w s ready = (
    subst (λ desk. (desk.place ≤ desk.taken) × (desk.taken ≤ desk.limit) × (desk.limit ≤ RECORD_LIMIT)) (sym s.desk) w.fit,
    told_on kinds low batches old.place new.place (s.same_identity ∙ w.same_identity) (s.same_opening ∙ w.same_opening)
        ready.1 s.follows,
  )

  -- behind the last round a worker is told first
  pub one_last : (kinds : List (ℕ × Kind)) (low batches : List Batch) (old told mid new : Worker S P)
      → Settled identity opening list left batches old told → Worked identity opening list left stop.End told mid
      → Settled identity opening list left batches mid new → IsReady identity opening list left kinds low old
      → IsFine new.outcome
      → WorkedRound stop.End kinds batches (length batches) (station_of left old) (station_of left new)
  one_last kinds low batches old told mid new first w s ready fine =
      let ends = one_worked stop.End kinds batches batches told mid new w s ([], append-nil batches)
      (one_told kinds low batches old told first ready) fine in record {
        round = rw (sym first.desk, sym first.packets) ends.round;
        ended = rw (sym first.desk) ends.ended;
        judged = ends.judged;
        fine = fine;
      }

  -- ---- all workers

  pub all_worked : (stop_at : Stop) (kinds : List (ℕ × Kind)) (low batches : List Batch)
      (olds mids news : List (Worker S P)) → AllZip (Worked identity opening list left stop_at) olds mids
      → AllZip (Settled identity opening list left batches) mids news → IsPrefix low batches
      → AllByRecursion (IsReady identity opening list left kinds low) olds → AllByRecursion (λ w. IsFine w.outcome) news
      → AllZip (WorkedRound stop_at kinds batches (length low)) (map (station_of left) olds) (map (station_of left) news)
  all_worked stop_at kinds low batches [] [] [] w s grows ready fine = tt
  all_worked stop_at kinds low batches [] [] (z ∷ zs) w s grows ready fine = absurd s
  all_worked stop_at kinds low batches [] (y ∷ ys) news w s grows ready fine = absurd w
  all_worked stop_at kinds low batches (x ∷ xs) [] news w s grows ready fine = absurd w
  all_worked stop_at kinds low batches (x ∷ xs) (y ∷ ys) [] w s grows ready fine = absurd s
  all_worked stop_at kinds low batches (x ∷ xs) (y ∷ ys) (z ∷ zs) w s grows ready fine = (
    one_worked stop_at kinds low batches x y z w.0 s.0 grows ready.0 fine.0,
    all_worked stop_at kinds low batches xs ys zs w.1 s.1 grows ready.1 fine.1,
  )

  pub all_ready : (stop_at : Stop) (kinds : List (ℕ × Kind)) (low batches : List Batch)
      (olds mids news : List (Worker S P)) → AllZip (Worked identity opening list left stop_at) olds mids
      → AllZip (Settled identity opening list left batches) mids news
      → AllByRecursion (IsReady identity opening list left kinds low) olds
      → AllByRecursion (IsReady identity opening list left kinds batches) news
  all_ready stop_at kinds low batches [] [] [] w s ready = tt
  all_ready stop_at kinds low batches [] [] (z ∷ zs) w s ready = absurd s
  all_ready stop_at kinds low batches [] (y ∷ ys) news w s ready = absurd w
  all_ready stop_at kinds low batches (x ∷ xs) [] news w s ready = absurd w
  all_ready stop_at kinds low batches (x ∷ xs) (y ∷ ys) [] w s ready = absurd s
  all_ready stop_at kinds low batches (x ∷ xs) (y ∷ ys) (z ∷ zs) w s ready = (
    one_ready stop_at kinds low batches x y z w.0 s.0 ready.0,
    all_ready stop_at kinds low batches xs ys zs w.1 s.1 ready.1,
  )

  pub all_told : (kinds : List (ℕ × Kind)) (low batches : List Batch) (olds news : List (Worker S P))
      → AllZip (Settled identity opening list left batches) olds news
      → AllByRecursion (IsReady identity opening list left kinds low) olds
      → AllByRecursion (IsReady identity opening list left kinds batches) news
  all_told kinds low batches [] [] s ready = tt
  all_told kinds low batches [] (z ∷ zs) s ready = absurd s
  all_told kinds low batches (x ∷ xs) [] s ready = absurd s
  all_told kinds low batches (x ∷ xs) (z ∷ zs) s ready =
      (one_told kinds low batches x z s.0 ready.0, all_told kinds low batches xs zs s.1 ready.1)

  pub all_last : (kinds : List (ℕ × Kind)) (low batches : List Batch) (olds tolds mids news : List (Worker S P))
      → AllZip (Settled identity opening list left batches) olds tolds
      → AllZip (Worked identity opening list left stop.End) tolds mids
      → AllZip (Settled identity opening list left batches) mids news
      → AllByRecursion (IsReady identity opening list left kinds low) olds → AllByRecursion (λ w. IsFine w.outcome) news
      → AllZip (WorkedRound stop.End kinds batches (length batches)) (map (station_of left) olds)
      (map (station_of left) news)
  all_last kinds low batches [] [] [] [] f w s ready fine = tt
  all_last kinds low batches [] [] [] (z ∷ zs) f w s ready fine = absurd s
  all_last kinds low batches [] [] (y ∷ ys) news f w s ready fine = absurd w
  all_last kinds low batches [] (t ∷ ts) mids news f w s ready fine = absurd f
  all_last kinds low batches (x ∷ xs) [] mids news f w s ready fine = absurd f
  all_last kinds low batches (x ∷ xs) (t ∷ ts) [] news f w s ready fine = absurd w
  all_last kinds low batches (x ∷ xs) (t ∷ ts) (y ∷ ys) [] f w s ready fine = absurd s
  all_last kinds low batches (x ∷ xs) (t ∷ ts) (y ∷ ys) (z ∷ zs) f w s ready fine = (
    one_last kinds low batches x t y z f.0 w.0 s.0 ready.0 fine.0,
    all_last kinds low batches xs ts ys zs f.1 w.1 s.1 ready.1 fine.1,
  )
