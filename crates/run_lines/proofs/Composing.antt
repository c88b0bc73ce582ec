-- What some steps of a run come to, out of what each of them comes to.
use Rattle.std.proofs.Common.{◌≡◌, ℕ, zero, suc, ◌+◌, ◌<◌, List, [], ◌∷◌, ◌++◌, Option}
use Rattle.std.proofs.Common.{Result, Ok, Err, refl, sym, ap, subst, ◌∙◌, ◌⊎◌, inl, inr, append_assoc, arith, add-one}
use Rattle.std.specs.List.{concat}
use Rattle.std.proofs.lemmas.List.{append-nil}
use Rattle.std.proofs.lemmas.List.Folds.{concat-append}
use Rattle.urpf_base.proofs.Growth.{Appends-append}
use Rattle.runbook.specs.declared.lines.BookLine.{BookLine}
use Rattle.control_core.specs.States.{ControlState}
use Rattle.control_core.specs.declared.limits.RunFault.{RunFault}
use Rattle.control_core.proofs.PullLaws.{appends_none}
use Rattle.run_lines.specs.Inputs.{Input, Run}
use Rattle.run_lines.specs.Places.{Place, next_place, place_after}
use Rattle.run_lines.specs.RunText.{GiveAll}
use Rattle.run_lines.specs.Runs.{AreTexts, IsAt, RanStep, RanSteps, StepStops, TookAll}
use Rattle.run_lines.specs.Slots.{Slot}
use Rattle.run_lines.specs.Steps.{Step, pull, pulls_of, steps_in, steps_of}
use Rattle.run_lines.proofs.SomeText.{some_texts}

pub place_after-append : (inputs : List Input) (first later : List Step) (place : Place)
    → place_after inputs (first ++ later) place ≡ place_after inputs later (place_after inputs first place)
place_after-append inputs [] later place = refl
place_after-append inputs (step ∷ first) later place =
    place_after-append inputs first later (next_place inputs step place)

-- the texts of steps, and of those behind them
give_append : (run : Run) (place : Place) (first later : List Step) (texts others : List (List ℕ))
    → GiveAll run place first texts → GiveAll run (place_after run.inputs first place) later others
    → GiveAll run place (first ++ later) (texts ++ others)
give_append run place [] later [] others given rest = rest
give_append run place [] later (t ∷ texts) others given rest = absurd given
give_append run place (step ∷ first) later [] others given rest = absurd given
give_append run place (step ∷ first) later (t ∷ texts) others given rest =
    (given.0, give_append run (next_place run.inputs step place) first later texts others given.1 rest)

-- one step is some steps
pub one_step : (run : Run) (place : Place) (step : Step) (result : Result (Unit {0}) RunFault)
    (control : ControlState) (rounds : ℕ) (slots : List Slot) (old new : Option (List ℕ))
    → RanStep run place step result control rounds slots old new
    → RanSteps run place (step ∷ []) result control rounds slots old new
one_step run place step (Ok done) control rounds slots old new ran = (
  record {
    text = ran.0.text;
    is = (ran.0.text ∷ [], (ran.0.is, tt), sym (append-nil ran.0.text));
    appended = ran.0.appended;
  },
  ran.1,
)
one_step run place step (Err fault) control rounds slots old new ran = (
  record {
    front = ran.0.front;
    more = ran.0.more;
    is = ((ran.0.front ++ ran.0.more) ∷ [], (ran.0.is, tt), sym (append-nil (ran.0.front ++ ran.0.more)));
    appended = ran.0.appended;
  },
  record {
    before = [];
    step = step;
    later = [];
    parts = refl;
    mid = old;
    took = record { text = []; is = ([], tt, refl); appended = appends_none old };
    stops = ran.1;
  },
)

-- no step writes nothing
pub no_steps : (run : Run) (place : Place) (control : ControlState) (rounds : ℕ) (slots : List Slot)
    (held : Option (List ℕ)) → IsAt run place control rounds slots
    → RanSteps run place [] (Ok tt) control rounds slots held held
no_steps run place control rounds slots held is =
    (record { text = []; is = ([], tt, refl); appended = appends_none held }, is)

-- texts that were taken, and those behind them
then_texts : (run : Run) (place : Place) (first later : List Step) (old mid new : Option (List ℕ))
    → TookAll (AreTexts run place first) old mid
    → TookAll (AreTexts run (place_after run.inputs first place) later) mid new
    → TookAll (AreTexts run place (first ++ later)) old new
then_texts run place first later old mid new a b = record {
  text = a.text ++ b.text;
  is = (
    a.is.0 ++ b.is.0,
    give_append run place first later a.is.0 b.is.0 a.is.1 b.is.1,
    ap (λ (t : List ℕ). t ++ b.text) a.is.2 ∙ ap (λ (t : List ℕ). concat a.is.0 ++ t) b.is.2
        ∙ sym (concat-append a.is.0 b.is.0),
  );
  appended = Appends-append old mid new a.text b.text a.appended b.appended;
}

-- steps that ended well, and those behind them
pub then_steps : (run : Run) (place : Place) (first later : List Step) (result : Result (Unit {0}) RunFault)
    (mid_control control : ControlState) (mid_rounds rounds : ℕ) (mid_slots slots : List Slot)
    (old mid new : Option (List ℕ))
    → RanSteps run place first (Ok tt) mid_control mid_rounds mid_slots old mid
    → RanSteps run (place_after run.inputs first place) later result control rounds slots mid new
    → RanSteps run place (first ++ later) result control rounds slots old new
then_steps run place first later (Ok done) mid_control control mid_rounds rounds mid_slots slots old mid new a b = (
  then_texts run place first later old mid new a.0 b.0,
  subst (λ (p : Place). IsAt run p control rounds slots) (sym (place_after-append run.inputs first later place)) b.1,
)
then_steps run place first later (Err fault) mid_control control mid_rounds rounds mid_slots slots old mid new a b = (
  record {
    front = a.0.text ++ b.0.front;
    more = b.0.more;
    is = (
      a.0.is.0 ++ b.0.is.0,
      give_append run place first later a.0.is.0 b.0.is.0 a.0.is.1 b.0.is.1,
      append_assoc a.0.text b.0.front b.0.more ∙ ap (λ (t : List ℕ). t ++ (b.0.front ++ b.0.more)) a.0.is.2
          ∙ ap (λ (t : List ℕ). concat a.0.is.0 ++ t) b.0.is.2 ∙ sym (concat-append a.0.is.0 b.0.is.0),
    );
    appended = Appends-append old mid new a.0.text b.0.front a.0.appended b.0.appended;
  },
  record {
    before = first ++ b.1.before;
    step = b.1.step;
    later = b.1.later;
    parts = ap (λ (ss : List Step). first ++ ss) b.1.parts
        ∙ sym (append_assoc first b.1.before (b.1.step ∷ b.1.later));
    mid = b.1.mid;
    took = then_texts run place first b.1.before old mid b.1.mid a.0 b.1.took;
    stops = subst (λ (p : Place). StepStops run p b.1.step slots fault b.1.mid new)
        (sym (place_after-append run.inputs first b.1.before place)) b.1.stops;
  },
)

-- steps that stopped are so also where others stand behind them
pub steps_stop : (run : Run) (place : Place) (first later : List Step) (fault : RunFault) (control : ControlState)
    (rounds : ℕ) (slots : List Slot) (old new : Option (List ℕ))
    → RanSteps run place first (Err fault) control rounds slots old new
    → RanSteps run place (first ++ later) (Err fault) control rounds slots old new
steps_stop run place first later fault control rounds slots old new a =
    let rest = some_texts run (place_after run.inputs first place) later in (
      record {
        front = a.0.front;
        more = a.0.more ++ concat rest.0;
        is = (
          a.0.is.0 ++ rest.0,
          give_append run place first later a.0.is.0 rest.0 a.0.is.1 rest.1,
          sym (append_assoc a.0.front a.0.more (concat rest.0))
              ∙ ap (λ (t : List ℕ). t ++ concat rest.0) a.0.is.2 ∙ sym (concat-append a.0.is.0 rest.0),
        );
        appended = a.0.appended;
      },
      record {
        before = a.1.before;
        step = a.1.step;
        later = a.1.later ++ later;
        parts = ap (λ (ss : List Step). ss ++ later) a.1.parts
            ∙ append_assoc a.1.before (a.1.step ∷ a.1.later) later;
        mid = a.1.mid;
        took = a.1.took;
        stops = a.1.stops;
      },
    )

-- a pull of one session among those of all
pub pulls_parted : (sessions session : ℕ) (count : Option ℕ) → session < sessions
    → (rest : List Step) × (pulls_of sessions count ≡ pulls_of session count ++ pull session count ∷ rest)
pulls_parted zero session count less = absurd (omega (arith, less))
pulls_parted (suc n) session count less = by_place (order session n) (λ below. pulls_parted n session count below)
  where
    order : (a b : ℕ) → (a ≡ b) ⊎ ((a < b) ⊎ (b < a))
    order a b = grind arith

    by_place : (session ≡ n) ⊎ ((session < n) ⊎ (n < session))
        → (session < n → (rest : List Step) × (pulls_of n count ≡ pulls_of session count ++ pull session count ∷ rest))
        → (rest : List Step) × (pulls_of (suc n) count ≡ pulls_of session count ++ pull session count ∷ rest)
    by_place (inl same) front =
        ([], ap (λ (k : ℕ). pulls_of k count ++ pull k count ∷ []) (sym same))
    by_place (inr (inl below)) front =
        let earlier = front below in (
          earlier.0 ++ pull n count ∷ [],
          ap (λ (ss : List Step). ss ++ pull n count ∷ []) earlier.1
              ∙ append_assoc (pulls_of session count) (pull session count ∷ earlier.0) (pull n count ∷ []),
        )
    by_place (inr (inr above)) front = absurd (omega (arith, less, above))

-- the steps of lines, and of those behind them
pub steps_of-append : (sessions : ℕ) (first later : List BookLine)
    → steps_of sessions (first ++ later) ≡ steps_of sessions first ++ steps_of sessions later
steps_of-append sessions [] later = refl
steps_of-append sessions (line ∷ first) later =
    ap (λ (ss : List Step). steps_in sessions line ++ ss) (steps_of-append sessions first later)
    ∙ sym (append_assoc (steps_in sessions line) (steps_of sessions first) (steps_of sessions later))

-- one session more was pulled
pub pulls_next : (run : Run) (place : Place) (session : ℕ) (count : Option ℕ) (mid_control control : ControlState)
    (mid_rounds rounds : ℕ) (mid_slots slots : List Slot) (old mid new : Option (List ℕ))
    → RanSteps run place (pulls_of session count) (Ok tt) mid_control mid_rounds mid_slots old mid
    → RanStep run (place_after run.inputs (pulls_of session count) place) (pull session count) (Ok tt) control rounds
    slots mid new
    → RanSteps run place (pulls_of (session + 1) count) (Ok tt) control rounds slots old new
pulls_next run place session count mid_control control mid_rounds rounds mid_slots slots old mid new first next =
    subst (λ (n : ℕ). RanSteps run place (pulls_of n count) (Ok tt) control rounds slots old new)
    (sym (add-one session))
    (then_steps run place (pulls_of session count) (pull session count ∷ []) (Ok tt) mid_control control mid_rounds
    rounds mid_slots slots old mid new first
    (one_step run (place_after run.inputs (pulls_of session count) place) (pull session count) (Ok tt) control rounds
    slots mid new next))

-- a session whose pull stopped, and those behind it
pub pull_among : (run : Run) (place : Place) (sessions session : ℕ) (count : Option ℕ) (fault : RunFault)
    (mid_control control : ControlState) (mid_rounds rounds : ℕ) (mid_slots slots : List Slot)
    (old mid new : Option (List ℕ)) → session < sessions
    → RanSteps run place (pulls_of session count) (Ok tt) mid_control mid_rounds mid_slots old mid
    → RanStep run (place_after run.inputs (pulls_of session count) place) (pull session count) (Err fault) control
    rounds slots mid new
    → RanSteps run place (pulls_of sessions count) (Err fault) control rounds slots old new
pull_among run place sessions session count fault mid_control control mid_rounds rounds mid_slots slots old mid new
    less first next =
    let parted = pulls_parted sessions session count less in
    let parts : pulls_of sessions count ≡ (pulls_of session count ++ pull session count ∷ []) ++ parted.0 =
    parted.1 ∙ sym (append_assoc (pulls_of session count) (pull session count ∷ []) parted.0) in
    subst (λ (ss : List Step). RanSteps run place ss (Err fault) control rounds slots old new) (sym parts)
    (steps_stop run place (pulls_of session count ++ pull session count ∷ []) parted.0 fault control rounds slots old
    new
    (then_steps run place (pulls_of session count) (pull session count ∷ []) (Err fault) mid_control control mid_rounds
    rounds mid_slots slots old mid new first
    (one_step run (place_after run.inputs (pulls_of session count) place) (pull session count) (Err fault) control
    rounds slots mid new next)))
