-- Each step has a text at each place, so each run has one.
use Rattle.std.proofs.Common.{ℕ, ◌+◌, List, [], ◌∷◌, ◌++◌, length, take, slice_get, Some, refl}
use Rattle.std.specs.List.{concat}
use Rattle.urpf_base.specs.declared.address.Addr.{Addr}
use Rattle.rpf_plain.proofs.Differing.{some_difference}
use Rattle.rpf_plain.proofs.Verdicts.{some_verdict}
use Rattle.runbook.specs.declared.lines.BookLine.{BookLine}
use Rattle.report_text.specs.Lines.{check_line, done_line, publish_line, round_line, summary_line}
use Rattle.control_core.specs.Worlds.{pairs_after}
use Rattle.control_core.proofs.SomeRun.{all_listed}
use Rattle.origin_pairs.proofs.Sets.{some_set}
use Rattle.run_lines.specs.Inputs.{Input, Run, courses_of, opening_of, pairs_in, skipped_in}
use Rattle.run_lines.specs.Places.{Place, Reached, items_at, mark_at, next_place, opening, reached_at}
use Rattle.run_lines.specs.RunText.{CheckGives, GiveAll, Gives, IsHead, IsRunText, LeaveRoutes, PublishGives}
use Rattle.run_lines.specs.RunText.{head_text, last_place, pull_text_of, steps_for}
use Rattle.run_lines.specs.declared.run.Totals.{Totals}
use Rattle.run_lines.specs.Steps.{Step, pull, publish, round, check, change, summary}
use Rattle.run_lines.proofs.SomeWorld.{some_world}

some_publication : (run : Run) (place : Place) → (text : List ℕ) × PublishGives run place text
some_publication run place =
    let number : ℕ = place.mark.number + 1 in
    let (old_kinds, old, was) = some_world (opening_of run) place.edits (courses_of run) place.mark in
    let (new_kinds, new, is) = some_world (opening_of run) place.edits (courses_of run) (mark_at place number) in
    let (changes, difference) = some_difference old new in (
      publish_line number (length place.edits) (length changes) (items_at place),
      record {
        old_kinds = old_kinds;
        old = old;
        was = was;
        new_kinds = new_kinds;
        new = new;
        is = is;
        changes = changes;
        difference = difference;
        same = refl;
      },
    )

some_check : (run : Run) (place : Place) (iface : ℕ) (addr : Addr)
    → (text : List ℕ) × CheckGives run place iface addr text
some_check run place iface addr =
    let (kinds, world, is) = some_world (opening_of run) place.edits (courses_of run) place.mark in
    let (verdict, judges) = some_verdict kinds world.rows world.pairs iface (Some addr) in (
      check_line iface addr verdict place.mark.number,
      record { kinds = kinds; world = world; is = is; verdict = verdict; judges = judges; same = refl },
    )

some_left : (inputs : List Input) (sessions : List Reached) → (count : ℕ) × LeaveRoutes inputs sessions count
some_left [] sessions = (0, refl)
some_left (input ∷ inputs) [] = (0, refl)
some_left (input ∷ inputs) (at ∷ sessions) =
    let own = all_listed (take at.taken input.course.effects) in
    let (others, left) = some_left inputs sessions in (
      length own.prefixes + others,
      (
        length own.prefixes,
        others,
        record { prefixes = own.prefixes; distinct = own.distinct; each = own.each; counted = refl },
        left,
        refl,
      ),
    )

-- each step has a text
pub some_gives : (run : Run) (place : Place) (step : Step) → (text : List ℕ) × Gives run place step text
some_gives run place (pull session count) =
    (pull_text_of session (slice_get run.inputs session) count (reached_at place session), refl)
some_gives run place publish = some_publication run place
some_gives run place round = (round_line (place.rounds + 1), refl)
some_gives run place (check iface addr) = some_check run place iface addr
some_gives run place (change edit) = ([], refl)
some_gives run place summary =
    let (count, left) = some_left run.inputs place.sessions in
    let (pairs, set) = some_set (pairs_after place.edits (pairs_in run.table)) in (
      summary_line count (length pairs),
      record { count = count; left = left; pairs = pairs; set = set; same = refl },
    )

-- so have all steps, one after the other
pub some_texts : (run : Run) (place : Place) (steps : List Step)
    → (texts : List (List ℕ)) × GiveAll run place steps texts
some_texts run place [] = ([], tt)
some_texts run place (step ∷ steps) =
    let (first, gives) = some_gives run place step in
    let (rest, give) = some_texts run (next_place run.inputs step place) steps in
    (first ∷ rest, (gives, give))

-- a run has a head
pub some_head : (run : Run) → (head : List ℕ) × IsHead run head
some_head run =
    let (set, is) = some_set (pairs_in run.table) in
    let totals : Totals = record {
      interfaces = length run.config.interfaces;
      sessions = length run.config.sessions;
      pairs = length set;
      skipped = skipped_in run.table;
    } in (
      head_text totals run.config.sessions,
      record {
        totals = totals;
        are = record { interfaces = refl; sessions = refl; set = set; is = is; pairs = refl; skipped = refl };
        same = refl;
      },
    )

-- a run with this head has a text
pub text_with : (run : Run) (lines : List BookLine) (head : List ℕ) → IsHead run head
    → (rest : List ℕ) × IsRunText run lines (head ++ rest)
text_with run lines head is =
    let (texts, given) = some_texts run (opening run.config.sessions) (steps_for run lines) in (
      concat texts ++ done_line (last_place run lines).mark.number 0,
      record { head = head; is_head = is; texts = texts; given = given; parts = refl },
    )

-- each run has one
pub some_text : (run : Run) (lines : List BookLine) → (text : List ℕ) × IsRunText run lines text
some_text run lines =
    let (head, is) = some_head run in
    let (rest, whole) = text_with run lines head is in
    (head ++ rest, whole)
