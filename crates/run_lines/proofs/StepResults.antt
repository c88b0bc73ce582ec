-- What the steps of a run that are no pulls give, and where they lead.
use Rattle.std.proofs.Common.{◌≡◌, ℕ, ◌+◌, false, List, [], ◌∷◌, ◌++◌, length, map, take, Some, refl, arith}
use Rattle.std.proofs.Common.{sym, ap, subst, ◌∙◌}
use Rattle.std.specs.List.{AllZip}
use Rattle.std.proofs.lemmas.List.{take_all, take_at}
use Rattle.std.proofs.lemmas.List.Sums.{sum_by-cons}
use Rattle.urpf_base.specs.declared.address.Addr.{Addr}
use Rattle.urpf_base.specs.declared.verdicts.Verdict.{Verdict}
use Rattle.adj_rib.specs.Routes.{prefixes_of}
use Rattle.report_text.specs.Lines.{check_line, publish_line, summary_line}
use Rattle.urpf_base.specs.declared.kinds.Kind.{Kind}
use Rattle.cover_table.specs.Judging.{judge}
use Rattle.cover_table.specs.Snapshots.{Publication}
use Rattle.cover_table.specs.declared.batch.Batch.{Batch}
use Rattle.origin_pairs.specs.Pairs.{IsPairSet}
use Rattle.router_config.proofs.Configured.{edited_kind_at}
use Rattle.router_config.specs.Configured.{IsConfigured}
use Rattle.router_config.specs.Settings.{Settings}
use Rattle.router_config.specs.declared.edits.Edit.{Edit}
use Rattle.session_fsm.specs.declared.items.Effect.{Effect}
use Rattle.control_core.specs.Controls.{AllStand, ControlStandsFor, Edits, Publishes, PublishesDifference}
use Rattle.control_core.specs.Controls.{items_of, position_of, route_count}
use Rattle.control_core.specs.Effects.{HoldsSoMany}
use Rattle.control_core.specs.States.{ControlState, PeerState}
use Rattle.control_core.specs.Worlds.{Course, IsWorldAt, Position, pairs_after}
use Rattle.control_core.proofs.Held.{holds_so_many}
use Rattle.control_core.proofs.Publications.{at_most_self}
use Rattle.control_core.proofs.Shown.{one_last, shown_verdict}
use Rattle.run_lines.specs.Inputs.{Input, Run, opening_of, pairs_in}
use Rattle.run_lines.specs.Places.{Place, Reached, mark_at, next_place}
use Rattle.run_lines.specs.Publications.{IsBatchAt}
use Rattle.run_lines.specs.RunText.{CheckGives, IsWorldOf, LeaveRoutes, PublishGives, SummaryGives}
use Rattle.run_lines.specs.Runs.{AreSessionsAt, IsAt, Serves, Shows}
use Rattle.run_lines.specs.Slots.{Slot}
use Rattle.run_lines.specs.Steps.{change, publish, round}
use Rattle.run_lines.proofs.SessionsAt.{IsFront}
use Rattle.run_lines.proofs.WorldsOf.{fronts_at, mark_reached, mark_same, number_at, world_whole}

-- the batch of a publication
pub batch_at : (run : Run) (place : Place) (old new : ControlState) (rounds : ℕ) (slots : List Slot) (batch : Batch)
    → (s : IsAt run place old rounds slots) → Publishes old new batch
    → PublishesDifference (opening_of run) place.edits s.courses old batch → IsBatchAt run place batch
batch_at run place old new rounds slots batch s publishes d =
    let last : d.last ≡ place.mark = one_last old.marks d.earlier s.earlier d.last place.mark d.marks s.marks in
    let number : batch.number ≡ place.mark.number + 1 =
    publishes.number ∙ ap (λ (n : ℕ). n + 1) (number_at run place old rounds slots s) in
    let now : position_of old batch.number ≡ mark_at place (place.mark.number + 1) =
    mark_same run place old rounds slots batch.number s ∙ ap (mark_at place) number in
    record {
      number = number;
      old_kinds = d.kinds_before;
      old = d.before;
      was = world_whole run place old rounds slots place.mark d.kinds_before d.before s
          (mark_reached run place old rounds slots s)
          (subst (λ (mark : Position). IsWorldAt (opening_of run) place.edits s.courses mark d.kinds_before d.before)
          last d.was);
      new = d.after;
      is = subst (λ (mark : Position). IsWorldOf run place mark batch.kinds d.after) now
          (world_whole run place old rounds slots (position_of old batch.number) batch.kinds d.after s
          (at_most_self (items_of old.peers)) d.is);
      difference = d.difference;
    }

-- what a publication gives
pub published_gives : (run : Run) (place : Place) (old new : ControlState) (rounds : ℕ)
    (slots : List Slot) (batch : Batch) (text : List ℕ)
    → (s : IsAt run place old rounds slots) → Publishes old new batch
    → PublishesDifference (opening_of run) place.edits s.courses old batch
    → text ≡ publish_line batch.number old.edits (length batch.changes) (items_of old.peers)
    → PublishGives run place text
published_gives run place old new rounds slots batch text s publishes d is =
    let b = batch_at run place old new rounds slots batch s publishes d in
    let now : position_of old batch.number ≡ mark_at place (place.mark.number + 1) =
    mark_same run place old rounds slots batch.number s ∙ ap (mark_at place) b.number in
    let cells : ℕ = length batch.changes in
    record {
      old_kinds = b.old_kinds;
      old = b.old;
      was = b.was;
      new_kinds = batch.kinds;
      new = b.new;
      is = b.is;
      changes = batch.changes;
      difference = b.difference;
      same = is ∙ ap (λ (n : ℕ). publish_line n old.edits cells (items_of old.peers)) b.number
          ∙ ap (λ (n : ℕ). publish_line (place.mark.number + 1) n cells (items_of old.peers)) s.stands.counted
          ∙ ap (λ (mark : Position). publish_line (place.mark.number + 1) (length place.edits) cells mark.items) now;
    }

-- and where it leads
pub published_at : (run : Run) (place : Place) (old new : ControlState) (rounds : ℕ)
    (slots : List Slot) (batch : Batch)
    → (s : IsAt run place old rounds slots) → Publishes old new batch
    → ControlStandsFor (opening_of run) place.edits s.courses new → new.exhausted ≡ false
    → IsAt run (next_place run.inputs publish place) new rounds slots
published_at run place old new rounds slots batch s publishes stands able =
    let number : batch.number ≡ place.mark.number + 1 =
    publishes.number ∙ ap (λ (n : ℕ). n + 1) (number_at run place old rounds slots s) in
    record {
      whole = s.whole;
      courses = s.courses;
      stands = stands;
      sessions = subst (λ (ps : List PeerState). AreSessionsAt run.inputs place.sessions s.courses ps slots)
          (sym publishes.peers) s.sessions;
      earlier = old.marks;
      marks = publishes.marks
          ∙ ap (λ (mark : Position). old.marks ++ mark ∷ [])
          (mark_same run place old rounds slots batch.number s ∙ ap (mark_at place) number);
      limits = publishes.limits ∙ s.limits;
      able = able;
      ended = s.ended;
    }

-- what a check gives
pub check_gives : (run : Run) (place : Place) (control : ControlState) (rounds : ℕ)
    (slots : List Slot) (iface : ℕ) (addr : Addr) (shown : Publication) (text : List ℕ)
    → IsAt run place control rounds slots → Shows run place control shown
    → text ≡ check_line iface addr (judge shown iface (Some addr)) shown.number
    → CheckGives run place iface addr text
check_gives run place control rounds slots iface addr shown text s shows is =
    let marked : s.stands.last ≡ place.mark =
    one_last control.marks s.stands.earlier s.earlier s.stands.last place.mark s.stands.marks s.marks in
    let last : shows.last ≡ place.mark =
    one_last control.marks shows.earlier s.earlier shows.last place.mark shows.marks s.marks in
    let verdict : Verdict = judge shown iface (Some addr) in
    record {
      kinds = s.stands.marked_kinds;
      world = s.stands.marked;
      is = world_whole run place control rounds slots place.mark s.stands.marked_kinds s.stands.marked s
          (mark_reached run place control rounds slots s)
          (subst (λ (mark : Position). IsWorldAt (opening_of run) place.edits s.courses mark s.stands.marked_kinds
          s.stands.marked) marked s.stands.is_marked);
      verdict = verdict;
      judges = shown_verdict (opening_of run) place.edits s.courses control shown s.stands shows iface (Some addr);
      same = is
          ∙ ap (λ (n : ℕ). check_line iface addr verdict n) (shows.number ∙ ap (λ (mark : Position). mark.number) last);
    }

-- the routes that the sessions have are those that their items leave
leave_routes : (inputs : List Input) (sessions : List Reached) (courses : List Course) (peers : List PeerState)
    (slots : List Slot) → AllZip IsFront courses inputs
    → AreSessionsAt inputs sessions courses peers slots → AllStand courses peers
    → LeaveRoutes inputs sessions (route_count peers)
leave_routes [] [] [] [] [] fronts are stand = refl
leave_routes [] [] [] [] (l ∷ slots) fronts are stand = absurd are
leave_routes [] [] [] (p ∷ peers) slots fronts are stand = absurd are
leave_routes [] [] (c ∷ courses) peers slots fronts are stand = absurd are
leave_routes [] (a ∷ sessions) courses peers slots fronts are stand = absurd are
leave_routes (i ∷ inputs) [] courses peers slots fronts are stand = absurd are
leave_routes (i ∷ inputs) (a ∷ sessions) [] peers slots fronts are stand = absurd are
leave_routes (i ∷ inputs) (a ∷ sessions) (c ∷ courses) [] slots fronts are stand = absurd are
leave_routes (i ∷ inputs) (a ∷ sessions) (c ∷ courses) (p ∷ peers) [] fronts are stand = absurd are
leave_routes (i ∷ inputs) (a ∷ sessions) (c ∷ courses) (p ∷ peers) (l ∷ slots) fronts are stand =
    let front : take a.taken i.course.effects ≡ c.effects =
    ap (take a.taken) fronts.0.front.parts ∙ take_at c.effects fronts.0.front.later a.taken (sym are.0.taken) in (
      length (prefixes_of p.routes),
      route_count peers,
      subst (λ (es : List Effect). HoldsSoMany es (length (prefixes_of p.routes))) (sym front)
          (holds_so_many c.effects p.routes stand.1.routes),
      leave_routes inputs sessions courses peers slots fronts.1 are.1 stand.2,
      sum_by-cons (λ (n : ℕ). n) (length (prefixes_of p.routes))
          (map (λ (p : PeerState). length (prefixes_of p.routes)) peers),
    )

-- what a summary gives
pub summary_gives : (run : Run) (place : Place) (control : ControlState) (rounds : ℕ)
    (slots : List Slot) (text : List ℕ) → IsAt run place control rounds slots
    → text ≡ summary_line (route_count control.peers) (length control.engine.world.pairs)
    → SummaryGives run place text
summary_gives run place control rounds slots text s is = record {
  count = route_count control.peers;
  left = leave_routes run.inputs place.sessions s.courses control.peers slots
      (fronts_at run place control rounds slots s) s.sessions s.stands.stand;
  pairs = control.engine.world.pairs;
  set = subst (λ (edits : List Edit). IsPairSet (pairs_after edits (pairs_in run.table)) control.engine.world.pairs)
      (ap (λ (n : ℕ). take n place.edits) s.stands.counted ∙ take_all (length place.edits) place.edits (omega arith))
      s.stands.now.pairs;
  same = is;
}

-- where an edit leads
pub changed_at : (run : Run) (place : Place) (edit : Edit) (old new : ControlState) (rounds : ℕ)
    (slots : List Slot) → (s : IsAt run place old rounds slots) → Edits edit old new
    → ControlStandsFor (opening_of run) (place.edits ++ edit ∷ []) s.courses new → new.exhausted ≡ false
    → IsAt run (next_place run.inputs (change edit) place) new rounds slots
changed_at run place edit old new rounds slots s edits stands able = record {
  whole = s.whole;
  courses = s.courses;
  stands = stands;
  sessions = subst (λ (ps : List PeerState). AreSessionsAt run.inputs place.sessions s.courses ps slots)
      (sym edits.peers) s.sessions;
  earlier = s.earlier;
  marks = edits.published.marks ∙ s.marks;
  limits = edits.published.limits ∙ s.limits;
  able = able;
  ended = s.ended;
}

-- where the end of a round leads
pub round_at : (run : Run) (place : Place) (control : ControlState) (rounds next : ℕ)
    (slots : List Slot) → IsAt run place control rounds slots → next ≡ rounds + 1
    → IsAt run (next_place run.inputs round place) control next slots
round_at run place control rounds next slots s is = record {
  whole = s.whole;
  courses = s.courses;
  stands = s.stands;
  sessions = s.sessions;
  earlier = s.earlier;
  marks = s.marks;
  limits = s.limits;
  able = s.able;
  ended = is ∙ ap (λ (n : ℕ). n + 1) s.ended;
}

-- a control goes on to serve a configuration after an edit
pub serves_edited : (config : Settings) (edit : Edit) (old new : ControlState) → Serves config old
    → Edits edit old new → Serves config new
serves_edited config edit old new serves edits = record {
  sessions = ap length edits.peers ∙ serves.sessions;
  few = serves.few;
  interfaces = λ iface is. subst (λ (rows : List (ℕ × Kind)). IsConfigured rows iface) (sym edits.kinds)
      (edited_kind_at edit old.kinds iface (serves.interfaces iface is));
}
