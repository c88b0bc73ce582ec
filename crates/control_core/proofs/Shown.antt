-- What shows the last mark of a control, and judges by it.
use Rattle.std.proofs.Common.{◌≡◌, ℕ, List, [], ◌∷◌, ◌++◌, take, Option, Some, None, unwrap_or}
use Rattle.std.proofs.Common.{refl, sym, ap, subst, ◌∙◌, arith}
use Rattle.std.proofs.lemmas.List.{take-append-le}
use Rattle.urpf_base.specs.Address.{Block}
use Rattle.urpf_base.specs.declared.address.Addr.{Addr}
use Rattle.cover_table.specs.Judging.{judge}
use Rattle.cover_table.specs.Snapshots as snapshots
use Rattle.cover_table.specs.Snapshots.{Publication, step}
use Rattle.cover_table.specs.Tables.{taken_over}
use Rattle.cover_table.specs.declared.batch.Batch.{Batch}
use Rattle.prefix_map.specs.Mapped.{Mapped}
use Rattle.router_config.specs.declared.edits.Edit.{Edit}
use Rattle.rpf_plain.proofs.Differing.{difference_is}
use Rattle.rpf_plain.proofs.Drained.{one_cell}
use Rattle.rpf_plain.specs.Cells.{IsCell, IsTable, cell_at}
use Rattle.rpf_plain.specs.Modes.{IsVerdict}
use Rattle.rpf_plain.specs.World.{World, world_for}
use Rattle.control_core.specs.Batches.{Mark}
use Rattle.control_core.specs.Controls.{ControlStandsFor, IsOpened, IsShown, KeepsPublished, Publishes, first_mark}
use Rattle.control_core.specs.Controls.{position_of}
use Rattle.control_core.specs.States.{ControlState}
use Rattle.control_core.specs.Worlds.{Course, Opening, Position, kinds_after}
use Rattle.control_core.specs.declared.limits.Limits.{Limits}
use Rattle.control_core.proofs.BatchWorlds.{cell_then, verdict_of}
use Rattle.control_core.proofs.Opened.{empty_base}

abbrev last_of : List Position → Option Position
last_of [] = None
last_of (mark ∷ []) = Some mark
last_of (mark ∷ next ∷ marks) = last_of (next ∷ marks)

last_of-push : (marks : List Position) (mark : Position) → last_of (marks ++ mark ∷ []) ≡ Some mark
last_of-push [] mark = refl
last_of-push (m ∷ []) mark = refl
last_of-push (m ∷ n ∷ marks) mark = last_of-push (n ∷ marks) mark

-- marks have one last mark
pub one_last : (marks a b : List Position) (x y : Position) → marks ≡ a ++ x ∷ [] → marks ≡ b ++ y ∷ [] → x ≡ y
one_last marks a b x y first second =
    ap (λ (o : Option Position). unwrap_or o x)
    (sym (last_of-push a x) ∙ ap last_of (sym first ∙ second) ∙ last_of-push b y)

pub shown_opened : (opening : Opening) (limits : Limits) (control : ControlState) → IsOpened opening limits control
    → IsShown opening [] control (snapshots.opening opening.settings.interfaces)
shown_opened opening limits control opened = record {
  earlier = [];
  last = first_mark opening.settings.sessions;
  marks = opened.marks;
  number = refl;
  kinds = refl;
  cells = λ p. ap (λ (t : Mapped _). cell_at t p) (sym (empty_base opening limits control opened));
}

pub shown_kept : (opening : Opening) (edits : List Edit) (old new : ControlState) (shown : Publication)
    → KeepsPublished old new → IsShown opening edits old shown → IsShown opening edits new shown
shown_kept opening edits old new shown keeps is = record {
  earlier = is.earlier;
  last = is.last;
  marks = keeps.marks ∙ is.marks;
  number = is.number;
  kinds = is.kinds;
  cells = λ p. is.cells p ∙ ap (λ (t : Mapped _). cell_at t p) (sym keeps.base);
}

pub shown_edited : (opening : Opening) (edits : List Edit) (courses : List Course) (edit : Edit) (old new : ControlState)
    (shown : Publication) → ControlStandsFor opening edits courses old → KeepsPublished old new
    → IsShown opening edits old shown → IsShown opening (edits ++ edit ∷ []) new shown
shown_edited opening edits courses edit old new shown stands keeps is =
    let same : stands.last ≡ is.last =
    one_last old.marks stands.earlier is.earlier stands.last is.last stands.marks is.marks in
    let fewer = ap (λ (mark : Position). mark.edits) same in
    let edits_then : take is.last.edits (edits ++ edit ∷ []) ≡ take is.last.edits edits =
    take-append-le is.last.edits edits (edit ∷ []) (omega (arith, fewer, stands.reached.edits, stands.counted)) in
    record {
      earlier = is.earlier;
      last = is.last;
      marks = keeps.marks ∙ is.marks;
      number = is.number;
      kinds = is.kinds ∙ sym (ap (λ es. kinds_after es opening.settings.interfaces) edits_then);
      cells = λ p. is.cells p ∙ ap (λ (t : Mapped _). cell_at t p) (sym keeps.base);
    }

-- the cells of what shows the last mark are those of its world
shown_cells : (opening : Opening) (edits : List Edit) (courses : List Course) (control : ControlState)
    (shown : Publication) (stands : ControlStandsFor opening edits courses control) → IsShown opening edits control shown
    → (p : Block) → IsCell stands.marked p (cell_at shown.cells p)
shown_cells opening edits courses control shown stands is p =
    subst (IsCell stands.marked p) (sym (is.cells p)) (stands.base.cells p)

pub shown_published : (opening : Opening) (edits : List Edit) (courses : List Course) (old new : ControlState)
    (batch : Batch) (shown : Publication) → ControlStandsFor opening edits courses old → Publishes old new batch
    → IsShown opening edits old shown → IsShown opening edits new (step shown batch)
shown_published opening edits courses old new batch shown stands publishes is =
    let world = old.engine.world in
    let difference = difference_is stands.marked world old.engine.base batch.changes stands.base publishes.changed in
    let table : IsTable world new.engine.base =
    subst (λ (w : World). IsTable w new.engine.base) publishes.drained.world publishes.drained.base in
    record {
      earlier = old.marks;
      last = position_of old batch.number;
      marks = publishes.marks;
      number = refl;
      kinds = publishes.interfaces ∙ stands.now.edited;
      cells = λ p. one_cell world p (cell_at (taken_over batch.changes shown.cells) p) (cell_at new.engine.base p)
          (cell_then stands.marked world shown.cells batch.changes p
          (shown_cells opening edits courses old shown stands is p) difference)
          (table.cells p);
    }

pub shown_verdict : (opening : Opening) (edits : List Edit) (courses : List Course) (control : ControlState)
    (shown : Publication) (stands : ControlStandsFor opening edits courses control) → IsShown opening edits control shown
    → (iface : ℕ) (source : Option Addr)
    → IsVerdict stands.marked_kinds stands.marked.rows stands.marked.pairs iface source (judge shown iface source)
shown_verdict opening edits courses control shown stands is iface source =
    let mark : Mark = record {
      kinds = stands.marked_kinds;
      rows = stands.marked.rows;
      pairs = stands.marked.pairs;
    } in
    let w : World = world_for stands.marked_kinds stands.marked.rows stands.marked.pairs in
    let same_world : stands.marked ≡ w = λ i. record {
      rows = stands.marked.rows;
      roles = stands.is_marked.roles i;
      pairs = stands.marked.pairs;
    } in
    let last : is.last ≡ stands.last =
    one_last control.marks is.earlier stands.earlier is.last stands.last is.marks stands.marks in
    let kinds : shown.kinds ≡ stands.marked_kinds =
    is.kinds ∙ ap (λ (m : Position). kinds_after (take m.edits edits) opening.settings.interfaces) last
    ∙ sym stands.is_marked.edited in
    verdict_of mark shown
    (record {
      kinds = kinds;
      cells = λ p. subst (λ (v : World). IsCell v p (cell_at shown.cells p)) same_world
          (shown_cells opening edits courses control shown stands is p);
    })
    iface source
