use Rattle.std.proofs.Common.{◌⊎◌, ◌↔◌, IsTrue, ap, subst, sym, ◌∙◌}
use Rattle.urpf_base.specs.Masks.{InMask}
use Rattle.urpf_base.specs.declared.cells.Cell.{Cell}
use Rattle.rpf_plain.specs.Cells.{cell_at}
use Rattle.rpf_plain.specs.Walks.{Admits}
use Rattle.rpf_plain.proofs.Tables.{either_at, filled_at, here, others}
use Rattle.rpf_plain.proofs.Turns.{some_cell}
use Rattle.rpf_plain.proofs.cells.admit.Goals as goal

pub returns-clause-f : goal.returns-clause-f
returns-clause-f c p same =
    ap (λ (x : Cell). x.f)
    (here c.args.cells.now.cells c.put.new.self.cells c.args.row.prefix _ c.in_ok-put.ensures.cells p same)
    ∙ c.widened-next.ensures.f

pub returns-clause-kept : goal.returns-clause-kept
returns-clause-kept c p other =
    others c.args.cells.now.cells c.put.new.self.cells c.args.row.prefix _ c.in_ok-put.ensures.cells p other

pub returns-clause-a : goal.returns-clause-a
returns-clause-a c p i =
    let old = c.args.cells.now.cells in
    let next = c.widened-next.result in
    let more : InMask next.a i ↔ (InMask (cell_at old c.args.row.prefix).a i ⊎ Admits c.args.reach c.args.customers i) =
    subst (λ (x : Cell). InMask next.a i ↔ (InMask x.a i ⊎ Admits c.args.reach c.args.customers i)) c.cell-cell.ensures
    (c.widened-next.ensures.a i) in
    either_at old c.put.new.self.cells c.args.row.prefix next c.in_ok-put.ensures.cells (λ x. InMask x.a i)
    (Admits c.args.reach c.args.customers i) more p

pub returns-clause-z : goal.returns-clause-z
returns-clause-z c p =
    let old = c.args.cells.now.cells in
    let next = c.widened-next.result in
    let Says : Type 0 = InMask c.args.customers c.args.row.iface ⊎ IsTrue c.args.reach.in_set_a in
    let more : IsTrue next.z ↔ (IsTrue (cell_at old c.args.row.prefix).z ⊎ Says) =
    subst (λ (x : Cell). IsTrue next.z ↔ (IsTrue x.z ⊎ Says)) c.cell-cell.ensures c.widened-next.ensures.z in
    either_at old c.put.new.self.cells c.args.row.prefix next c.in_ok-put.ensures.cells (λ x. IsTrue x.z) Says more p

pub returns-clause-filled : goal.returns-clause-filled
returns-clause-filled c =
    let next = c.widened-next.result in
    filled_at c.args.cells.now.cells c.put.new.self.cells c.args.row.prefix next c.in_ok-put.ensures.cells
    (some_cell next c.args.row.iface
    (subst (λ m. InMask m c.args.row.iface) (sym c.widened-next.ensures.f) c.requires.heard))
