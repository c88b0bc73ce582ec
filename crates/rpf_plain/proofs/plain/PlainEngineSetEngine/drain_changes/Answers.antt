use Rattle.std.proofs.Common.{subst, sym}
use Rattle.rpf_plain.specs.Cells.{AreChanges, IsTable}
use Rattle.rpf_plain.proofs.Drained.{are_changes, no_changes}
use Rattle.rpf_plain.proofs.plain.PlainEngineSetEngine.drain_changes.Goals as goal

pub returns-clause-changes : goal.returns-clause-changes
returns-clause-changes c =
    subst (λ e. AreChanges e.world e.base c.in_ok-changes.changes) c.self.view_is
    (are_changes _ c.self.inside.base c.in_ok-cells.cells c.in_ok-changes.changes c.in_ok-cells.ensures
    c.in_ok-changes.ensures)

pub returns-then-self-clause-changes : goal.returns-then-self-clause-changes
returns-then-self-clause-changes c =
    subst (AreChanges c.args.self.now.world c.args.self.now.base) (sym c.new.ensures)
    (no_changes c.args.self.now.world c.args.self.now.base
    (subst (λ e. IsTable e.world e.base) c.self.view_is (c.self.invariant c.if-self.true)))
