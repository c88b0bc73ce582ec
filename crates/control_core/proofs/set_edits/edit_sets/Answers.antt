use Rattle.std.proofs.lemmas.Result.{on_ok_weaker}
use Rattle.std.proofs.Common.{subst, sym}
use Rattle.rpf_plain.specs.Engine.{SetsRole}
use Rattle.router_config.specs.declared.edits.Edit.{Edit}
use Rattle.control_core.specs.Controls.{EditsSets}
use Rattle.control_core.proofs.Edited.{mode_leaves, role_edits}
use Rattle.control_core.proofs.set_edits.edit_sets.Goals as goal

pub returns-in-Role-clause-ok : goal.returns-in-Role-clause-ok
returns-in-Role-clause-ok g c =
    on_ok_weaker c.set_role.result
    (λ (sets : SetsRole c.in-Role.iface c.in-Role.role c.args.sets.now c.set_role.new.self).
    subst (λ (e : Edit). EditsSets e c.args.sets.now c.set_role.new.self) (sym c.in-Role.is)
    (role_edits c.in-Role.iface c.in-Role.role c.args.sets.now c.set_role.new.self sets)) c.set_role.ensures.ok

pub returns-in-Mode-clause-ok : goal.returns-in-Mode-clause-ok
returns-in-Mode-clause-ok g c =
    subst (λ (e : Edit). EditsSets e c.args.sets.now c.args.sets.now) (sym c.in-Mode.is)
    (mode_leaves c.in-Mode.field-0 c.in-Mode.field-1 c.args.sets.now)
