use Rattle.std.proofs.Common.{◌∙◌, ℕ, [], ap, map, refl}
use Rattle.urpf_base.specs.declared.kinds.Kind.{Kind}
use Rattle.control_core.proofs.PullLaws.{appends_none}
use Rattle.run_lines.specs.Inputs.{opening_of}
use Rattle.run_lines.specs.Steps.{change}
use Rattle.run_lines.proofs.Emptied.{emptied_at}
use Rattle.run_lines.proofs.InStep.{edited_names}
use Rattle.run_lines.proofs.StepResults.{changed_at, serves_edited}
use Rattle.run_lines.proofs.Written.{step_starved}
use Rattle.run_lines.proofs.run_line.change.Goals as goal

pub returns-in-Ok-clause-ran : goal.returns-in-Ok-clause-ran
returns-in-Ok-clause-ran g c = λ run place rounds slots held s. (
  record { text = []; is = refl; appended = appends_none held },
  changed_at run place c.args.edit.now c.args.control.now c.edit.new.self rounds slots s c.in-Ok.ensures.ok
      (c.in-Ok.ensures.stands (opening_of run) place.edits s.courses s.stands) c.in-Ok.ensures.able.1,
)

pub returns-in-Err-clause-ran : goal.returns-in-Err-clause-ran
returns-in-Err-clause-ran g c = λ run place rounds slots held s.
    let now = emptied_at run place c.args.control.now rounds slots s in
    step_starved run place (change c.args.edit.now) c.edit.new.self rounds slots held now now

pub returns-in-Ok-clause-serves : goal.returns-in-Ok-clause-serves
returns-in-Ok-clause-serves g c = λ config serves.
    serves_edited config c.args.edit.now c.args.control.now c.edit.new.self serves c.in-Ok.ensures.ok

pub returns-in-Ok-clause-names : goal.returns-in-Ok-clause-names
returns-in-Ok-clause-names g c =
    ap (map (λ (row : ℕ × Kind). row.0)) c.in-Ok.ensures.ok.kinds ∙ edited_names c.args.edit.now c.args.control.now.kinds
