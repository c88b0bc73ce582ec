use Rattle.control_core.proofs.Shown.{shown_edited, shown_kept, shown_opened, shown_published, shown_verdict}
use Rattle.control_core.proofs.batch_laws.shown_laws.Goals as goal

pub returns-clause-opened : goal.returns-clause-opened
returns-clause-opened c = shown_opened

pub returns-clause-kept : goal.returns-clause-kept
returns-clause-kept c = shown_kept

pub returns-clause-edited : goal.returns-clause-edited
returns-clause-edited c = shown_edited

pub returns-clause-published : goal.returns-clause-published
returns-clause-published c = shown_published

pub returns-clause-verdict : goal.returns-clause-verdict
returns-clause-verdict c = shown_verdict
