use Rattle.std.proofs.Common.{List, ℕ, sym, subst}
use Rattle.bgp_update.specs.Layout.{IsCounted}
use Rattle.bgp_update.proofs.layout.read_fields.Goals as goal

pub returns-in_default-clause-only : goal.returns-in_default-clause-only
returns-in_default-clause-only c withdrawn attributes nlri laid =
    c.in_default.ensures.only withdrawn laid.rest laid.first

pub returns-in_default-counted_field-clause-only : goal.returns-in_default-counted_field-clause-only
returns-in_default-counted_field-clause-only c withdrawn attributes nlri laid =
    let front = c.in-Some.ensures.only withdrawn laid.rest laid.first in
    c.in_default-counted_field.ensures.only attributes nlri
    (subst (λ (t : List ℕ). IsCounted t attributes nlri) (sym front.1) laid.second)

pub returns-clause-only : goal.returns-clause-only
returns-clause-only c withdrawn attributes nlri laid =
    let front = c.in-Some.ensures.only withdrawn laid.rest laid.first in
    let back =
    c.in-Some-counted_field.ensures.only attributes nlri
    (subst (λ (t : List ℕ). IsCounted t attributes nlri) (sym front.1) laid.second) in
    (front.0, back.0, back.1)
