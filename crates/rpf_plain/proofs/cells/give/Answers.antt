use Rattle.std.proofs.Common.{◌≡◌, ◌⊎◌, ◌↔◌, inl, inr, IsTrue, false, ap, subst, ◌∙◌}
use Rattle.std.proofs.lemmas.Bool.{cases_Bool}
use Rattle.urpf_base.specs.Masks.{InMask}
use Rattle.urpf_base.specs.declared.cells.Cell.{Cell}
use Rattle.urpf_base.proofs.Members.{masks_same}
use Rattle.rpf_plain.specs.Cells.{cell_at, empty_cell}
use Rattle.rpf_plain.proofs.Tables.{either_at, filled_at, kept_at}
use Rattle.rpf_plain.proofs.Turns.{both, no_member, sides}
use Rattle.rpf_plain.proofs.cells.give.Goals as goal

pub returns-clause-f : goal.returns-clause-f
returns-clause-f c =
    kept_at c.args.cells.now c.set.new.self c.args.prefix c.with_given-next.result c.in-Ok.ensures.ok (λ x. x.f)
    (c.with_given-next.ensures.f ∙ ap (λ (x : Cell). x.f) c.cell_of-cell.ensures)

pub returns-clause-a : goal.returns-clause-a
returns-clause-a c p i =
    let old = c.args.cells.now in
    let next = c.with_given-next.result in
    let given = c.intersection-given.result in
    let more : InMask next.a i ↔ (InMask (cell_at old c.args.prefix).a i ⊎ InMask given i) =
    subst (λ (x : Cell). InMask next.a i ↔ (InMask x.a i ⊎ InMask given i)) c.cell_of-cell.ensures
    (c.with_given-next.ensures.a i) in
    either_at old c.set.new.self c.args.prefix next c.in-Ok.ensures.ok (λ x. InMask x.a i)
    (InMask c.args.customers i × InMask c.args.reach.own i)
    (both more (sides (λ h. h, λ h. h) (c.intersection-given.ensures i))) p

pub returns-clause-z : goal.returns-clause-z
returns-clause-z c p =
    let old = c.args.cells.now in
    let next = c.with_given-next.result in
    let Says : Type 0 = IsTrue c.args.reach.in_set_a in
    let more : IsTrue next.z ↔ (IsTrue (cell_at old c.args.prefix).z ⊎ Says) =
    subst (λ (x : Cell). IsTrue next.z ↔ (IsTrue x.z ⊎ Says)) c.cell_of-cell.ensures c.with_given-next.ensures.z in
    either_at old c.set.new.self c.args.prefix next c.in-Ok.ensures.ok (λ x. IsTrue x.z) Says more p

pub returns-clause-filled : goal.returns-clause-filled
returns-clause-filled c =
    let next = c.with_given-next.result in
    let given = c.intersection-given.result in
    filled_at c.args.cells.now c.set.new.self c.args.prefix next c.in-Ok.ensures.ok
    (λ (e : next ≡ empty_cell).
    let none : given ≡ 0 = masks_same given 0 (λ i. (
      λ h. absurd (no_member i
          (subst (λ (x : Cell). InMask x.a i) e ((c.with_given-next.ensures.a i).1 (inr h)))),
      λ h. absurd (no_member i h),
    )) in
    elim (cases_Bool c.args.reach.in_set_a) [
      | inl there ↦
          let no : IsTrue false = subst (λ (x : Cell). IsTrue x.z) e (c.with_given-next.ensures.z.1 (inr there)) in
          absurd cc
      | inr no_z ↦ let no = c.if-adds_nothing.ensures.1 (none, no_z) in absurd cc
    ])
