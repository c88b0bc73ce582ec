use Rattle.std.proofs.Common.{◌≤◌, ap, subst, length, List}
use mathlib.Core.List.{IsPrefix}
use Rattle.cover_table.specs.declared.batch.Batch.{Batch}
use Rattle.epoch_publish.proofs.Beginnings.{prefix_shorter}
use Rattle.epoch_publish.proofs.history.Front.after.Goals as goal

pub returns : goal.returns
returns g c =
    let both = c.learn.new.self.log in
    let this : IsPrefix c.self.inside.seen.log both = subst (λ (l : List Batch). IsPrefix l both) (ap (λ s. s.log) c.again-both.ensures) c.learn.ensures.2 in
    let less : length c.shorter.inside.seen.log ≤ length c.self.inside.seen.log = rw (c.self.view_is, c.shorter.view_is) c.requires in
    rw (← c.self.view_is, ← c.shorter.view_is) (prefix_shorter c.shorter.inside.seen.log c.self.inside.seen.log both c.learn.ensures.3 this less)
