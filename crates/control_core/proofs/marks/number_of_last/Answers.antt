use Rattle.std.proofs.Common.{[], ◌∷◌, ◌++◌, take, sym, ap, ◌∙◌, add-one, take-suc}
use Rattle.control_core.specs.Worlds.{last_number}
use Rattle.control_core.proofs.LastMarks.{last_number-push}
use Rattle.control_core.proofs.marks.number_of_last.Goals as goal

pub loop-mark-preserved : goal.loop-mark-preserved
loop-mark-preserved c =
    let l = c.loop-mark in
    let marks = c.args.marks.now in
    let mark = c.mark-item.result in
    let more = ap (λ n. take n marks) (add-one l.mark-index)
    ∙ take-suc marks l.mark-index mark c.loop-mark-test.true
    ∙ ap (λ m. take l.mark-index marks ++ m ∷ []) (sym c.mark-item.is) in
    c.number-number.ensures ∙ sym (ap last_number more ∙ last_number-push (take l.mark-index marks) mark)
