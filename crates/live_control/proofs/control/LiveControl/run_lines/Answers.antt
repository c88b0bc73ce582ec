use Rattle.std.proofs.Common.{◌≡◌, ◌∙◌, length, refl, sym, slice_range, subst}
use Rattle.run_lines.specs.Runs.{Serves}
use Rattle.live_rounds.specs.Parts.{Standing}
use Rattle.live_control.proofs.Running.{halted, led}
use Rattle.live_control.proofs.control.LiveControl.run_lines.Goals as goal

pub returns-clause-ran : goal.returns-clause-ran
returns-clause-ran g c =
    let config = c.requires.ready.config in
    let serves : Serves config c.self.inside.control =
    subst (λ (s : Standing). Serves config s.control) (sym c.self.view_is) c.requires.ready.serves in
    let served : Serves config c.take_lines.new.control = c.take_lines.ensures.serves config serves in
    let peers : length c.take_lines.new.control.peers ≡ length c.self.inside.control.peers =
    served.sessions ∙ sym serves.sessions in
    rw (← c.self.view_is)
    (led (slice_range c.args.book.now c.args.from c.args.upto) _ _ _ _ _ _ c.take_lines.result refl peers
    c.take_lines.ensures.ran c.take_lines.ensures.shown c.take_lines.ensures.batches)

pub returns-clause-stopped : goal.returns-clause-stopped
returns-clause-stopped g c = rw (← c.self.view_is)
    (halted (slice_range c.args.book.now c.args.from c.args.upto) _ _ _ _ _ _ c.take_lines.result refl
    c.take_lines.ensures.ran c.take_lines.ensures.batches)
