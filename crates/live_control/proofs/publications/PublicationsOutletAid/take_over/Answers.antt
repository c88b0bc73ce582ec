use Rattle.std.proofs.Common.{◌∙◌, ◌∷◌, ◌++◌, [], ap}
use Rattle.cover_table.specs.Snapshots.{step}
use Rattle.live_control.specs.Standings.{PublicationState}
use Rattle.live_control.proofs.Handing.{whole_next}
use Rattle.live_control.proofs.publications.PublicationsOutletAid.take_over.Goals as goal
use Rattle.live_control.proofs.publications.PublicationsOutletAid.take_over.Goals.{in-Ok, in-Err-published}

pub returns-clause-sound : goal.returns-clause-sound
returns-clause-sound g c = elim c.match-published.branch [
  | in-Ok w ↦ rw w.result-is (whole_next g.J.Naming.opening c.args.self.now _ c.args.batch c.requires.sound
      c.requires.follows
      (c.in_default.ensures ∙ ap (λ (s : PublicationState). step s.shown c.args.batch) c.self.view_is)
      (w.in-Ok.ensures.published ∙ ap (λ (s : PublicationState). s.batches ++ c.args.batch ∷ []) c.self.view_is))
  | in-Err-published w ↦ rw w.result-is tt
]
