use Rattle.std.proofs.Common.{◌∙◌, ap, map, sym}
use Rattle.std.proofs.lemmas.Simd.{map-map}
use Rattle.live_run.proofs.run.run_hired.Goals as goal

pub returns-clause-ran : goal.returns-clause-ran
returns-clause-ran g c run streams begun is totals slots told =
    c.run_begun-result.ensures.ran run streams begun is totals slots
    (ap (map (λ w. g.P.PacketSource.left w.packets)) c.deref_mut.ensures.value
    ∙ sym (map-map g.P.PacketSource.left (λ w. w.packets) c.in-Ok.workers.items)
    ∙ ap (map g.P.PacketSource.left) c.in-Ok.ensures.packets ∙ told)
