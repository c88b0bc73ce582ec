use Rattle.std.proofs.Common.{◌≡◌, Ok, true, inr, length, ap, ◌∙◌, eq-eqb}
use Rattle.mrt_feed.proofs.Runs.{head_halts}
use Rattle.mrt_feed.proofs.feed.fill_whole.Goals as goal

pub returns-clause-failed : goal.returns-clause-failed
returns-clause-failed g c = inr (λ peer.
    head_halts peer c.fill.new.place _ _ c.fill.ensures.start
    (c.in_ok-whole.ensures.short (ap (λ w. Ok w) c.if-whole.false))
    (λ empty.
    let none : c.is_empty.result ≡ true =
    c.is_empty.ensures ∙ eq-eqb _ _ (ap length (c.octets.ensures.octets ∙ empty)) in
    cc)
    (c.in_ok-whole.ensures.ended (ap (λ w. Ok w) c.if-whole.false)))
