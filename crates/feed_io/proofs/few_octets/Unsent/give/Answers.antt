use Rattle.std.proofs.Common.{ℕ, List, length, take, drop, min, ◌≡◌, ◌+◌, ◌-◌, arith, ap, ◌∙◌}
use Rattle.feed_io.proofs.Copying.{copied_front}
use Rattle.feed_io.proofs.few_octets.Unsent.give.Goals as goal

pub returns-clause-octets : goal.returns-clause-octets
returns-clause-octets c =
    let inside = c.self.inside in
    let n = c.min-count.result in
    let same = c.octets-octets.ensures.octets in
    let count : n ≡ min (length c.args.buf.now) (length inside.octets - inside.at) =
    c.min-count.ensures ∙ ap (λ (xs : List ℕ). min (length c.args.buf.now) (length xs - inside.at)) same in
    rw (← c.self.view_is)
    (copied_front inside.octets c.copy_from_slice.new.self _ inside.at n (omega (arith, count))
    (c.copy_from_slice.ensures.after ∙ ap (λ (xs : List ℕ). take (inside.at + n - inside.at) (drop inside.at xs)) same))
