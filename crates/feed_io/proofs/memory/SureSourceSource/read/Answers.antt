use Rattle.std.proofs.Common.{length, take, drop, min, ◌≡◌, ◌+◌, ◌-◌, arith, ap, ◌∙◌}
use Rattle.feed_io.proofs.Copying.{copied_front, none_left}
use Rattle.feed_io.proofs.memory.SureSourceSource.read.Goals as goal

pub returns-clause-octets : goal.returns-clause-octets
returns-clause-octets c =
    let inside = c.self.inside in
    let n = c.min-count.result in
    let count : n ≡ min (length c.args.buf.now) (length inside.octets.items - inside.at) =
    omega (arith, inside.octets.ok.0) in (
      rw (← c.self.view_is)
          (copied_front inside.octets.items c.copy_from_slice.new.self _ inside.at n (omega arith)
          (c.copy_from_slice.ensures.after
          ∙ ap (λ xs. take (inside.at + n - inside.at) (drop inside.at xs)) c.deref.ensures.value)),
      λ none some. none_left inside.octets.items inside.at n _ count none c.requires,
    )
