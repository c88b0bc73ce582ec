use Rattle.std.proofs.Common.{◌∷◌, ap, not, sym, subst, ◌∙◌, arith}
use Rattle.std.specs.Option.{IsSome}
use Rattle.rpf_plain.specs.World.{IsConfigured}
use Rattle.rpf_plain.proofs.Counted.{same_length}
use Rattle.rpf_plain.proofs.Listed.{configured}
use Rattle.set_bench.proofs.filled.Filled.add.Goals as goal

pub add_row-requires-clause-configured : goal.add_row-requires-clause-configured
add_row-requires-clause-configured c =
    subst (λ roles. IsConfigured roles c.args.row.now.iface) (sym c.args.self.now.roles)
    ((configured c.args.self.now.kinds c.args.row.now.iface).1
    (subst IsSome c.kind.ensures (c.is_none.ensures ∙ ap not c.if-is_none.false)))

pub invariant_of-self-2 : goal.invariant_of-self-2
invariant_of-self-2 c =
    let row = c.args.row.now in
    let adds = c.in_ok-add_row.ensures.ok in
    let long = same_length c.add_row.new.self.world.rows (row ∷ c.args.self.now.engine.world.rows) adds.rows in
    let was = c.args.self.now.count in
    record { count = omega (arith, long, was); roles = adds.roles ∙ c.args.self.now.roles }
