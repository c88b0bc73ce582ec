use Rattle.std.proofs.Common.{◌+◌, ◌-◌, ◌++◌, length, length-append, length-take, ap, sym, ◌∙◌, arith, subst}
use Rattle.bgp_wire.proofs.Filling.{appended}
use Rattle.bgp_wire.proofs.framer.Framer.append.Goals as goal
use Rattle.bgp_wire.specs.States.{IsBuffered}

pub returns : goal.returns
returns c =
    appended c.self.inside.octets c.args.piece.now c.copy_from_slice.new.self c.self.inside.len _
    c.copy_from_slice.ensures.after (omega arith)
    ∙ ap (λ xs. xs ++ c.args.piece.now) c.self.view_is

pub invariant_of-self : goal.invariant_of-self
invariant_of-self c =
    let copied =
    appended c.self.inside.octets c.args.piece.now c.copy_from_slice.new.self c.self.inside.len
    (c.self.inside.len + length c.args.piece.now - c.self.inside.len) c.copy_from_slice.ensures.after (omega arith)
    ∙ ap (λ xs. xs ++ c.args.piece.now) c.self.view_is in (
      omega (
        arith,
        c.requires.within,
        length-append c.args.self.now c.args.piece.now,
        ap length c.self.view_is,
        length-take c.self.inside.len c.self.inside.octets,
      ),
      subst IsBuffered (sym copied) c.requires,
    )
