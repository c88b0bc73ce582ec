use Rattle.std.proofs.Common.{◌≡◌, ◌≤◌, ◌+◌, refl, ap, sym, subst, ◌∙◌, arith}
use Rattle.std.specs.Option.{IsSome, SomeIff}
use Rattle.std.specs.FinMap.{get}
use Rattle.urpf_base.specs.Address.{Block, block_of, width_of}
use Rattle.prefix_map.proofs.Covering.{none_cover, own_covers}
use Rattle.prefix_map.proofs.map.PrefixMap.any_covers.Goals as goal

pub returns-then-is_some-clause-some : goal.returns-then-is_some-clause-some
returns-then-is_some-clause-some g c =
    let len = c.loop-len.len in
    let addr = c.args.addr.now in
    let made : (len ≤ width_of addr)
    × (c.unwrap-prefix.result ≡ block_of len addr) =
    subst (λ r. SomeIff r (len ≤ width_of addr) (block_of len addr)) c.unwrap-prefix.ensures c.new.ensures in
    let told : IsSome c.ask.result = sym c.is_some.ensures ∙ c.if-is_some.true in
    let there : IsSome (get c.args.self.now c.unwrap-prefix.result) = subst IsSome c.ask.ensures.value told in
    let one = own_covers c.args.self.now addr len made.0
    (subst (λ (b : Block). IsSome (get c.args.self.now b)) made.1 there) in
    λ _. (block_of len addr, one.0, one.1, c.ask.ensures.step ∙ ap (λ n. n + 1) c.loop-len.invariant.steps)

pub returns-then-is_some-clause-covers : goal.returns-then-is_some-clause-covers
returns-then-is_some-clause-covers g c =
    let some = returns-then-is_some-clause-some g c refl in
    (λ _. (some.0, some.1, some.2), λ _. refl)

pub returns-clause-covers : goal.returns-clause-covers
returns-clause-covers g c = (
  λ yes. absurd cc,
  λ (p, has, covers). absurd
      (none_cover _ _ c.args.self.now c.args.addr.now c.self.invariant c.self.view_is c.bits_of-len-end.ensures.fits
      (λ k within. c.loop-len.invariant.none k (omega (arith, within))) p has covers),
)
