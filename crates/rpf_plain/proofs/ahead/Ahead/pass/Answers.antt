use Rattle.std.proofs.Common.{◌≡◌, ◌⊎◌, ◌↔◌, ◌∷◌, ap, sym, subst, ◌∙◌}
use Rattle.urpf_base.specs.Masks.{InMask}
use Rattle.prefix_map.specs.Beside.{led_by}
use Rattle.prefix_map.proofs.Merge.{led}
use Rattle.rpf_plain.specs.Ahead.{InPrefixOrder}
use Rattle.rpf_plain.specs.Walks.{Hears}
use Rattle.rpf_plain.proofs.Leading.{none_left, passed_by}
use Rattle.rpf_plain.proofs.Turns.{both, done, moved}
use Rattle.rpf_plain.proofs.ahead.Ahead.pass.Goals as goal

pub loop-self-preserved : goal.loop-self-preserved
loop-self-preserved c =
    let row = c.in-Some.row in
    let inside = c.loop-self.self-inside in
    let prefix = c.args.prefix.now in
    let old = c.args.self.now.left in
    let rest = led_by c.next-self-inside.result c.next-self-inside.new.self in
    let is : led_by inside.first inside.rows ≡ row ∷ rest =
    ap (λ f. led_by f inside.rows) c.in-Some.is
    ∙ ap (λ l. row ∷ l) (sym (led c.next-self-inside.result inside.rows c.next-self-inside.new.self c.next-self-inside.ensures.steps)) in
    let order : InPrefixOrder (row ∷ rest) = subst InPrefixOrder is c.loop-self.invariant.order in
    record {
      at = c.loop-self.invariant.at;
      ifaces = c.loop-self.invariant.ifaces;
      order = order.1;
      heard = λ i. moved
          (subst (λ l. (InMask c.loop-self.ifaces i ⊎ Hears l i prefix) ↔ Hears old i prefix) is
          (c.loop-self.invariant.heard i))
          (c.with_heard-ifaces.ensures i);
      left = λ p behind i. both
          (let same = passed_by row rest prefix (λ h. let yes = c.is_behind.ensures.1 h in let no = c.if-is_behind.false in absurd cc) p behind i in
          (same.1, same.0))
          (subst (λ l. Hears l i p ↔ Hears old i p) is (c.loop-self.invariant.left p behind i));
    }

pub returns-then-is_behind-clause-heard : goal.returns-then-is_behind-clause-heard
returns-then-is_behind-clause-heard c i =
    let row = c.in-Some.row in
    let inside = c.loop-self.self-inside in
    let prefix = c.args.prefix.now in
    let is : led_by inside.first inside.rows ≡ row ∷ inside.rows = ap (λ f. led_by f inside.rows) c.in-Some.is in
    done (c.loop-self.invariant.heard i)
    (λ h. none_left prefix row inside.rows (subst InPrefixOrder is c.loop-self.invariant.order)
    (c.is_behind.ensures.0 c.if-is_behind.true) i (subst (λ l. Hears l i prefix) is h))
