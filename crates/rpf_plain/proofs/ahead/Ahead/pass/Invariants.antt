use Rattle.std.proofs.Common.{◌≡◌, ◌↔◌, ◌⊎◌, ℕ, length}
use Rattle.urpf_base.specs.Address.{Block}
use Rattle.urpf_base.specs.Masks.{InMask}
use Rattle.urpf_base.specs.Order.{IsBefore}
use Rattle.prefix_map.specs.Beside.{led_by}
use Rattle.rpf_plain.specs.Ahead.{InPrefixOrder}
use Rattle.rpf_plain.specs.Walks.{Hears}
use Rattle.rpf_plain.proofs.ahead.Ahead.pass.Given as goal

abbrev pub invariant-loop-self : goal.invariant-loop-self
invariant-loop-self l =
    let left = led_by l.self-inside.first l.self-inside.rows in
    let old = l.fn.self.left in
    record {
      at : l.self-inside.at ≡ l.fn.self.at;
      ifaces : l.self-inside.ifaces ≡ l.fn.self.ifaces;
      order : InPrefixOrder left;
      heard : (i : ℕ) → (InMask l.ifaces i ⊎ Hears left i l.fn.prefix) ↔ Hears old i l.fn.prefix;
      left : (p : Block) → IsBefore l.fn.prefix p → (i : ℕ) → (Hears left i p ↔ Hears old i p);
    }

abbrev pub decreases-loop-self : goal.decreases-loop-self
decreases-loop-self l = length (led_by l.self-inside.first l.self-inside.rows)
