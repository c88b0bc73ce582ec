-- An engine that has room for one row refuses no row that it has.
use Rattle.std.proofs.Common.{◌≡◌, ℕ, zero, suc, ◌<◌, ◌==◌, true, Option, refl, arith}
use Rattle.std.proofs.lemmas.Bool.{eq-eqb}
use Rattle.urpf_base.specs.Address.{Block}
use Rattle.urpf_base.specs.Masks.{InMask}
use Rattle.urpf_base.specs.declared.cells.Cell.{Cell}
use Rattle.rpf_plain.specs.Cells.{IsCell}
use Rattle.rpf_plain.specs.Rows.{repeats, row_of}
use Rattle.rpf_plain.specs.World.{World}
use Rattle.rpf_plain.proofs.Counted.{counted}
use Rattle.rpf_plain.proofs.Members.{picked, some_row}

zero_if : (n : ℕ) → (0 < n → ⊥) → n ≡ 0
zero_if zero none = refl
zero_if (suc n) none = absurd (none (omega arith))

-- where the cell of the prefix does not have the interface, no row of it is there
pub not_there : (w : World) (iface : ℕ) (p : Block) (origin : Option ℕ) (cell : Cell) → IsCell w p cell
    → (InMask cell.f iface → ⊥) → repeats w.rows (row_of iface p origin) ≡ 0
not_there w iface p origin cell is none =
    zero_if (repeats w.rows (row_of iface p origin)) (λ some.
    none ((is.f iface).1 ((picked (λ q. q.iface == iface) w.rows p).1
    (some_row (λ q. (q.prefix ≡ p) × ((q.iface == iface) ≡ true)) w.rows (row_of iface p origin)
    (counted w.rows (row_of iface p origin) some) (refl, eq-eqb iface iface refl)))))
