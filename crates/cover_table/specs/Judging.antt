-- How a publication judges a source: by its cells in the place of the sets (RFC 8704, section 3; RFC 3704, section 2).
use Rattle.std.specs.Prelude.{ℕ, zero, suc, ◌==◌, nat_lt, Bool, true, false, ◌&&◌, ◌||◌, not, if◌then◌else◌}
use Rattle.std.specs.Prelude.{Option, Some, None}
use Rattle.std.specs.FinMap.{entries}
use Rattle.std.specs.Int.{bit_at}
use Rattle.std.specs.List.{list_any}
use Rattle.urpf_base.specs.Address.{Block, bit_from_highest}
use Rattle.urpf_base.specs.Kinds.{mode_for}
use Rattle.urpf_base.specs.declared.address.Addr.{Addr}
use Rattle.urpf_base.specs.declared.address.Addr.TheVariants.{V4, V6}
use Rattle.urpf_base.specs.declared.cells.Cell.{Cell}
use Rattle.urpf_base.specs.declared.kinds.Kind.{Kind}
use Rattle.urpf_base.specs.declared.kinds.Mode.{Mode}
use Rattle.urpf_base.specs.declared.kinds.Mode.TheVariants.{Off, Feasible, Loose, LooseNoDefault, EfpA, EfpB}
use Rattle.urpf_base.specs.declared.verdicts.Verdict.{Verdict}
use Rattle.urpf_base.specs.declared.verdicts.Verdict.TheVariants as verdict
use Rattle.prefix_map.specs.Mapped.{Mapped}
use Rattle.router_config.specs.Kinds.{kind_in}
use Rattle.cover_table.specs.Snapshots.{Publication}

-- whether the first len bits of both numbers agree
abbrev pub bits_agree : ℕ → ℕ → ℕ → ℕ → Bool
bits_agree width zero a b = true
bits_agree width (suc len) a b =
    bits_agree width len a b && (bit_from_highest width a len == bit_from_highest width b len)

-- whether both addresses are of one family, and their first len bits agree
abbrev pub agree_up_to : ℕ → Addr → Addr → Bool
agree_up_to len (V4 a) (V4 b) = bits_agree 32 len a b
agree_up_to len (V4 a) (V6 b) = false
agree_up_to len (V6 a) (V4 b) = false
agree_up_to len (V6 a) (V6 b) = bits_agree 128 len a b

-- whether the prefix covers the address
abbrev pub covers : Block → Addr → Bool
covers prefix addr = agree_up_to prefix.len prefix.addr addr

-- whether the interface is in the set
abbrev pub in_mask : ℕ → ℕ → Bool
in_mask mask iface = bit_at mask iface == 1

-- whether the cell of a prefix says that it is in the set of an interface, by the effective mode; off asks for no cell
abbrev pub told : Mode → ℕ → Block → Cell → Bool
told Off iface prefix cell = true
told Feasible iface prefix cell = in_mask cell.f iface
told Loose iface prefix cell = not (cell.f == 0)
told LooseNoDefault iface prefix cell = nat_lt 0 prefix.len && not (cell.f == 0)
told EfpA iface prefix cell = in_mask cell.a iface
told EfpB iface prefix cell = cell.z

abbrev pub is_off : Mode → Bool
is_off Off = true
is_off Feasible = false
is_off Loose = false
is_off LooseNoDefault = false
is_off EfpA = false
is_off EfpB = false

-- whether the row is for a prefix that covers the source and is in the set of the interface
abbrev pub admits : Mode → ℕ → Addr → Block × Cell → Bool
admits mode iface source row = told mode iface row.0 row.1 && covers row.0 source

-- whether the source passes on an interface of this effective mode: by off each does, by another mode those that a
-- prefix of the set covers
abbrev pub passes : Mode → ℕ → Mapped Cell → Addr → Bool
passes mode iface cells source = is_off mode || list_any (admits mode iface source) (entries cells)

-- the verdict by the cells on a source that there may not be, on an interface that may not be configured
abbrev pub judge_for : Option Kind → Mapped Cell → ℕ → Option Addr → Verdict
judge_for None cells iface source = verdict.NoIface
judge_for (Some kind) cells iface None = verdict.BadHead
judge_for (Some kind) cells iface (Some source) =
    if passes (mode_for kind.role kind.mode) iface cells source then verdict.Pass else verdict.Drop

-- the verdict on the source of a packet that came in on an interface
abbrev pub judge : Publication → ℕ → Option Addr → Verdict
judge publication iface source = judge_for (kind_in publication.kinds iface) publication.cells iface source
