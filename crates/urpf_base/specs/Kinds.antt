-- The mode that an interface is checked in (RFC 8704, section 3.4; RFC 3704, section 2).
use Rattle.urpf_base.specs.declared.kinds.Mode.{Mode}
use Rattle.urpf_base.specs.declared.kinds.Mode.TheVariants.{Off, Feasible, Loose, LooseNoDefault, EfpA, EfpB}
use Rattle.urpf_base.specs.declared.kinds.Role.{Role}
use Rattle.urpf_base.specs.declared.kinds.Role.TheVariants.{Customer, Peer, Provider}

-- off customers, efp-a and efp-b count as loose: our own choice
abbrev pub mode_off_customers : Mode → Mode
mode_off_customers Off = Off
mode_off_customers Feasible = Feasible
mode_off_customers Loose = Loose
mode_off_customers LooseNoDefault = LooseNoDefault
mode_off_customers EfpA = Loose
mode_off_customers EfpB = Loose

-- the mode of an interface of this role that is configured with this mode
abbrev pub mode_for : Role → Mode → Mode
mode_for Customer mode = mode
mode_for Peer mode = mode_off_customers mode
mode_for Provider mode = mode_off_customers mode
