-- How roles and modes are written in a configuration and a runbook. Our own choice.
use Rattle.std.specs.Prelude.{ℕ, List, [], ◌∷◌, Option, codes, find, bytes_eq}
use Rattle.urpf_base.specs.declared.kinds.Mode.{Mode}
use Rattle.urpf_base.specs.declared.kinds.Mode.TheVariants as mode
use Rattle.urpf_base.specs.declared.kinds.Role.{Role}
use Rattle.urpf_base.specs.declared.kinds.Role.TheVariants as role

-- the name of a role
abbrev pub role_name : Role → List ℕ
role_name role.Customer = codes "customer"
role_name role.Peer = codes "peer"
role_name role.Provider = codes "provider"

-- the name of a mode
abbrev pub mode_name : Mode → List ℕ
mode_name mode.Off = codes "off"
mode_name mode.Feasible = codes "feasible"
mode_name mode.Loose = codes "loose"
mode_name mode.LooseNoDefault = codes "loose-nodefault"
mode_name mode.EfpA = codes "efp-a"
mode_name mode.EfpB = codes "efp-b"

-- the role with this name
abbrev pub role_named : List ℕ → Option Role
role_named text = find (λ r. bytes_eq text (role_name r)) (role.Customer ∷ role.Peer ∷ role.Provider ∷ [])

-- the mode with this name
abbrev pub mode_named : List ℕ → Option Mode
mode_named text =
    find (λ m. bytes_eq text (mode_name m))
    (mode.Off ∷ mode.Feasible ∷ mode.Loose ∷ mode.LooseNoDefault ∷ mode.EfpA ∷ mode.EfpB ∷ [])
