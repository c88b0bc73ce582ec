-- What an edit of the runbook makes of the interfaces; one of a pair leaves them. Our own choice.
use Rattle.std.specs.Prelude.{ℕ, ◌==◌, Bool, false, List, map, if◌then◌else◌}
use Rattle.urpf_base.specs.declared.kinds.Kind.{Kind}
use Rattle.router_config.specs.declared.edits.Edit.{Edit}
use Rattle.router_config.specs.declared.edits.Edit.TheVariants as edit
use Rattle.router_config.specs.Configured.{IsConfigured}
use Rattle.router_config.specs.Kinds.{Row}

-- whether the edit is of the interface with this number; one of a pair is of none
abbrev pub is_of : Edit → ℕ → Bool
is_of (edit.Role number role) iface = number == iface
is_of (edit.Mode number mode) iface = number == iface
is_of (edit.PairAdd prefix asn) iface = false
is_of (edit.PairDel prefix asn) iface = false

-- the interface that the edit is of, where it is of one, is configured
abbrev pub IsForConfigured : List Row → Edit → Type 0
IsForConfigured kinds (edit.Role number role) = IsConfigured kinds number
IsForConfigured kinds (edit.Mode number mode) = IsConfigured kinds number
IsForConfigured kinds (edit.PairAdd prefix asn) = Unit {0}
IsForConfigured kinds (edit.PairDel prefix asn) = Unit {0}

-- the kind with the role or the mode of the edit, where it has one
abbrev pub edited_kind : Edit → Kind → Kind
edited_kind (edit.Role number role) kind = record { role = role; mode = kind.mode }
edited_kind (edit.Mode number mode) kind = record { role = kind.role; mode = mode }
edited_kind (edit.PairAdd prefix asn) kind = kind
edited_kind (edit.PairDel prefix asn) kind = kind

-- the interface that is named changes its kind, and every other stays as it is
abbrev pub edited_row : Edit → Row → Row
edited_row edit row = if is_of edit row.0 then (row.0, edited_kind edit row.1) else row

abbrev pub edited : Edit → List Row → List Row
edited edit rows = map (edited_row edit) rows
