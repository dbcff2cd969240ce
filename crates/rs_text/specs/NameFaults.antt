-- Public: the faults of a name where a role or a label stands.
use Rattle.std.specs.Prelude.{ℕ, List, length, Option, Some, None, nat_le, if◌then◌else◌}
use Rattle.rs_model.specs.Data.{Names_data}
use Rattle.rs_model.specs.declared.limits.TheConstants.{MOST_LABELS}
use Rattle.rs_text.specs.declared.faults.TextKind.{TextKind}
use Rattle.rs_text.specs.declared.faults.TextKind.TheVariants as kind
use Rattle.rs_text.specs.Names.{is_among}

-- a role is known
abbrev pub fault_of_role : Names_data → Option (List ℕ) → Option TextKind
fault_of_role old None = None
fault_of_role old (Some name) = if is_among name old.roles then None else Some kind.UnknownRole

-- a label is there, or there is room for it
abbrev pub fault_of_label : List (List ℕ) → Option (List ℕ) → Option TextKind
fault_of_label labels None = None
fault_of_label labels (Some name) = if is_among name labels then None else if nat_le MOST_LABELS (length labels) then Some kind.TooManyLabels else None
