-- Public: messages that were received, as C sees them.
use Rattle.std.specs.Prelude.{ℕ, ℤ, pos, true, false, Bool, length}
use Rattle.rs_model.specs.declared.graph.Label.{Label}
use Rattle.rs_model.specs.declared.values.Value.{Value}
use Rattle.rs_model.specs.declared.values.Value.TheVariants as value
use Rattle.rs_numbered.specs.declared.messages.MessageView.{MessageView}

abbrev flag_number : Bool → ℕ
flag_number true = 1
flag_number false = 0

abbrev with : Label → ℕ → ℕ → ℤ → ℕ → MessageView
with label kind natural whole count = record { label = label.0; kind = kind; natural = natural; whole = whole; length = count }

-- the message with the label: the kind of its value, and the value, or how many bytes or numbers it has; all else is 0
abbrev pub view_of : Label → Value → MessageView
view_of label value.Unit = with label 0 0 (pos 0) 0
view_of label (value.Flag flag) = with label 1 (flag_number flag) (pos 0) 0
view_of label (value.Natural natural) = with label 2 natural (pos 0) 0
view_of label (value.Whole whole) = with label 3 0 whole 0
view_of label (value.Octets bytes) = with label 4 0 (pos 0) (length bytes)
view_of label (value.Numbers numbers) = with label 5 0 (pos 0) (length numbers)
