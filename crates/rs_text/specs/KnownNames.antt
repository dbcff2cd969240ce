-- Headline: what a text names, with the names that were there and the labels that it brings.
use Rattle.std.specs.Prelude.{◌≡◌, ℕ, List, true}
use Rattle.std.specs.List.{list_all}
use Rattle.rs_model.specs.Data.{Names_data}
use Rattle.rs_model.specs.declared.graph.Label.{Label}
use Rattle.rs_model.specs.declared.graph.Role.{Role}
use Rattle.rs_text.specs.Names.{is_among, names_with, number_or, place_of}

-- the names that were there, with the labels that are new behind them in order of their first places
abbrev pub with_new_labels : Names_data → List (List ℕ) → Names_data
with_new_labels old labels = record { roles = old.roles; labels = names_with old.labels labels }

-- roles and labels are known by the places of their names
abbrev pub role_named : Names_data → List ℕ → Role
role_named names name = record { 0 = number_or (place_of name names.roles) }

-- the label with that name
abbrev pub label_named : Names_data → List ℕ → Label
label_named names name = record { 0 = number_or (place_of name names.labels) }

-- the roles are known
abbrev pub AreKnown : Names_data → List (List ℕ) → Type 0
AreKnown old roles = list_all (λ x. is_among x old.roles) roles ≡ true
