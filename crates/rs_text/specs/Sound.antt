-- Public: names that a text can have.
use Rattle.std.specs.Prelude.{◌≡◌, ◌≢◌, ◌≤◌, length, Bool, true, ◌&&◌}
use Rattle.std.specs.List.{list_all, All, AllPairs}
use Rattle.rs_model.specs.Data.{Names_data}
use Rattle.rs_model.specs.declared.limits.TheConstants.{MOST_LABELS, MOST_ROLES}
use Rattle.rs_text.specs.Names.{differ}
use Rattle.rs_text.specs.Words.{is_word, is_role_word}

-- the names of roles differ and are words other than rec and end, the names of labels differ and are words
pub record IsSound (names : Names_data) : Type 0 where
  pub roles_differ : AllPairs (λ x y. x ≢ y) names.roles
  pub roles_are_words : All (λ x. is_role_word x ≡ true) names.roles
  pub labels_differ : AllPairs (λ x y. x ≢ y) names.labels
  pub labels_are_words : All (λ x. is_word x ≡ true) names.labels

-- the test of it
abbrev pub are_sound : Names_data → Bool
are_sound names = (differ names.roles && list_all is_role_word names.roles) && (differ names.labels && list_all is_word names.labels)

-- names with which a part can be read
pub record AreReadable (names : Names_data) : Type 0 where
  pub sound : IsSound names
  pub roles : length names.roles ≤ MOST_ROLES
  pub labels : length names.labels ≤ MOST_LABELS
