-- The names that are written instead have the numbers of those that were read, and sound names are words that differ.
use Rattle.std.proofs.Common.{◌≡◌, ℕ, List, true, ◌&&◌, Some}
use Rattle.std.specs.List.{list_all}
use Rattle.rs_model.specs.Data.{Names_data}
use Rattle.rs_text.proofs.Naming.{decides_sound, at_among, place_at}
use Rattle.rs_text.specs.Names.{is_among, place_of, differ}
use Rattle.rs_text.specs.Sound.{IsSound}
use Rattle.rs_text.specs.Words.{is_word, is_role_word}
use Rattle.rs_bodies.proofs.CanonForms.{Writing, role_as, label_as, HasRole, HasLabel, role_stands, label_stands}
use Rattle.rs_text.proofs.Basics.{both}
use Rattle.rs_bodies.specs.Graph.{role_by_name, label_by_name}

-- ---- the names that are written

pub role_place : (w : Writing) (s : List ℕ) → differ w.names.roles ≡ true → HasRole w s → place_of (role_as w s) w.names.roles ≡ Some (role_by_name w.numbers s).0
role_place w s d has = place_at w.names.roles (role_by_name w.numbers s).0 (role_as w s) d (role_stands w s has)

pub label_place : (w : Writing) (l : List ℕ) → differ w.names.labels ≡ true → HasLabel w l → place_of (label_as w l) w.names.labels ≡ Some (label_by_name w.numbers l).0
label_place w l d has = place_at w.names.labels (label_by_name w.numbers l).0 (label_as w l) d (label_stands w l has)

pub role_known : (w : Writing) (s : List ℕ) → HasRole w s → is_among (role_as w s) w.names.roles ≡ true
role_known w s has = at_among w.names.roles (role_by_name w.numbers s).0 (role_as w s) (role_stands w s has)

pub label_known : (w : Writing) (l : List ℕ) → HasLabel w l → is_among (label_as w l) w.names.labels ≡ true
label_known w l has = at_among w.names.labels (label_by_name w.numbers l).0 (label_as w l) (label_stands w l has)

-- ---- sound names

pub record Sound (names : Names_data) : Type 0 where
  pub roles_differ : differ names.roles ≡ true
  pub roles_are_words : list_all is_role_word names.roles ≡ true
  pub labels_differ : differ names.labels ≡ true
  pub labels_are_words : list_all is_word names.labels ≡ true

pub sound_parts : (names : Names_data) → IsSound names → Sound names
sound_parts names s =
    let h = (decides_sound names).1 s in
    let a = both (differ names.roles && list_all is_role_word names.roles) (differ names.labels && list_all is_word names.labels) h in
    let r = both (differ names.roles) (list_all is_role_word names.roles) a.0 in
    let l = both (differ names.labels) (list_all is_word names.labels) a.1 in
    record { roles_differ = r.0; roles_are_words = r.1; labels_differ = l.0; labels_are_words = l.1 }
