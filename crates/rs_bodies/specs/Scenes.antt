-- Headline: what the faults of names and limits hang on.
use Rattle.std.specs.Prelude.{ℕ, suc, ◌+◌, List, [], ◌∷◌}
use Rattle.rs_text.specs.Names.{BoundNames, names_with}
use Rattle.rs_bodies.specs.declared.dialects.Dialect.{Dialect}
use Rattle.rs_bodies.specs.Trees.{Body}
use Rattle.rs_bodies.specs.Graph.{labels_of, acts_in}

-- the roles, the recursion names round a place, the count of rec and braces round it, the heads and the labels before it
pub record Scene : Type 0 where
  pub roles : List (List ℕ)
  pub bound : BoundNames
  pub depth : ℕ
  pub acts : ℕ
  pub labels : List (List ℕ)

-- behind a label
abbrev pub with_label : List ℕ → Scene → Scene
with_label l s = record s { labels = names_with s.labels (l ∷ []) }

-- within an act
abbrev pub in_act : Scene → Scene
in_act s = record s { acts = suc s.acts }

-- within the braces of an act
abbrev pub in_braces : Scene → Scene
in_braces s = record s { acts = suc s.acts; depth = suc s.depth }

-- within the body of a rec that binds the name
abbrev pub in_rec : List ℕ → Scene → Scene
in_rec name s = record s { bound = (name, s.acts) ∷ s.bound; depth = suc s.depth }

-- behind a body
abbrev pub behind : (d : Dialect) → Body d → Scene → Scene
behind d b s = record s { acts = s.acts + acts_in d b; labels = names_with s.labels (labels_of d b) }

-- where a body begins
abbrev pub first_scene : List (List ℕ) → List (List ℕ) → Scene
first_scene roles labels = record { roles = roles; bound = []; depth = 0; acts = 0; labels = labels }
