-- Public: the faults of names and limits, by the place where a token stands.
use Rattle.std.specs.Prelude.{ℕ, List, [], ◌∷◌, codes, length, Option, Some, None, if◌then◌else◌, nat_lt, nat_le}
use Rattle.rs_model.specs.declared.limits.TheConstants.{MOST_LABELS, MOST_NESTING, MOST_ROLES}
use Rattle.rs_model.specs.Data.{Names_data}
use Rattle.rs_text.specs.declared.faults.TextKind.{TextKind}
use Rattle.rs_text.specs.declared.faults.TextKind.TheVariants as kind
use Rattle.rs_text.specs.declared.faults.Wanted.{Wanted}
use Rattle.rs_text.specs.declared.faults.Wanted.TheVariants as wanted
use Rattle.rs_text.specs.Signs.{Sign, rec_word, end_word, plain, open_brace, broken}
use Rattle.rs_text.specs.Names.{nearest_binding, is_among}
use Rattle.rs_bodies.specs.declared.dialects.Dialect.{Dialect}
use Rattle.rs_bodies.specs.declared.dialects.Dialect.TheVariants.{Talks, Acts}
use Rattle.rs_bodies.specs.Dialects.{turns, most}
use Rattle.rs_bodies.specs.Openings.{roles_in}
use Rattle.rs_bodies.specs.Cuts.{OpeningCut, at_first, at_further, at_role}
use Rattle.rs_bodies.specs.Cuts.{Cut, in_binds, in_arm, in_acts, in_offers, BranchCut, in_head, in_branch, later, PartCut, in_opening, in_body, wanted_at}
use Rattle.rs_bodies.specs.Scenes.{Scene, with_label, in_act, in_braces, in_rec, behind, first_scene}

-- the scene at a place within a body that begins in the scene s. Behind a head and in a braces' arm it is that before the label
abbrev mutual
  pub scene_at : (d : Dialect) → Cut d → Scene → Scene
  scene_at d (in_binds n b) s = scene_at d b (in_rec n s)
  scene_at d (in_arm p t arm) s = in_act s
  scene_at d (in_acts p t l sort b) s = scene_at d b (with_label l (in_act s))
  scene_at d (in_offers p t arms) s = scene_in d arms (in_braces s)
  scene_at d _ s = s

  pub scene_in : (d : Dialect) → BranchCut d → Scene → Scene
  scene_in d (in_head arm) s = s
  scene_in d (in_branch l sort b) s = scene_at d b (with_label l s)
  scene_in d (later l sort b arms) s = scene_in d arms (behind d b (with_label l s))

-- a recursion name that is bound to the head k, or to none, with `count` heads before it
abbrev pub fault_of_name : Option ℕ → ℕ → Option TextKind
fault_of_name None count = Some kind.UnboundName
fault_of_name (Some k) count = if nat_lt k count then None else Some kind.Unguarded

-- the first word of a head
abbrev pub fault_of_first : Dialect → List ℕ → Scene → Option TextKind
fault_of_first d word s = if is_among word s.roles then (if nat_le (most d) s.acts then Some kind.TooManyNodes else None) else Some kind.UnknownRole

-- a word at the start of a body, by the token behind it
abbrev pub fault_of_word : Dialect → List ℕ → Sign → Scene → Option TextKind
fault_of_word d word (broken k) s = None
fault_of_word d word t s = if turns d t then fault_of_first d word s else fault_of_name (nearest_binding word s.bound) s.acts

-- the rec or the brace that makes the nesting 201
abbrev pub fault_of_depth : Scene → Option TextKind
fault_of_depth s = if nat_le MOST_NESTING s.depth then Some kind.TooDeep else None

-- a receiver, or a machine's own role
abbrev pub fault_of_role : List ℕ → List (List ℕ) → Option TextKind
fault_of_role word roles = if is_among word roles then None else Some kind.UnknownRole

-- a new label as the 257th
abbrev pub fault_of_label : List ℕ → Scene → Option TextKind
fault_of_label word s = if is_among word s.labels then None else if nat_le MOST_LABELS (length s.labels) then Some kind.TooManyLabels else None

-- a role whose name stands on the roles line already, or that is the 17th
abbrev pub fault_of_new_role : List ℕ → List (List ℕ) → Option TextKind
fault_of_new_role word roles = if is_among word roles then Some kind.NameTwice else if nat_le MOST_ROLES (length roles) then Some kind.TooManyRoles else None

-- the fault of names and limits of a token, with the token behind it, by what is wanted there
abbrev pub fault_by : Dialect → Wanted → Sign → Sign → Scene → Option TextKind
fault_by d wanted.Body rec_word next s = fault_of_depth s
fault_by d wanted.Body (plain word) next s = fault_of_word d word next s
fault_by d wanted.Role (plain word) next s = fault_of_role word s.roles
fault_by d wanted.ColonOrBrace open_brace next s = fault_of_depth s
fault_by d wanted.LabelOrBrace open_brace next s = fault_of_depth s
fault_by d wanted.LabelOrBrace rec_word next s = fault_of_label (codes "rec") s
fault_by d wanted.LabelOrBrace end_word next s = fault_of_label (codes "end") s
fault_by d wanted.LabelOrBrace (plain word) next s = fault_of_label word s
fault_by d wanted.Label rec_word next s = fault_of_label (codes "rec") s
fault_by d wanted.Label end_word next s = fault_of_label (codes "end") s
fault_by d wanted.Label (plain word) next s = fault_of_label word s
fault_by d _ t next s = None

-- a word in an opening
abbrev pub fault_of_opening : (d : Dialect) → OpeningCut d → Sign → Names_data → Option TextKind
fault_of_opening Talks at_first (plain word) old = fault_of_new_role word []
fault_of_opening Talks (at_further x xs) (plain word) old = fault_of_new_role word (x ∷ xs)
fault_of_opening Acts at_role (plain word) old = fault_of_role word old.roles
fault_of_opening d _ t old = None

-- at a place of a part
abbrev pub fault_of : (d : Dialect) → Names_data → PartCut d → Sign → Sign → Option TextKind
fault_of d old (in_opening o) t next = fault_of_opening d o t old
fault_of d old (in_body o b) t next = fault_by d (wanted_at d b wanted.PartOrEnd) t next (scene_at d b (first_scene (roles_in d old o) old.labels))
