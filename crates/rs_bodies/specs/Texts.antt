-- Public: the text of a part, with the spacing of canonical texts.
use Rattle.std.specs.Prelude.{ℕ, List, [], ◌∷◌, ◌++◌, codes}
use Rattle.rs_text.specs.Shown.{arm_text}
use Rattle.rs_bodies.specs.declared.dialects.Dialect.{Dialect}
use Rattle.rs_bodies.specs.declared.dialects.Dialect.TheVariants.{Talks, Acts}
use Rattle.rs_bodies.specs.declared.dialects.Mark.{Mark}
use Rattle.rs_bodies.specs.declared.dialects.Mark.TheVariants as mark
use Rattle.rs_bodies.specs.Dialects.{BehindRole, sends_to, with_mark}
use Rattle.rs_bodies.specs.Openings.{Opening, of_roles, of_role}
use Rattle.rs_bodies.specs.Spells.{Tree}
use Rattle.rs_bodies.specs.Trees.{Body, ends, again, binds, acts, offers, Branches, one, more}

-- ! sends, ? receives
abbrev pub mark_text : Mark → List ℕ
mark_text mark.Puts = codes "!"
mark_text mark.Takes = codes "?"

-- behind the first role of a head
abbrev pub turn_text : (d : Dialect) → BehindRole d → List ℕ
turn_text Talks (sends_to r) = codes "->" ++ r
turn_text Acts (with_mark m) = mark_text m

-- before a single arm
abbrev pub lone_text : Dialect → List ℕ
lone_text Talks = codes ":"
lone_text Acts = []

-- a body: a space behind each dot and behind each comma
abbrev mutual
  pub body_text : (d : Dialect) → Body d → List ℕ
  body_text d ends = codes "end"
  body_text d (again name) = name
  body_text d (binds name body) = codes "rec " ++ (name ++ (codes ". " ++ body_text d body))
  body_text d (acts p t label sort body) = p ++ (turn_text d t ++ (lone_text d ++ (arm_text label sort ++ body_text d body)))
  body_text d (offers p t arms) = p ++ (turn_text d t ++ (codes "{" ++ (branches_text d arms ++ codes "}")))

  pub branches_text : (d : Dialect) → Branches d → List ℕ
  branches_text d (one label sort body) = arm_text label sort ++ body_text d body
  branches_text d (more label sort body arms) = arm_text label sort ++ (body_text d body ++ (codes ", " ++ branches_text d arms))

-- the names, separated by a comma and a space
abbrev pub names_text : List (List ℕ) → List ℕ
names_text [] = []
names_text (name ∷ []) = name
names_text (name ∷ other ∷ names) = name ++ (codes ", " ++ names_text (other ∷ names))

-- an opening, with the body behind it: the roles line and the next line's first word, or the line of a machine
abbrev pub opening_text : (d : Dialect) → Opening d → (behind : List ℕ) → List ℕ
opening_text Talks (of_roles f s xs) body = codes "roles " ++ (names_text (f ∷ s ∷ xs) ++ (codes "\nprotocol " ++ body))
opening_text Acts (of_role r) body = codes "machine " ++ (r ++ (codes ": " ++ body))

-- a part, with the end of its last line
abbrev pub part_text : (d : Dialect) → Tree d → List ℕ
part_text d t = opening_text d t.opening (body_text d t.body ++ codes "\n")
