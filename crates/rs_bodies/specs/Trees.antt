-- Headline: how texts of bodies are built.
use Rattle.std.specs.Prelude.{ℕ, List, [], ◌∷◌, ◌++◌, Option, Bool, true, false, if◌then◌else◌}
use Rattle.rs_model.specs.declared.values.Sort.{Sort}
use Rattle.rs_text.specs.Signs.{Sign, broken, rec_word, end_word, plain, dot, comma, open_brace, close_brace}
use Rattle.rs_text.specs.Arms.{arm_signs}
use Rattle.rs_bodies.specs.declared.dialects.Dialect.{Dialect}
use Rattle.rs_bodies.specs.Dialects.{BehindRole, turn_signs, lone_signs, turns}

-- a body: the end, a recursion name, a body whose name is bound, a head with one arm, or one with arms in braces
mutual
  pub data Body (d : Dialect) : Type 0 where
    ends : Body d
    again : (name : List ℕ) → Body d
    binds : (name : List ℕ) → (body : Body d) → Body d
    acts : (first : List ℕ) → (turn : BehindRole d) → (label : List ℕ) → (sort : Option Sort) → (body : Body d) → Body d
    offers : (first : List ℕ) → (turn : BehindRole d) → (arms : Branches d) → Body d

  pub data Branches (d : Dialect) : Type 0 where
    one : (label : List ℕ) → (sort : Option Sort) → (body : Body d) → Branches d
    more : (label : List ℕ) → (sort : Option Sort) → (body : Body d) → (arms : Branches d) → Branches d

-- the tokens of a body: roles and recursion names are words other than rec and end, labels any words
abbrev mutual
  pub body_signs : (d : Dialect) → Body d → List Sign
  body_signs d ends = end_word ∷ []
  body_signs d (again name) = plain name ∷ []
  body_signs d (binds name body) = rec_word ∷ plain name ∷ dot ∷ body_signs d body
  body_signs d (acts p t label sort body) = plain p ∷ (turn_signs d t ++ (lone_signs d ++ (arm_signs label sort ++ body_signs d body)))
  body_signs d (offers p t arms) = plain p ∷ (turn_signs d t ++ open_brace ∷ (branch_signs d arms ++ close_brace ∷ []))

  pub branch_signs : (d : Dialect) → Branches d → List Sign
  branch_signs d (one label sort body) = arm_signs label sort ++ body_signs d body
  branch_signs d (more label sort body arms) = arm_signs label sort ++ (body_signs d body ++ comma ∷ branch_signs d arms)

-- whether a recursion name is the last token
abbrev pub ends_by_name : (d : Dialect) → Body d → Bool
ends_by_name d ends = false
ends_by_name d (again name) = true
ends_by_name d (binds name body) = ends_by_name d body
ends_by_name d (acts p t l sort body) = ends_by_name d body
ends_by_name d (offers p t arms) = false

-- a word is a recursion name only where neither an arrow or a mark nor a faulty token stands behind it
abbrev pub ends_a_name : Dialect → Sign → Bool
ends_a_name d (broken k) = false
ends_a_name d t = if turns d t then false else true
