-- Public: trees whose names can be written.
use Rattle.std.specs.Prelude.{◌≡◌, ◌∷◌, true}
use Rattle.std.specs.List.{All}
use Rattle.rs_text.specs.Words.{is_word, is_role_word}
use Rattle.rs_bodies.specs.declared.dialects.Dialect.{Dialect}
use Rattle.rs_bodies.specs.declared.dialects.Dialect.TheVariants.{Talks, Acts}
use Rattle.rs_bodies.specs.Dialects.{BehindRole, sends_to, with_mark}
use Rattle.rs_bodies.specs.Openings.{Opening, of_roles, of_role}
use Rattle.rs_bodies.specs.Spells.{Tree}
use Rattle.rs_bodies.specs.Trees.{Body, ends, again, binds, acts, offers, Branches, one, more}

-- a receiver is a word other than rec and end
abbrev pub IsWordInTurn : (d : Dialect) → BehindRole d → Type 0
IsWordInTurn Talks (sends_to r) = is_role_word r ≡ true
IsWordInTurn Acts (with_mark m) = Unit {0}

-- the roles and recursion names of a body are words other than rec and end, its labels words
abbrev mutual
  pub AreWordsIn : (d : Dialect) → Body d → Type 0
  AreWordsIn d ends = Unit {0}
  AreWordsIn d (again name) = is_role_word name ≡ true
  AreWordsIn d (binds name body) = (is_role_word name ≡ true) × AreWordsIn d body
  AreWordsIn d (acts p t label sort body) = (is_role_word p ≡ true) × IsWordInTurn d t × (is_word label ≡ true) × AreWordsIn d body
  AreWordsIn d (offers p t arms) = (is_role_word p ≡ true) × IsWordInTurn d t × AreWordsInArms d arms

  pub AreWordsInArms : (d : Dialect) → Branches d → Type 0
  AreWordsInArms d (one label sort body) = (is_word label ≡ true) × AreWordsIn d body
  AreWordsInArms d (more label sort body arms) = (is_word label ≡ true) × AreWordsIn d body × AreWordsInArms d arms

-- so are the roles of an opening
abbrev pub AreWordsInOpening : (d : Dialect) → Opening d → Type 0
AreWordsInOpening Talks (of_roles f s xs) = All (λ x. is_role_word x ≡ true) (f ∷ s ∷ xs)
AreWordsInOpening Acts (of_role r) = is_role_word r ≡ true

-- all names of a part are words
pub record AreWords (d : Dialect) (t : Tree d) : Type 0 where
  pub opening : AreWordsInOpening d t.opening
  pub body : AreWordsIn d t.body
