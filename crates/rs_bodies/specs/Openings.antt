-- Headline: what stands before a body: the roles line of a protocol, or the role of a machine.
use Rattle.std.specs.Prelude.{ℕ, List, [], ◌∷◌, ◌++◌, codes}
use Rattle.std.specs.List.{flat_map}
use Rattle.rs_model.specs.Data.{Names_data}
use Rattle.rs_text.specs.Signs.{Sign, plain, colon, comma}
use Rattle.rs_bodies.specs.declared.dialects.Dialect.{Dialect}
use Rattle.rs_bodies.specs.declared.dialects.Dialect.TheVariants.{Talks, Acts}

-- the roles line, with two roles or more; the machine's role
pub data Opening : Dialect → Type 0 where
  of_roles : (first second : List ℕ) → (further : List (List ℕ)) → Opening Talks
  of_role : (role : List ℕ) → Opening Acts

-- the tokens of a further role on the roles line
abbrev pub further_signs : List ℕ → List Sign
further_signs name = comma ∷ plain name ∷ []

-- the tokens of a roles line with at least one role
abbrev pub line_signs : List ℕ → List (List ℕ) → List Sign
line_signs first further = plain (codes "roles") ∷ plain first ∷ flat_map further_signs further

-- the tokens of an opening
abbrev pub opening_signs : (d : Dialect) → Opening d → List Sign
opening_signs Talks (of_roles f s xs) = line_signs f (s ∷ xs) ++ plain (codes "protocol") ∷ []
opening_signs Acts (of_role r) = plain (codes "machine") ∷ plain r ∷ colon ∷ []

-- the roles that count in the body
abbrev pub roles_in : (d : Dialect) → Names_data → Opening d → List (List ℕ)
roles_in Talks old (of_roles f s xs) = f ∷ s ∷ xs
roles_in Acts old o = old.roles
