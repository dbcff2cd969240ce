-- Public: tests of acts, and of the spot to which an edge leads.
use Rattle.std.specs.Prelude.{◌+◌, List, [], ◌∷◌, ◌++◌, Bool, true, false, ◌==◌, ◌&&◌}
use Rattle.rs_model.specs.Serving.{sort_number}
use Rattle.rs_model.specs.declared.machines.Act.{Act}
use Rattle.rs_model.specs.declared.machines.Act.TheVariants.{Puts, Takes}
use Rattle.rs_prefix.specs.Earliest.{without}
use Rattle.rs_derive.specs.Moves.{Spot, spot}
use Rattle.rs_derive.specs.declared.targets.Change.{Change}
use Rattle.rs_derive.specs.declared.targets.Change.TheVariants.{Same, Without, With}
use Rattle.rs_derive.specs.declared.targets.EdgeTarget.{EdgeTarget}

-- two acts are the same
abbrev pub same_act : Act → Act → Bool
same_act (Puts p l s) (Puts q k t) = (p.0 == q.0) && ((l.0 == k.0) && (sort_number s == sort_number t))
same_act (Takes p l s) (Takes q k t) = (p.0 == q.0) && ((l.0 == k.0) && (sort_number s == sort_number t))
same_act (Puts p l s) (Takes q k t) = false
same_act (Takes p l s) (Puts q k t) = false

-- whether two lists of acts are the same
abbrev pub same_acts : List Act → List Act → Bool
same_acts [] [] = true
same_acts [] (b ∷ bs) = false
same_acts (a ∷ as') [] = false
same_acts (a ∷ as') (b ∷ bs) = same_act a b && same_acts as' bs

-- whether two spots are the same
abbrev pub same_spot : Spot → Spot → Bool
same_spot p q = (p.state == q.state) && ((p.above == q.above) && same_acts p.pending q.pending)

-- what is owed after the change, if these acts were owed before
abbrev pub owed_behind : List Act → Change → List Act
owed_behind pending Same = pending
owed_behind pending (Without place) = without pending place
owed_behind pending (With x) = pending ++ x ∷ []

-- the spot of a target, where these acts were owed
abbrev pub target_spot : List Act → EdgeTarget → Spot
target_spot pending t = spot t.state (owed_behind pending t.change) t.above
