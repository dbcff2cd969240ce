-- Public: of each act that is owed after a walk the talk behind it, as the walk passes it.
use Rattle.std.specs.Prelude.{◌-◌, List, [], ◌∷◌, ◌++◌, length, slice_index_or, Option, Some, None}
use Rattle.std.specs.List.{remove}
use Rattle.rs_derive.specs.Moves.{Spot}
use Rattle.rs_derive.specs.declared.rules.Rule.{Rule}
use Rattle.rs_derive.specs.declared.rules.Rule.TheVariants.{Pays, Guesses, Follows}
use Rattle.rs_explain.specs.Walks.{WalkStep_data}
use Rattle.rs_walk_texts.specs.Data.{WalkSource_data}
use Rattle.rs_walk_texts.specs.Walks.{rule_of, talks_along}
use Rattle.rs_walk_texts.specs.declared.passed.TalkArm.{TalkArm}

-- after a step by the rule, which passes this talk: an act that is made takes its talk away, and an act that is put off adds this one
abbrev pub owed_after : Option Rule → Option TalkArm → List (Option TalkArm) → List (Option TalkArm)
owed_after (Some (Pays place arm)) talk owed = remove owed place
owed_after (Some (Guesses peer)) talk owed = owed ++ talk ∷ []
owed_after (Some (Follows peer)) talk owed = owed ++ talk ∷ []
owed_after _ talk owed = owed

-- after the steps of a walk from p, which pass these talks
abbrev pub owed_along : WalkSource_data → Spot → List WalkStep_data → List (Option TalkArm) → List (Option TalkArm) → List (Option TalkArm)
owed_along source p [] talks owed = owed
owed_along source p (s ∷ later) [] owed = owed
owed_along source p (s ∷ later) (t ∷ talks) owed = owed_along source s.spot later talks (owed_after (rule_of source p) t owed)

-- after a walk from p, at which nothing is owed
abbrev pub talks_owed : WalkSource_data → Spot → List WalkStep_data → List (Option TalkArm)
talks_owed source p steps = owed_along source p steps (talks_along source p steps) []

-- the talk behind the newest act that is owed
abbrev pub newest_talk : List (Option TalkArm) → Option TalkArm
newest_talk owed = slice_index_or owed (length owed - 1) None
