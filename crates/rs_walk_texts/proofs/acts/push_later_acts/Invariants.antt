use Rattle.std.proofs.Common.{◌≡◌, ◌++◌, take}
use Rattle.std.specs.List.{flat_map}
use Rattle.rs_walk_texts.specs.Heads.{act_text, behind_comma}
use Rattle.rs_walk_texts.proofs.acts.push_later_acts.Given as goal

abbrev pub invariant-loop-act : goal.invariant-loop-act
invariant-loop-act l = l.text ≡ l.fn.text ++ flat_map (behind_comma (act_text l.names)) (take l.act-index l.acts)
