use Rattle.std.proofs.Common.{◌≡◌, ◌++◌, codes, drop, map}
use Rattle.rs_derivations.specs.Canonical.{tree_of_act}
use Rattle.rs_derivations.specs.Lists.{with_separators}
use Rattle.rs_derivations.specs.Texts.{act_text}
use Rattle.rs_derivations.proofs.printing.push_later_acts.Given as goal

abbrev pub invariant-loop-act : goal.invariant-loop-act
invariant-loop-act l =
    l.text ++ with_separators (codes ", ") act_text (map (tree_of_act l.names) (drop l.act-index l.acts)) ≡ l.initial.text ++ with_separators (codes ", ") act_text (map (tree_of_act l.names) l.acts)
