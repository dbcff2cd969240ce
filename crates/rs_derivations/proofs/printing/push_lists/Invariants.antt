use Rattle.std.proofs.Common.{◌≡◌, ◌++◌, suc, drop, map}
use Rattle.rs_derivations.specs.Canonical.{tree_of_act}
use Rattle.rs_derivations.specs.Texts.{lists_text_from}
use Rattle.rs_derivations.proofs.printing.push_lists.Given as goal

abbrev pub invariant-loop-place : goal.invariant-loop-place
invariant-loop-place l =
    l.text ++ lists_text_from (suc l.place) (map (λ acts. map (tree_of_act l.names) acts) (map (λ x. x.now) (drop l.place l.lists)))
    ≡ l.initial.text ++ lists_text_from 1 (map (λ acts. map (tree_of_act l.names) acts) (map (λ x. x.now) l.lists))
