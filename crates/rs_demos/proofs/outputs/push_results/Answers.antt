use Rattle.std.proofs.Common.{ℕ, List, ◌++◌, ◌∷◌, [], map, ap, ◌∙◌, append_assoc}
use Rattle.rs_demos.specs.Outputs.{result_of}
use Rattle.rs_demos.specs.Printing.{joined_text}
use Rattle.rs_demos.proofs.Printed.{on_ok, results_are}
use Rattle.rs_demos.proofs.outputs.push_results.Goals as goal

pub returns : goal.returns
returns c =
    on_ok c.push.result
    (λ e. e ∙ ap (λ (z : List ℕ). z ++ (10 ∷ [])) c.in_ok-push_joined.ensures
    ∙ append_assoc c.args.text.now (joined_text (map result_of c.args.actors.now)) (10 ∷ [])
    ∙ ap (λ (z : List ℕ). c.args.text.now ++ (z ++ (10 ∷ []))) (results_are (map result_of c.args.actors.now)))
    c.push.ensures.ok
