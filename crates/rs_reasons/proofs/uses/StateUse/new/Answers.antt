use Rattle.std.proofs.Common.{◌∙◌, ℕ, List, Bool, false, ap, replicate}
use Rattle.rs_reasons.proofs.Marking.{none_taken}
use Rattle.rs_reasons.proofs.uses.StateUse.new.Goals as goal

pub returns : goal.returns
returns c =
    let items = c.in_ok-vec.ensures.items_if_clones_equal (λ y p. p) in
    λ number. ap (λ (z : List Bool). record { visited = false; taken = z }) (items ∙ ap (λ (n : ℕ). replicate n false) c.receives_of.ensures ∙ none_taken number c.args.state.now)
