use Rattle.std.proofs.Common.{◌≡◌, List, [], ◌∷◌, ◌++◌, ap, ◌∙◌, subst}
use Rattle.rs_session.specs.Data.{Stage_data}
use Rattle.rs_session.specs.Ends.{KnowsFrom}
use Rattle.streams.proofs.close.Goals as goal

pub returns-clause-knows : goal.returns-clause-knows
returns-clause-knows c =
    let one : c.push.new.ended.items ≡ c.args.source ∷ [] = c.push.ensures.items ∙ ap (λ (l : List Stage_data). l ++ c.args.source ∷ []) c.requires.room.0 in
    let two : c.push-2.new.ended.items ≡ c.args.source ∷ c.args.kernel ∷ [] = c.push-2.ensures.items ∙ ap (λ (l : List Stage_data). l ++ c.args.kernel ∷ []) one in
    let three : c.push-3.new.ended.items ≡ c.args.source ∷ c.args.kernel ∷ c.args.sink ∷ [] = c.push-3.ensures.items ∙ ap (λ (l : List Stage_data). l ++ c.args.sink ∷ []) two in
    subst (λ (l : List Stage_data). KnowsFrom l c.in-Ok.closed) three c.in-Ok.ensures.knows
