use Rattle.std.proofs.Common.{ap, sym, ◌∙◌, ◌∷◌, []}
use Rattle.rs_derive.specs.Targets.{owed_behind}
use Rattle.rs_search.specs.Buckets.{acts_code}
use Rattle.rs_search.proofs.Filing.{code_append}
use Rattle.rs_search.proofs.table.code_behind.Goals as goal

pub returns-in-With : goal.returns-in-With
returns-in-With c =
    c.next_code.ensures
    ∙ ap (λ z. acts_code z (c.in-With.act ∷ [])) c.requires.code
    ∙ sym (code_append c.args.pending.now (c.in-With.act ∷ []) 0)
    ∙ ap (λ z. acts_code 0 (owed_behind c.args.pending.now z)) (sym c.in-With.is)
