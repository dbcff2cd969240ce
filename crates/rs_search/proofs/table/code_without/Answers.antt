use Rattle.std.proofs.Common.{ap, sym, ◌∙◌, ◌++◌, drop, take}
use Rattle.rs_derive.proofs.Acts.{drop_one}
use Rattle.rs_search.specs.Buckets.{acts_code}
use Rattle.rs_search.proofs.Filing.{code_append}
use Rattle.rs_search.proofs.table.code_without.Goals as goal

pub returns : goal.returns
returns c =
    c.acts_code-2.ensures
    ∙ ap (λ z. acts_code z c.split_at-2.result.1.now) c.acts_code.ensures
    ∙ sym (code_append c.split_at.result.0.now c.split_at-2.result.1.now 0)
    ∙ ap (λ x. acts_code 0 (x ++ c.split_at-2.result.1.now)) c.split_at.ensures.front
    ∙ ap (λ x. acts_code 0 (take c.args.place c.args.pending.now ++ x)) (c.split_at-2.ensures.back ∙ ap (λ x. drop 1 x) c.split_at.ensures.back ∙ drop_one c.args.place c.args.pending.now)
