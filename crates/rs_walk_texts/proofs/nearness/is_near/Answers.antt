use Rattle.std.proofs.Common.{rules, ◌≡◌, ◌∙◌, sym}
use Rattle.rs_walk_texts.specs.Nearness as spec
use Rattle.rs_walk_texts.proofs.Near.{near_right, near_whole}
use Rattle.rs_walk_texts.proofs.nearness.is_near.Goals as goal

pub returns-clause-told : goal.returns-clause-told
returns-clause-told c =
    let e : c.differ_by_one.result ≡ spec.is_near c.args.one.now c.args.other.now = search rules in
    (λ h. near_right c.args.one.now c.args.other.now (sym e ∙ h), λ n. e ∙ near_whole c.args.one.now c.args.other.now n)
