use Rattle.std.proofs.Common.{◌∙◌, List, ap, sym, refl}
use Rattle.rs_model.specs.declared.machines.Act.{Act}
use Rattle.rs_derive.specs.Data.{DNode_data}
use Rattle.rs_derive.specs.Derivations.{spot_of}
use Rattle.rs_derive.specs.Rules.{arms_at, keeps_head}
use Rattle.rs_search.specs.Turns.{cuts}
use Rattle.rs_search.proofs.Turning.{told_none, turn_cut, turn_kept}
use Rattle.rs_search.proofs.turns.rule_within.Goals as goal

pub returns-then-is_cut-clause-turn : goal.returns-then-is_cut-clause-turn
returns-then-is_cut-clause-turn c =
    let e = ap (λ (z : DNode_data). z.pending) c.p.view_is in
    told_none _ _ _ _ _ c.no_turn.ensures
    ∙ turn_cut c.args.bound (spot_of c.args.p.now) (arms_at c.args.state.now) (arms_at c.args.there.now) c.args.rule c.requires.short
    (ap (λ (xs : List Act). cuts c.args.bound xs (arms_at c.args.there.now) c.args.rule) (sym e) ∙ sym c.is_cut.ensures ∙ c.if-is_cut.true)

pub returns-clause-turn : goal.returns-clause-turn
returns-clause-turn c =
    let e = ap (λ (z : DNode_data). z.pending) c.p.view_is in
    turn_kept c.args.bound (spot_of c.args.p.now) (arms_at c.args.state.now) (arms_at c.args.there.now) c.args.rule _ c.requires.short
    (ap (λ (xs : List Act). cuts c.args.bound xs (arms_at c.args.there.now) c.args.rule) (sym e) ∙ sym c.is_cut.ensures ∙ c.if-is_cut.false)
    refl c.may_choose.ensures (c.keeps_head.ensures ∙ ap (λ (xs : List Act). keeps_head xs c.args.rule) e) refl
