use Rattle.std.proofs.Common.{◌<◌, ◌∙◌, List, Option, ap, ap₂, length, subst, sym, ℕ}
use Rattle.rs_model.specs.Data.{Protocol_data}
use Rattle.rs_model.specs.declared.graph.Node.{Node}
use Rattle.rs_walk_texts.specs.Data.{WalkSource_data}
use Rattle.rs_walk_texts.proofs.Toward.{told_alone}
use Rattle.rs_walk_texts.specs.Passed.{first_talk, passed_talk}
use Rattle.rs_walk_texts.specs.declared.passed.TalkArm.{TalkArm}
use Rattle.rs_walk_texts.proofs.passed.passed_talk.Goals as goal

pub returns-then-numbers-lt2 : goal.returns-then-numbers-lt2
returns-then-numbers-lt2 c =
    c.first_talk-first.ensures
    ∙ ap₂ (λ (y : List Node) (z : List ℕ). first_talk y c.args.label z)
    (c.deref.ensures.value ∙ ap (λ (p : Protocol_data). p.nodes) c.protocol.view_is ∙ ap (λ (s : WalkSource_data). s.protocol.nodes) c.source.view_is) c.talks_of-numbers.ensures
    ∙ sym (told_alone c.args.source.now c.args.above c.args.label c.in-Some.next (subst (λ (z : List ℕ). length z < 2) c.talks_of-numbers.ensures c.if-numbers-lt2.true))
    ∙ ap (λ (z : Option TalkArm). passed_talk c.args.source.now c.args.above c.args.label z) (sym c.in-Some.is)
