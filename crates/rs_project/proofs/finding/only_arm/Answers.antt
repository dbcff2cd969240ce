use Rattle.std.proofs.Common.{◌∷◌, [], List, refl, subst}
use Rattle.rs_project.specs.Numbered.{nexts_of}
use Rattle.rs_project.specs.Projection.{LabelChoice, merged_choices}
use Rattle.rs_project.specs.Working.{ArmsFault, Discovers}
use Rattle.rs_project.proofs.Behind.{fault_behind, finds_behind}
use Rattle.rs_project.proofs.Handed.{handed_on}
use Rattle.rs_project.proofs.Numbers.{discovers_none, arm_more, arms_fault}
use Rattle.rs_project.proofs.finding.only_arm.Goals as goal

pub returns-in_err-next-clause-err : goal.returns-in_err-next-clause-err
returns-in_err-next-clause-err c =
    let pr = c.args.search.now.survey.protocol in
    let role = c.args.search.now.survey.role in
    let fronts = c.args.search.now.fronts in
    let a = c.args.choice in
    let e = c.in_err-next.field-0.0 in
    let talks = c.args.talk ∷ [] in
    let Q : List LabelChoice → Type 0 = λ z. ArmsFault pr role fronts talks z e in
    handed_on c.from_residual.result e (λ e. ArmsFault pr role fronts talks (merged_choices pr talks) e)
    c.from_residual.ensures.1
    (subst Q c.requires.only.alone
    (arms_fault pr role fronts fronts talks (a ∷ []) 0 a [] refl (discovers_none pr role fronts talks c.requires.found) e
    (fault_behind pr role fronts talks a.label (a.next ∷ []) c.requires.only.led e c.in_err-next.ensures.err)))

pub returns-clause-ok : goal.returns-clause-ok
returns-clause-ok c =
    let pr = c.args.search.now.survey.protocol in
    let role = c.args.search.now.survey.role in
    let fronts = c.args.search.now.fronts in
    let new = c.find_from.new.self.fronts in
    let a = c.args.choice in
    let n = c.in_ok-next.next in
    let talks = c.args.talk ∷ [] in
    let Q : List LabelChoice → Type 0 = λ z. Discovers pr role fronts talks z new (nexts_of c.of_one.result) in
    subst Q c.requires.only.alone
    (arm_more pr role c.args.search.now.survey fronts fronts new talks (a ∷ []) 0 a [] c.of_one.result n c.requires.survey c.requires.only.alone refl c.of_one.ensures
    (discovers_none pr role fronts talks c.requires.found)
    (finds_behind pr role fronts talks a.label (a.next ∷ []) new n c.requires.only.led c.in_ok-next.ensures.ok))
