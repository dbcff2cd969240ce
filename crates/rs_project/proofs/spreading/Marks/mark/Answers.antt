use Rattle.std.proofs.Common.{◌≡◌, ◌+◌, length, sym, subst, ◌∙◌}
use Rattle.rs_project.specs.Marks.{Marks_data, Walking, count_of_lowered}
use Rattle.rs_project.proofs.Walks.{mark_owed, walk_before, walk_now}
use Rattle.rs_project.proofs.spreading.Marks.mark.Goals as goal

pub returns-in_ok-add-clause-owed : goal.returns-in_ok-add-clause-owed
returns-in_ok-add-clause-owed c =
    let P : Marks_data → Type 0 = λ z. count_of_lowered z.flags + length z.numbers ≡ count_of_lowered c.args.self.now.flags + length c.args.self.now.numbers in
    subst P (sym c.in_ok-add.ensures) (mark_owed c.args.self.now c.args.number c.requires (sym c.has.ensures ∙ c.if-not-has.true))

pub returns-in_ok-add-clause-keeps : goal.returns-in_ok-add-clause-keeps
returns-in_ok-add-clause-keeps c = λ pr th starts soon done w.
    let P : Marks_data → Type 0 = λ z. Walking pr th starts z done soon in
    subst P (sym c.in_ok-add.ensures) (walk_now pr th starts c.args.self.now done c.args.number soon c.requires w)

pub returns-else-not-has-clause-keeps : goal.returns-else-not-has-clause-keeps
returns-else-not-has-clause-keeps c = λ pr th starts soon done w.
    walk_before pr th starts c.args.self.now done c.args.number soon (sym c.has.ensures ∙ c.if-not-has.false) w
