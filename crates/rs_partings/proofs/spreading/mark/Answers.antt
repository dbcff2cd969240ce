use Rattle.std.proofs.Common.{◌≡◌, ◌+◌, false, true, get_or, length, set, ℕ, List, subst, sym}
use Rattle.rs_project.specs.Marks.{count_of_lowered}
use Rattle.rs_project.proofs.Flags.{read_flag}
use Rattle.rs_partings.specs.Rows.{GrownSoFar}
use Rattle.rs_partings.proofs.Growing.{grown_now, mark_owed}
use Rattle.rs_partings.proofs.spreading.mark.Goals as goal

pub returns-clause-owed : goal.returns-clause-owed
returns-clause-owed c =
    let marks = c.args.marks.now.items in
    let off : get_or marks c.args.number false ≡ false = read_flag marks c.args.number c.index.result.now false c.requires c.index.ensures c.if-index.false in
    let P : List ℕ → Type 0 = λ z. count_of_lowered (set marks c.args.number true) + length z ≡ count_of_lowered marks + length c.args.numbers.now.items in
    subst P (sym c.in_ok-push.ensures.items) (mark_owed marks c.args.numbers.now.items c.args.number c.requires off)

pub returns-clause-keeps : goal.returns-clause-keeps
returns-clause-keeps c = λ rows starts soon done g.
    let P : List ℕ → Type 0 = λ z. GrownSoFar rows starts (set c.args.marks.now.items c.args.number true) z done soon in
    subst P (sym c.in_ok-push.ensures.items) (grown_now rows starts c.args.marks.now.items c.args.numbers.now.items done c.args.number soon c.requires g)
