use Rattle.std.proofs.Common.{rules, ◌≡◌, ◌∷◌, ◌++◌, ◌+◌, [], List, sym, subst}
use Rattle.rs_safety.specs.declared.rooms.Figures.{Figures}
use Rattle.rs_answers.specs.Figures.{AreFirstFigures}
use Rattle.rs_answers.specs.Machines.{machine_or, machines_of}
use Rattle.rs_answers.proofs.Derivings.{underivable}
use Rattle.rs_answers.proofs.Figuring.{next_figures, place_of_role, role_at}
use Rattle.rs_answers.proofs.figures.figures_of_roles.Goals as goal

pub bounds-own-place : goal.bounds-own-place
bounds-own-place c = place_of_role c.requires.session.0 c.args.own.now c.args.projections.now c.requires.session.1 c.loop-place.place (search rules)

pub role_figures-requires-clause-ours : goal.role_figures-requires-clause-ours
role_figures-requires-clause-ours c =
    (role_at c.requires.session.0 c.args.own.now c.args.projections.now c.requires.session.1 c.loop-place.place (search rules) c.index-own-place.result c.index-projections-place.result
    c.index-own-place.is c.index-projections-place.is).ours

pub role_figures-requires-clause-theirs : goal.role_figures-requires-clause-theirs
role_figures-requires-clause-theirs c =
    (role_at c.requires.session.0 c.args.own.now c.args.projections.now c.requires.session.1 c.loop-place.place (search rules) c.index-own-place.result c.index-projections-place.result
    c.index-own-place.is c.index-projections-place.is).theirs

pub role_figures-requires-clause-order : goal.role_figures-requires-clause-order
role_figures-requires-clause-order c =
    (role_at c.requires.session.0 c.args.own.now c.args.projections.now c.requires.session.1 c.loop-place.place (search rules) c.index-own-place.result c.index-projections-place.result
    c.index-own-place.is c.index-projections-place.is).order

pub returns-in-Err-clause-err : goal.returns-in-Err-clause-err
returns-in-Err-clause-err c =
    let own = c.args.own.now in
    let ps = c.args.projections.now in
    let here = role_at c.requires.session.0 own ps c.requires.session.1 c.loop-place.place (search rules) c.index-own-place.result c.index-projections-place.result c.index-own-place.is
    c.index-projections-place.is in
    underivable c.args.bound (machines_of own ps) ps (record { 0 = c.loop-place.place }) c.loop-place.invariant.derivations
    (machine_or c.index-own-place.result c.index-projections-place.result) c.index-projections-place.result c.in-Err.fault c.loop-place.invariant.canonical here.runs here.projects
    c.in-Err.ensures.err

pub loop-place-preserved : goal.loop-place-preserved
loop-place-preserved c =
    let own = c.args.own.now in
    let ps = c.args.projections.now in
    let here = role_at c.requires.session.0 own ps c.requires.session.1 c.loop-place.place (search rules) c.index-own-place.result c.index-projections-place.result c.index-own-place.is
    c.index-projections-place.is in
    let is : c.push.new.self.items ≡ c.loop-place.all.items ++ (c.in-Ok.figures ∷ []) = search rules in
    subst (λ (z : List Figures). AreFirstFigures c.args.bound (machines_of own ps) ps (c.loop-place.place + 1) z) (sym is)
    (next_figures c.args.bound (machines_of own ps) ps c.loop-place.place c.loop-place.all.items (machine_or c.index-own-place.result c.index-projections-place.result)
    c.index-projections-place.result c.in-Ok.figures c.loop-place.invariant here.runs here.projects c.in-Ok.ensures.ok)
