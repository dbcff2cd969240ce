use Rattle.std.proofs.Common.{rules, ◌≡◌, ◌∷◌, ◌++◌, ◌+◌, [], List, sym, subst}
use Rattle.rs_derive.specs.Data.{Derivation_data}
use Rattle.rs_answers.specs.Derivations.{AreFirstCanonical}
use Rattle.rs_answers.specs.Machines.{machine_or, machines_of}
use Rattle.rs_answers.proofs.Derivings.{next_canonical, underivable}
use Rattle.rs_answers.proofs.Figuring.{place_of_role, role_at}
use Rattle.rs_answers.proofs.derivations.derivations_of.Goals as goal

pub bounds-own-place : goal.bounds-own-place
bounds-own-place c = place_of_role c.requires.session.0 c.args.own.now c.args.projections.now c.requires.session.1 c.loop-place.place (search rules)

pub derivation_of-requires-clause-ours : goal.derivation_of-requires-clause-ours
derivation_of-requires-clause-ours c =
    (role_at c.requires.session.0 c.args.own.now c.args.projections.now c.requires.session.1 c.loop-place.place (search rules) c.index-own-place.result c.index-projections-place.result
    c.index-own-place.is c.index-projections-place.is).ours

pub derivation_of-requires-clause-theirs : goal.derivation_of-requires-clause-theirs
derivation_of-requires-clause-theirs c =
    (role_at c.requires.session.0 c.args.own.now c.args.projections.now c.requires.session.1 c.loop-place.place (search rules) c.index-own-place.result c.index-projections-place.result
    c.index-own-place.is c.index-projections-place.is).theirs

pub returns-in-Err-clause-err : goal.returns-in-Err-clause-err
returns-in-Err-clause-err c =
    let own = c.args.own.now in
    let ps = c.args.projections.now in
    let here = role_at c.requires.session.0 own ps c.requires.session.1 c.loop-place.place (search rules) c.index-own-place.result c.index-projections-place.result c.index-own-place.is
    c.index-projections-place.is in
    underivable c.args.bound (machines_of own ps) ps (record { 0 = c.loop-place.place }) c.loop-place.derivations.items (machine_or c.index-own-place.result c.index-projections-place.result)
    c.index-projections-place.result c.in-Err.fault c.loop-place.invariant here.runs here.projects c.in-Err.ensures.err

pub loop-place-preserved : goal.loop-place-preserved
loop-place-preserved c =
    let own = c.args.own.now in
    let ps = c.args.projections.now in
    let here = role_at c.requires.session.0 own ps c.requires.session.1 c.loop-place.place (search rules) c.index-own-place.result c.index-projections-place.result c.index-own-place.is
    c.index-projections-place.is in
    let is : c.push.new.self.items ≡ c.loop-place.derivations.items ++ (c.in-Ok.derivation ∷ []) = search rules in
    subst (λ (z : List Derivation_data). AreFirstCanonical c.args.bound (machines_of own ps) ps (c.loop-place.place + 1) z) (sym is)
    (next_canonical c.args.bound (machines_of own ps) ps c.loop-place.place c.loop-place.derivations.items (machine_or c.index-own-place.result c.index-projections-place.result)
    c.index-projections-place.result c.in-Ok.derivation c.loop-place.invariant here.runs here.projects c.in-Ok.ensures.ok)
