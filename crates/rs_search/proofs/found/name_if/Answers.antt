use Rattle.std.proofs.Common.{◌++◌, List, subst, sym}
use Rattle.rs_derive.specs.Targets.{target_spot}
use Rattle.rs_derive.specs.Due.{both_at}
use Rattle.rs_derive.specs.Moves.{Spot}
use Rattle.rs_graph.specs.Naming.{AreNamed, Grown}
use Rattle.rs_search.specs.Itself.{GrowsBy}
use Rattle.rs_search.proofs.Naming.{both_is, grown_one, on_err}
use Rattle.rs_search.proofs.found.name_if.Goals as goal

pub returns-in_err-name-in-Some-clause-grown : goal.returns-in_err-name-in-Some-clause-grown
returns-in_err-name-in-Some-clause-grown c =
    let w : GrowsBy (λ p. both_at p.pending c.args.arm c.args.their) c.args.table.now.spots c.args.k c.name.new.table.spots = λ p h.
    let t = target_spot p.pending c.target_of_both.result in
    subst (λ (z : List Spot). Grown c.args.table.now.spots z c.name.new.table.spots)
    (sym (both_is p.pending c.args.arm c.in-Some.their c.args.their t c.in-Some.is (c.target_of_both.ensures.spot p.pending)))
    (grown_one c.args.table.now.spots c.name.new.table.spots t (c.name.ensures.adds p h)) in
    on_err _ w

pub returns-in_ok-name-in-Some-clause-named : goal.returns-in_ok-name-in-Some-clause-named
returns-in_ok-name-in-Some-clause-named c = λ p h old ys a.
    let t = target_spot p.pending c.target_of_both.result in
    subst (λ (z : List Spot). AreNamed old (ys ++ z) c.name.new.table.spots c.name.new.row)
    (sym (both_is p.pending c.args.arm c.in-Some.their c.args.their t c.in-Some.is (c.target_of_both.ensures.spot p.pending)))
    (c.in_ok-name-in-Some.ensures.named p h old ys a)
