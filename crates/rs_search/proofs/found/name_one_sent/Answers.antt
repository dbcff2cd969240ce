use Rattle.std.proofs.Common.{[], ◌∷◌, List, Option, subst, sym}
use Rattle.rs_model.specs.declared.graph.Arm.{Arm}
use Rattle.rs_derive.specs.Targets.{target_spot}
use Rattle.rs_derive.specs.Due.{both_at}
use Rattle.rs_derive.specs.Moves.{Spot}
use Rattle.rs_graph.proofs.Growth.{named_none}
use Rattle.rs_graph.specs.Naming.{AreNamed, Grown}
use Rattle.rs_search.specs.Itself.{GrowsBy}
use Rattle.rs_search.proofs.Naming.{both_is, on_err}
use Rattle.rs_search.proofs.found.name_one_sent.Goals as goal

pub returns-in_ok-n-in-Some-clause-named : goal.returns-in_ok-n-in-Some-clause-named
returns-in_ok-n-in-Some-clause-named c = λ p h.
    let t = target_spot p.pending c.target_of_both.result in
    subst (λ (z : List Spot). AreNamed c.args.table.now.spots z c.name_one.new.table.spots (c.in_ok-n-in-Some.n ∷ []))
    (sym (both_is p.pending c.args.arm c.in-Some.their c.args.their t c.in-Some.is (c.target_of_both.ensures.spot p.pending)))
    (c.in_ok-n-in-Some.ensures.named p h)

pub returns-in_err-n-in-Some-clause-grown : goal.returns-in_err-n-in-Some-clause-grown
returns-in_err-n-in-Some-clause-grown c =
    let w : GrowsBy (λ p. both_at p.pending c.args.arm c.args.their) c.args.table.now.spots c.args.k c.name_one.new.table.spots = λ p h.
    let t = target_spot p.pending c.target_of_both.result in
    subst (λ (z : List Spot). Grown c.args.table.now.spots z c.name_one.new.table.spots)
    (sym (both_is p.pending c.args.arm c.in-Some.their c.args.their t c.in-Some.is (c.target_of_both.ensures.spot p.pending)))
    (c.in_err-n-in-Some.ensures.grown p h) in
    on_err _ w

pub returns-in-None-clause-named : goal.returns-in-None-clause-named
returns-in-None-clause-named c = λ p h.
    subst (λ (o : Option Arm). AreNamed c.args.table.now.spots (both_at p.pending c.args.arm o) c.args.table.now.spots c.new-none.result) (sym c.in-None.is)
    (rw c.new-none.ensures (named_none c.args.table.now.spots))
