use Rattle.std.proofs.Common.{List, get_or, map, subst}
use Rattle.std.proofs.lemmas.Result.{IfOk-weaker, on_err_weaker}
use Rattle.rs_model.specs.declared.graph.Arm.{Arm}
use Rattle.rs_model.specs.declared.values.Sort.TheVariants as sort
use Rattle.rs_derive.specs.Due.{both_at}
use Rattle.rs_derive.specs.Moves.{Spot, arm_of}
use Rattle.rs_graph.specs.Lists.{concat}
use Rattle.rs_graph.specs.Naming.{AreNamed, Grown}
use Rattle.rs_search.specs.Itself.{AreNamedAt, GrowsBy}
use Rattle.rs_search.specs.Table.{numbers_of}
use Rattle.rs_search.proofs.Naming.{both_one}
use Rattle.rs_search.proofs.found.name_sent.Goals as goal

pub returns-in-len1-clause-named : goal.returns-in-len1-clause-named
returns-in-len1-clause-named c =
    let old = c.args.table.now.spots in
    let new = c.name_one_sent.new.table.spots in
    let theirs = c.args.theirs.now in
    let none : Arm = record { label = record { 0 = 0 }; sort = sort.Unit; next = 0 } in
    IfOk-weaker c.name_one_sent.result (λ nexts. AreNamedAt (λ p. both_at p.pending (get_or c.args.arms.now 0 none) c.arm_of-their.result) old c.args.k new (numbers_of nexts))
    (λ nexts. AreNamedAt (λ p. concat (map (λ a. both_at p.pending a (arm_of theirs a.label)) c.args.arms.now)) old c.args.k new (numbers_of nexts))
    (λ nexts n p h. subst (λ (z : List Spot). AreNamed old z new (numbers_of nexts))
    (both_one p.pending theirs c.args.arms.now none c.arm_of-their.result c.in-len1.len_at_least c.in-len1.len_below c.arm_of-their.ensures.arm) (n p h)) c.name_one_sent.ensures.named

pub returns-in-len1-clause-grown : goal.returns-in-len1-clause-grown
returns-in-len1-clause-grown c =
    let old = c.args.table.now.spots in
    let new = c.name_one_sent.new.table.spots in
    let theirs = c.args.theirs.now in
    let none : Arm = record { label = record { 0 = 0 }; sort = sort.Unit; next = 0 } in
    let f : GrowsBy (λ p. both_at p.pending (get_or c.args.arms.now 0 none) c.arm_of-their.result) old c.args.k new
    → GrowsBy (λ p. concat (map (λ a. both_at p.pending a (arm_of theirs a.label)) c.args.arms.now)) old c.args.k new =
    λ g p h. subst (λ (z : List Spot). Grown old z new)
    (both_one p.pending theirs c.args.arms.now none c.arm_of-their.result c.in-len1.len_at_least c.in-len1.len_below c.arm_of-their.ensures.arm) (g p h) in
    on_err_weaker c.name_one_sent.result f c.name_one_sent.ensures.grown
