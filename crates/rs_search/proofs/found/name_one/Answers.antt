use Rattle.std.proofs.Common.{[], ◌∷◌, refl}
use Rattle.rs_derive.specs.Targets.{target_spot}
use Rattle.rs_graph.proofs.Growth.{named_none, named_push}
use Rattle.rs_search.specs.Itself.{GrowsBy}
use Rattle.rs_search.proofs.Naming.{grown_one, on_err}
use Rattle.rs_search.proofs.found.name_one.Goals as goal

pub returns-in_err-n-clause-grown : goal.returns-in_err-n-clause-grown
returns-in_err-n-clause-grown c =
    let w : GrowsBy (λ p. target_spot p.pending c.args.target ∷ []) c.args.table.now.spots c.args.k c.number_of.new.self.spots = λ p h.
    grown_one c.args.table.now.spots c.number_of.new.self.spots (target_spot p.pending c.args.target) (c.number_of.ensures.adds p h) in
    on_err _ w

pub returns-clause-named : goal.returns-clause-named
returns-clause-named c = λ p h.
    named_push c.args.table.now.spots [] c.args.table.now.spots c.number_of.new.self.spots (target_spot p.pending c.args.target) c.in_ok-n.n [] (c.in_ok-n.n ∷ []) (named_none c.args.table.now.spots)
    (c.in_ok-n.ensures.named p h) refl
