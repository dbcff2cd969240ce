use Rattle.std.proofs.Common.{Option, subst, sym, IfOk, IfSome, OnErr}
use Rattle.rs_derive.specs.Rules.{RuleFits, arms_at}
use Rattle.rs_derive.specs.declared.rules.Rule.{Rule}
use Rattle.rs_graph.specs.Naming.{AreNamed}
use Rattle.rs_graph.proofs.Growth.{named_none}
use Rattle.rs_search.specs.Itself.{AreNamedAt, GrowsBy}
use Rattle.rs_search.specs.Turns.{spots_by}
use Rattle.rs_search.specs.Table.{numbers_of}
use Rattle.rs_search.proofs.found.name_all.Goals as goal

pub returns-in-None-clause-named : goal.returns-in-None-clause-named
returns-in-None-clause-named c = λ p h.
    subst (λ (r : Option Rule). AreNamed c.args.table.now.spots (spots_by p (arms_at c.args.state.now) (arms_at c.args.there.now) r) c.args.table.now.spots c.new-none.result) (sym c.in-None.is)
    (rw c.new-none.ensures (named_none c.args.table.now.spots))

pub name_by-requires-clause-fits : goal.name_by-requires-clause-fits
name_by-requires-clause-fits c = λ p e. subst (λ (r : Option Rule). IfSome r (λ z. RuleFits p.pending (arms_at c.args.state.now) (arms_at c.args.there.now) z)) c.in-Some.is (c.requires.fits p e)

pub returns-in-Some-clause-named : goal.returns-in-Some-clause-named
returns-in-Some-clause-named c =
    subst (λ (r : Option Rule). IfOk c.name_by.result
    (λ row. AreNamedAt (λ p. spots_by p (arms_at c.args.state.now) (arms_at c.args.there.now) r) c.args.table.now.spots c.args.k c.name_by.new.table.spots (numbers_of row))) (sym c.in-Some.is) c.name_by.ensures.named

pub returns-in-Some-clause-grown : goal.returns-in-Some-clause-grown
returns-in-Some-clause-grown c =
    subst (λ (r : Option Rule). OnErr c.name_by.result (GrowsBy (λ p. spots_by p (arms_at c.args.state.now) (arms_at c.args.there.now) r) c.args.table.now.spots c.args.k c.name_by.new.table.spots))
    (sym c.in-Some.is) c.name_by.ensures.grown
