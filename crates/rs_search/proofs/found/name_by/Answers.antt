use Rattle.std.proofs.Common.{[], ◌∷◌, List, subst, sym, map, IfOk, OnErr}
use Rattle.std.proofs.lemmas.Result.{IfOk-weaker, on_err_weaker}
use Rattle.rs_derive.specs.Due.{nexts_by}
use Rattle.rs_derive.specs.Moves.{Spot, owing_receive, owing_send}
use Rattle.rs_derive.specs.Rules.{RuleFits, arms_at}
use Rattle.rs_derive.specs.Within.{HasLabelsOnce}
use Rattle.rs_derive.specs.declared.rules.Rule.{Rule}
use Rattle.rs_model.specs.declared.graph.Arm.{Arm}
use Rattle.rs_derive.specs.declared.rules.Rule.TheVariants.{SendsBoth, Guesses, Follows}
use Rattle.rs_graph.specs.Naming.{AreNamed, Grown}
use Rattle.rs_graph.specs.Lists.{concat}
use Rattle.rs_graph.proofs.Growth.{named_none}
use Rattle.rs_search.specs.Itself.{AreNamedAt, GrowsBy}
use Rattle.rs_search.specs.Table.{numbers_of}
use Rattle.rs_search.proofs.Naming.{on_err}
use Rattle.rs_search.proofs.Turning.{followed_is, guessed_is}
use Rattle.rs_search.proofs.found.name_by.Goals as goal

pub returns-in-Stops-clause-named : goal.returns-in-Stops-clause-named
returns-in-Stops-clause-named c = λ p h.
    subst (λ (r : Rule). AreNamed c.args.table.now.spots (concat (nexts_by p (arms_at c.args.state.now) (arms_at c.args.there.now) r)) c.args.table.now.spots c.new-none.result) (sym c.in-Stops.is)
    (rw c.new-none.ensures (named_none c.args.table.now.spots))

pub name_paid-requires-clause-owed : goal.name_paid-requires-clause-owed
name_paid-requires-clause-owed c = λ p e. subst (λ (r : Rule). RuleFits p.pending (arms_at c.args.state.now) (arms_at c.args.there.now) r) c.in-Pays.is (c.requires.fits p e)

pub returns-in_ok-n-in-Pays-clause-named : goal.returns-in_ok-n-in-Pays-clause-named
returns-in_ok-n-in-Pays-clause-named c =
    subst (λ (r : Rule). AreNamedAt (λ p. concat (nexts_by p (arms_at c.args.state.now) (arms_at c.args.there.now) r)) c.args.table.now.spots c.args.k c.name_paid.new.table.spots (c.in_ok-n-in-Pays.n ∷ []))
    (sym c.in-Pays.is) c.in_ok-n-in-Pays.ensures.named

pub returns-in_err-n-in-Pays-clause-grown : goal.returns-in_err-n-in-Pays-clause-grown
returns-in_err-n-in-Pays-clause-grown c =
    on_err _ (subst (λ (r : Rule). GrowsBy (λ p. concat (nexts_by p (arms_at c.args.state.now) (arms_at c.args.there.now) r)) c.args.table.now.spots c.args.k c.name_paid.new.table.spots)
    (sym c.in-Pays.is) c.in_err-n-in-Pays.ensures.grown)

pub name_sent-requires-clause-once : goal.name_sent-requires-clause-once
name_sent-requires-clause-once c = subst HasLabelsOnce (sym c.arms_at-arms.ensures) c.requires.once.ours

pub name_owing-requires-clause-once : goal.name_owing-requires-clause-once
name_owing-requires-clause-once c = subst HasLabelsOnce (sym c.arms_at-theirs-in-Guesses.ensures) c.requires.once.theirs_too

pub returns-in-SendsBoth-clause-named : goal.returns-in-SendsBoth-clause-named
returns-in-SendsBoth-clause-named c =
    subst (λ (r : Rule). IfOk c.name_sent.result
    (λ row. AreNamedAt (λ p. concat (nexts_by p (arms_at c.args.state.now) (arms_at c.args.there.now) r)) c.args.table.now.spots c.args.k c.name_sent.new.table.spots (numbers_of row)))
    (sym c.in-SendsBoth.is)
    (subst (λ (y : List Arm). IfOk c.name_sent.result
    (λ row. AreNamedAt (λ p. concat (nexts_by p y (arms_at c.args.there.now) SendsBoth)) c.args.table.now.spots c.args.k c.name_sent.new.table.spots (numbers_of row))) c.arms_at-arms.ensures
    (subst (λ (z : List Arm). IfOk c.name_sent.result
    (λ row. AreNamedAt (λ p. concat (nexts_by p c.arms_at-arms.result.now z SendsBoth)) c.args.table.now.spots c.args.k c.name_sent.new.table.spots (numbers_of row))) c.arms_at-theirs.ensures
    c.name_sent.ensures.named))

pub returns-in-SendsBoth-clause-grown : goal.returns-in-SendsBoth-clause-grown
returns-in-SendsBoth-clause-grown c =
    subst (λ (r : Rule). OnErr c.name_sent.result (GrowsBy (λ p. concat (nexts_by p (arms_at c.args.state.now) (arms_at c.args.there.now) r)) c.args.table.now.spots c.args.k c.name_sent.new.table.spots))
    (sym c.in-SendsBoth.is)
    (subst (λ (y : List Arm). OnErr c.name_sent.result (GrowsBy (λ p. concat (nexts_by p y (arms_at c.args.there.now) SendsBoth)) c.args.table.now.spots c.args.k c.name_sent.new.table.spots))
    c.arms_at-arms.ensures
    (subst (λ (z : List Arm). OnErr c.name_sent.result (GrowsBy (λ p. concat (nexts_by p c.arms_at-arms.result.now z SendsBoth)) c.args.table.now.spots c.args.k c.name_sent.new.table.spots))
    c.arms_at-theirs.ensures c.name_sent.ensures.grown))

pub returns-in-Guesses-clause-named : goal.returns-in-Guesses-clause-named
returns-in-Guesses-clause-named c =
    subst (λ (r : Rule). IfOk c.name_owing.result
    (λ row. AreNamedAt (λ p. concat (nexts_by p (arms_at c.args.state.now) (arms_at c.args.there.now) r)) c.args.table.now.spots c.args.k c.name_owing.new.table.spots (numbers_of row))) (sym c.in-Guesses.is)
    (IfOk-weaker c.name_owing.result
    (λ row. AreNamedAt (λ p. map (λ b. owing_send p c.in-Guesses.peer b) (arms_at c.args.there.now)) c.args.table.now.spots c.args.k c.name_owing.new.table.spots (numbers_of row))
    (λ row. AreNamedAt (λ p. concat (nexts_by p (arms_at c.args.state.now) (arms_at c.args.there.now) (Guesses c.in-Guesses.peer))) c.args.table.now.spots c.args.k c.name_owing.new.table.spots (numbers_of row))
    (λ row n p h. subst (λ (z : List Spot). AreNamed c.args.table.now.spots z c.name_owing.new.table.spots (numbers_of row)) (sym (guessed_is p c.in-Guesses.peer (arms_at c.args.there.now)))
    (n p h))
    (subst (λ (z : List Arm). IfOk c.name_owing.result
    (λ row. AreNamedAt (λ p. map (λ b. owing_send p c.in-Guesses.peer b) z) c.args.table.now.spots c.args.k c.name_owing.new.table.spots (numbers_of row))) c.arms_at-theirs-in-Guesses.ensures
    c.name_owing.ensures.named))

pub returns-in-Guesses-clause-grown : goal.returns-in-Guesses-clause-grown
returns-in-Guesses-clause-grown c =
    let f : GrowsBy (λ p. map (λ b. owing_send p c.in-Guesses.peer b) (arms_at c.args.there.now)) c.args.table.now.spots c.args.k c.name_owing.new.table.spots
    → GrowsBy (λ p. concat (nexts_by p (arms_at c.args.state.now) (arms_at c.args.there.now) (Guesses c.in-Guesses.peer))) c.args.table.now.spots c.args.k c.name_owing.new.table.spots =
    λ g p h. subst (λ (z : List Spot). Grown c.args.table.now.spots z c.name_owing.new.table.spots) (sym (guessed_is p c.in-Guesses.peer (arms_at c.args.there.now))) (g p h) in
    subst (λ (r : Rule). OnErr c.name_owing.result (GrowsBy (λ p. concat (nexts_by p (arms_at c.args.state.now) (arms_at c.args.there.now) r)) c.args.table.now.spots c.args.k c.name_owing.new.table.spots))
    (sym c.in-Guesses.is)
    (on_err_weaker c.name_owing.result f
    (subst (λ (z : List Arm). OnErr c.name_owing.result (GrowsBy (λ p. map (λ b. owing_send p c.in-Guesses.peer b) z) c.args.table.now.spots c.args.k c.name_owing.new.table.spots))
    c.arms_at-theirs-in-Guesses.ensures c.name_owing.ensures.grown))

pub returns-in-Follows-clause-named : goal.returns-in-Follows-clause-named
returns-in-Follows-clause-named c =
    subst (λ (r : Rule). IfOk c.name_owing-in-Follows.result
    (λ row. AreNamedAt (λ p. concat (nexts_by p (arms_at c.args.state.now) (arms_at c.args.there.now) r)) c.args.table.now.spots c.args.k c.name_owing-in-Follows.new.table.spots (numbers_of row))) (sym c.in-Follows.is)
    (IfOk-weaker c.name_owing-in-Follows.result
    (λ row. AreNamedAt (λ p. map (λ b. owing_receive p c.in-Follows.peer b) (arms_at c.args.there.now)) c.args.table.now.spots c.args.k c.name_owing-in-Follows.new.table.spots (numbers_of row))
    (λ row. AreNamedAt (λ p. concat (nexts_by p (arms_at c.args.state.now) (arms_at c.args.there.now) (Follows c.in-Follows.peer))) c.args.table.now.spots c.args.k c.name_owing-in-Follows.new.table.spots
    (numbers_of row))
    (λ row n p h. subst (λ (z : List Spot). AreNamed c.args.table.now.spots z c.name_owing-in-Follows.new.table.spots (numbers_of row)) (sym (followed_is p c.in-Follows.peer (arms_at c.args.there.now)))
    (n p h))
    (subst (λ (z : List Arm). IfOk c.name_owing-in-Follows.result
    (λ row. AreNamedAt (λ p. map (λ b. owing_receive p c.in-Follows.peer b) z) c.args.table.now.spots c.args.k c.name_owing-in-Follows.new.table.spots (numbers_of row))) c.arms_at-theirs-in-Follows.ensures
    c.name_owing-in-Follows.ensures.named))

pub returns-in-Follows-clause-grown : goal.returns-in-Follows-clause-grown
returns-in-Follows-clause-grown c =
    let f : GrowsBy (λ p. map (λ b. owing_receive p c.in-Follows.peer b) (arms_at c.args.there.now)) c.args.table.now.spots c.args.k c.name_owing-in-Follows.new.table.spots
    → GrowsBy (λ p. concat (nexts_by p (arms_at c.args.state.now) (arms_at c.args.there.now) (Follows c.in-Follows.peer))) c.args.table.now.spots c.args.k c.name_owing-in-Follows.new.table.spots =
    λ g p h. subst (λ (z : List Spot). Grown c.args.table.now.spots z c.name_owing-in-Follows.new.table.spots) (sym (followed_is p c.in-Follows.peer (arms_at c.args.there.now))) (g p h) in
    subst (λ (r : Rule). OnErr c.name_owing-in-Follows.result
    (GrowsBy (λ p. concat (nexts_by p (arms_at c.args.state.now) (arms_at c.args.there.now) r)) c.args.table.now.spots c.args.k c.name_owing-in-Follows.new.table.spots)) (sym c.in-Follows.is)
    (on_err_weaker c.name_owing-in-Follows.result f
    (subst (λ (z : List Arm). OnErr c.name_owing-in-Follows.result (GrowsBy (λ p. map (λ b. owing_receive p c.in-Follows.peer b) z) c.args.table.now.spots c.args.k c.name_owing-in-Follows.new.table.spots))
    c.arms_at-theirs-in-Follows.ensures c.name_owing-in-Follows.ensures.grown))
