use Rattle.std.proofs.Common.{◌≡◌, ◌∙◌, [], ◌∷◌, List, map, subst, sym}
use Rattle.std.proofs.lemmas.Option.{same_Some}
use Rattle.rs_derive.specs.Derivations.{spot_of}
use Rattle.rs_derive.specs.Moves.{Spot}
use Rattle.rs_graph.specs.Naming.{AreNamed, Grown}
use Rattle.rs_search.specs.Itself.{GrowsBy}
use Rattle.rs_search.specs.Turns.{owing_by}
use Rattle.rs_search.proofs.Filing.{owing_one}
use Rattle.rs_search.proofs.Naming.{on_err}
use Rattle.rs_search.proofs.found.name_owing.Goals as goal

pub returns-in_ok-n-in-len1-clause-named : goal.returns-in_ok-n-in-len1-clause-named
returns-in_ok-n-in-len1-clause-named c = λ p h.
    let q : spot_of c.node.result.now ≡ p = same_Some (spot_of c.node.result.now) p (sym c.node.ensures ∙ h) in
    let e = owing_one c.args.kind c.args.peer c.args.theirs.now _ c.target_owing-target.result
    (spot_of c.node.result.now) p c.in-len1.len_at_least c.in-len1.len_below c.target_owing-target.ensures.spot q in
    subst (λ (z : List Spot). AreNamed c.args.table.now.spots z c.name_one.new.table.spots (c.in_ok-n-in-len1.n ∷ [])) e (c.in_ok-n-in-len1.ensures.named p h)

pub returns-in_err-n-in-len1-clause-grown : goal.returns-in_err-n-in-len1-clause-grown
returns-in_err-n-in-len1-clause-grown c =
    let w : GrowsBy (λ p. map (λ b. owing_by c.args.kind p c.args.peer b) c.args.theirs.now) c.args.table.now.spots c.args.k c.name_one.new.table.spots = λ p h.
    let q : spot_of c.node.result.now ≡ p = same_Some (spot_of c.node.result.now) p (sym c.node.ensures ∙ h) in
    let e = owing_one c.args.kind c.args.peer c.args.theirs.now _ c.target_owing-target.result
    (spot_of c.node.result.now) p c.in-len1.len_at_least c.in-len1.len_below c.target_owing-target.ensures.spot q in
    subst (λ (z : List Spot). Grown c.args.table.now.spots z c.name_one.new.table.spots) e (c.in_err-n-in-len1.ensures.grown p h) in
    on_err _ w
