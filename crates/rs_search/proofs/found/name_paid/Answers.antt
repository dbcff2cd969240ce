use Rattle.std.proofs.Common.{◌≡◌, ◌∙◌, [], ◌∷◌, length, ap, subst, sym}
use Rattle.std.proofs.lemmas.Option.{same_Some}
use Rattle.std.proofs.lemmas.Result.{IfOk-weaker, on_err_weaker}
use Rattle.rs_derive.specs.Targets.{target_spot}
use Rattle.rs_derive.specs.Derivations.{spot_of}
use Rattle.rs_derive.specs.Moves.{Spot, spot}
use Rattle.rs_derive.specs.Within.{IsPlaceWithin}
use Rattle.rs_derive.specs.declared.targets.Change.{Change}
use Rattle.rs_prefix.specs.Earliest.{without}
use Rattle.rs_graph.specs.Naming.{AreNamed, Grown}
use Rattle.rs_search.specs.Itself.{AreNamedAt, GrowsBy}
use Rattle.rs_search.proofs.found.name_paid.Goals as goal

pub name_one-requires-clause-place : goal.name_one-requires-clause-place
name_one-requires-clause-place c = λ p h. subst (λ (z : Change). IsPlaceWithin (length p.pending) z) (sym c.target_behind_payment-target.ensures.change) (c.requires.owed p h)

pub returns-clause-named : goal.returns-clause-named
returns-clause-named c =
    IfOk-weaker c.name_one.result (λ m. AreNamedAt (λ p. target_spot p.pending c.target_behind_payment-target.result ∷ []) c.args.table.now.spots c.args.k c.name_one.new.table.spots (m ∷ []))
    (λ m. AreNamedAt (λ p. spot c.args.arm.next (without p.pending c.args.place) p.above ∷ []) c.args.table.now.spots c.args.k c.name_one.new.table.spots (m ∷ []))
    (λ m n p h.
    let q : spot_of c.node.result.now ≡ p = same_Some (spot_of c.node.result.now) p (sym c.node.ensures ∙ h) in
    subst (λ (z : Spot). AreNamed c.args.table.now.spots (z ∷ []) c.name_one.new.table.spots (m ∷ []))
    (c.target_behind_payment-target.ensures.spot p.pending ∙ ap (λ (z : Spot). spot c.args.arm.next (without p.pending c.args.place) z.above) q) (n p h)) c.name_one.ensures.named

pub returns-clause-grown : goal.returns-clause-grown
returns-clause-grown c =
    let f : GrowsBy (λ p. target_spot p.pending c.target_behind_payment-target.result ∷ []) c.args.table.now.spots c.args.k c.name_one.new.table.spots
    → GrowsBy (λ p. spot c.args.arm.next (without p.pending c.args.place) p.above ∷ []) c.args.table.now.spots c.args.k c.name_one.new.table.spots =
    λ g p h.
    let q : spot_of c.node.result.now ≡ p = same_Some (spot_of c.node.result.now) p (sym c.node.ensures ∙ h) in
    subst (λ (z : Spot). Grown c.args.table.now.spots (z ∷ []) c.name_one.new.table.spots)
    (c.target_behind_payment-target.ensures.spot p.pending ∙ ap (λ (z : Spot). spot c.args.arm.next (without p.pending c.args.place) z.above) q) (g p h) in
    on_err_weaker c.name_one.result f c.name_one.ensures.grown
