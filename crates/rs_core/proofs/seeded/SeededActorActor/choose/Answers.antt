use Rattle.std.proofs.Common.{◌≡◌, ◌∙◌, ◌%◌, ℕ, slice_get, length, ap, ap₂, sym}
use Rattle.std.proofs.lemmas.Nat.{mod_below}
use Rattle.rs_model.specs.declared.values.Value.{Value}
use Rattle.rs_core.specs.Choosing.{some_length}
use Rattle.rs_core.specs.Draws.{after, draw, value_for, after_arm}
use Rattle.rs_core.proofs.Drawing.{value_at, after_at}
use Rattle.rs_core.proofs.seeded.SeededActorActor.choose.Goals as goal

pub returns-clause-choice : goal.returns-clause-choice
returns-clause-choice c =
    let e : c.draw.result ≡ draw c.args.self.now = c.draw.ensures.draw ∙ ap draw c.self.view_is in
    let n : c.draw.new.self.number ≡ after c.args.self.now = c.draw.ensures.after ∙ ap after c.self.view_is in
    let place : c.draw.result % length c.args.arms.now ≡ draw c.args.self.now % length c.args.arms.now = ap (λ (z : ℕ). z % length c.args.arms.now) e in
    let low = mod_below c.draw.result (length c.args.arms.now) (some_length c.args.arms.now c.requires.some) in
    ap₂ (λ (i : ℕ) (v : Value). (i, v)) place
    (c.in_ok-value.ensures.value ∙ sym (value_at c.args.arms.now (c.draw.result % length c.args.arms.now) c.draw.new.self.number _ low)
    ∙ ap₂ (λ (i x : ℕ). value_for (slice_get c.args.arms.now i) x) place n)

pub returns-clause-becomes : goal.returns-clause-becomes
returns-clause-becomes c =
    let e : c.draw.result ≡ draw c.args.self.now = c.draw.ensures.draw ∙ ap draw c.self.view_is in
    let n : c.draw.new.self.number ≡ after c.args.self.now = c.draw.ensures.after ∙ ap after c.self.view_is in
    let place : c.draw.result % length c.args.arms.now ≡ draw c.args.self.now % length c.args.arms.now = ap (λ (z : ℕ). z % length c.args.arms.now) e in
    let low = mod_below c.draw.result (length c.args.arms.now) (some_length c.args.arms.now c.requires.some) in
    c.in_ok-value.ensures.after ∙ sym (after_at c.args.arms.now (c.draw.result % length c.args.arms.now) c.draw.new.self.number _ low)
    ∙ ap₂ (λ (i x : ℕ). after_arm (slice_get c.args.arms.now i) x) place n
