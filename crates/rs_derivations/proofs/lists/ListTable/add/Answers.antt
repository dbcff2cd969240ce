use Rattle.std.proofs.Common.{arith, ◌≡◌, ◌<◌, ◌∙◌, sym, length, ℕ, subst, rules}
use Rattle.std.proofs.lemmas.Result.{on_ok_weaker}
use Rattle.std.proofs.lemmas.Bool.{eqb-true}
use Rattle.rs_derivations.specs.PendingLists.{list_number}
use Rattle.rs_derivations.proofs.Listed.{with_new, with_none, with_numbered, without_number}
use Rattle.rs_derivations.proofs.lists.ListTable.add.Goals.{then-is_empty-via-then-is_empty, then-is_empty-via-else-is_empty+then-number_of-gt0}
use Rattle.rs_derivations.proofs.lists.ListTable.add.Goals as goal

pub returns-then-is_empty : goal.returns-then-is_empty
returns-then-is_empty c = elim c.then-is_empty.branch [
  | then-is_empty-via-then-is_empty w ↦ sym (with_none c.args.self.now c.args.acts.now (eqb-true (length c.args.acts.now) 0 (sym c.is_empty.ensures ∙ w.if-is_empty.true)))
  | then-is_empty-via-else-is_empty+then-number_of-gt0 w ↦ sym (with_numbered c.args.self.now c.args.acts.now (subst (λ (z : ℕ). 0 < z) w.number_of.ensures w.if-number_of-gt0.true))
]

pub push-requires : goal.push-requires
push-requires c =
    let some : 0 < length c.args.acts.now = search rules in
    let none : list_number c.args.self.now c.args.acts.now ≡ 0 = (let e = c.number_of.ensures in let f = c.if-number_of-gt0.false in omega arith) in
    record { new = without_number c.args.self.now c.args.acts.now some none }

pub returns : goal.returns
returns c =
    let some : 0 < length c.args.acts.now = search rules in
    let none : list_number c.args.self.now c.args.acts.now ≡ 0 = (let e = c.number_of.ensures in let f = c.if-number_of-gt0.false in omega arith) in
    on_ok_weaker c.push.result (λ e. e ∙ sym (with_new c.args.self.now c.args.acts.now some (without_number c.args.self.now c.args.acts.now some none))) c.push.ensures
