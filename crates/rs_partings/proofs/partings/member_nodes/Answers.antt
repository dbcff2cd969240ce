use Rattle.std.proofs.Common.{rules, ◌≡◌, ◌∙◌, ℕ, Bool, List, Option, ap, length, replicate, subst, sym, true}
use Rattle.std.proofs.lemmas.Result.{IfOk-weaker}
use Rattle.rs_model.specs.Data.{Protocol_data}
use Rattle.rs_model.specs.declared.graph.Role.{Role}
use Rattle.rs_project.specs.Graph.{Involves}
use Rattle.rs_project.specs.Marks.{IsAwaited}
use Rattle.rs_partings.specs.Flags.{AreBut, AreFlags, IsMemberNode}
use Rattle.rs_partings.proofs.Flags.{but_flags, every_flag}
use Rattle.rs_partings.proofs.Ways.{idle_are}
use Rattle.rs_partings.proofs.partings.member_nodes.Goals as goal

pub returns-in_ok-every-in-None : goal.returns-in_ok-every-in-None
returns-in_ok-every-in-None c =
    let awaited = c.args.survey.now.awaited.items in
    let every = c.deref-in-None.result.now in
    let theirs = c.deref-in-None-2.result.now in
    let is_every : every ≡ replicate (length awaited) true = search rules in
    IfOk-weaker c.all_but.result (λ v. AreBut every theirs v.items)
    (λ v. (pr : Protocol_data) (role : Role) (count : ℕ) → AreFlags count (λ n. Involves pr role n) c.args.survey.now.involved.items → AreFlags count (λ n. IsAwaited pr role n) awaited
    → AreFlags count (λ n. IsMemberNode pr role c.args.member n) v.items)
    (λ v but pr role count inv aw. (
    let P : List Bool → Type 0 = λ z. AreFlags count (λ n. IsAwaited pr role n) z in
    let M : Option ℕ → Type 0 = λ z. AreFlags count (λ n. IsMemberNode pr role z n) v.items in
    let all = every_flag count every (is_every ∙ ap (λ (z : ℕ). replicate z true) aw.size) in
    subst M (sym c.in-None.is) (idle_are pr role count v.items
    (but_flags count (λ n. Unit {0}) (λ n. IsAwaited pr role n) every theirs v.items all (subst P (sym c.deref-in-None-2.ensures.value) aw) but)))) c.all_but.ensures
