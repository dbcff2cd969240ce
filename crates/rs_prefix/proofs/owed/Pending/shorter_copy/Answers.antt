use Rattle.std.proofs.Common.{rules, ◌≡◌, ◌∙◌, ◌+◌, List, ◌++◌, take, drop, refl, ap, drop-drop}
use Rattle.rs_model.specs.declared.machines.Act.{Act}
use Rattle.rs_prefix.proofs.owed.Pending.shorter_copy.Goals as goal

pub returns : goal.returns
returns c =
    let e : c.as_slice.result.now ≡ c.args.self.now = search rules in
    let s = c.split_at.ensures in
    let b : c.split_at-2.result.1.now ≡ drop (c.args.place + 1) c.args.self.now =
    c.split_at-2.ensures.back ∙ ap (λ (xs : List Act). drop 1 xs) (s.back ∙ ap (λ (xs : List Act). drop c.args.place xs) e) ∙ drop-drop 1 c.args.place c.args.self.now in
    let f : c.split_at.result.0.now ≡ take c.args.place c.args.self.now = s.front ∙ ap (λ (xs : List Act). take c.args.place xs) e in
    rw (c.in_ok-extend_from_slice-2.ensures.ok, c.in_ok-extend_from_slice.ensures.ok, c.in_ok-acts.ensures.items, f, b) refl
