use Rattle.std.proofs.Common.{rules, OnOk, Result, Ok, Err}
use Rattle.rs_global.proofs.Printed.{names_pushed}
use Rattle.rs_global.proofs.printing.push_names.Goals as goal

on_ok : {A E P Q : Type 0} → (r : Result A E) → OnOk r P → (P → Q) → OnOk r Q
on_ok (Ok x) h f = f h
on_ok (Err e) h f = h

pub returns-in_ok-push-in-Some : goal.returns-in_ok-push-in-Some
returns-in_ok-push-in-Some c =
    on_ok c.push_others.result c.push_others.ensures
    (λ e. names_pushed c.args.text.now c.push.new.self c.push_others.new.text c.in-Some.first.now c.args.names.now c.in-Some.others.now (search rules) (search rules) e)
