use Rattle.std.proofs.Common.{rules, ◌≡◌, ◌∙◌, ap, ap₂, codes}
use Rattle.std.proofs.lemmas.Result.{IfOk-weaker}
use Rattle.clap.specs.Words.{App, app_of, new_app, with_subcommand}
use Rattle.rs_words.specs.Clap.{app_of_form}
use Rattle.rs_words.specs.Grammar.{check_form, demo_form, draw_form, explain_form, gen_form, improve_form, run_form}
use Rattle.rs_words.proofs.commands.all_commands.Goals as goal

abbrev add : App → App → App
add a b = with_subcommand a b.top

pub returns : goal.returns
returns c =
    let verify : app_of c.new.result ≡ new_app (codes "verify") = search rules in
    let migrate : app_of c.new-2.result ≡ new_app (codes "migrate") = search rules in
    let show : app_of c.new-3.result ≡ new_app (codes "show") = search rules in
    let project : app_of c.new-4.result ≡ new_app (codes "project") = search rules in
    let one = c.in_ok-program.ensures (app_of_form check_form) c.check_command.ensures.app ∙ ap (λ a. add a (app_of_form check_form)) c.program.ensures.app in
    let two = c.in_ok-program-2.ensures.app ∙ ap₂ add one verify in
    let three = c.in_ok-program-3.ensures.app ∙ ap₂ add two migrate in
    let four = c.in_ok-program-4.ensures.app ∙ ap₂ add three show in
    let five = c.in_ok-program-5.ensures.app ∙ ap₂ add four project in
    let six = c.in_ok-program-6.ensures (app_of_form run_form) c.run_command.ensures.app ∙ ap (λ a. add a (app_of_form run_form)) five in
    let seven = c.in_ok-program-7.ensures (app_of_form demo_form) c.demo_command.ensures.app ∙ ap (λ a. add a (app_of_form demo_form)) six in
    let eight = c.in_ok-program-8.ensures (app_of_form gen_form) c.gen_command.ensures.app ∙ ap (λ a. add a (app_of_form gen_form)) seven in
    let nine = c.in_ok-program-9.ensures (app_of_form improve_form) c.improve_command.ensures.app ∙ ap (λ a. add a (app_of_form improve_form)) eight in
    let ten = c.in_ok-program-10.ensures (app_of_form explain_form) c.explain_command.ensures.app ∙ ap (λ a. add a (app_of_form explain_form)) nine in
    IfOk-weaker c.with_made-7.result _ _ (λ r h. h (app_of_form draw_form) c.draw_command.ensures.app ∙ ap (λ a. add a (app_of_form draw_form)) ten) c.with_made-7.ensures
