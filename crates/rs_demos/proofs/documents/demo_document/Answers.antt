use Rattle.std.proofs.Common.{◌≡◌, ℕ, List, true, IfOk, sym, subst}
use Rattle.rs_demos.specs.Sessions.{has_session}
use Rattle.rs_demos.specs.Texts.{IsDemoText}
use Rattle.rs_model.specs.declared.demos.Demo.{Demo}
use Rattle.rs_demos.proofs.Canonical.{double_is, stream_is}
use Rattle.rs_demos.proofs.Printed.{if_ok}
use Rattle.rs_demos.proofs.Straight.{ring_is, butterfly_is}
use Rattle.rs_demos.proofs.documents.demo_document.Goals as goal

pub returns-in-Double : goal.returns-in-Double
returns-in-Double c =
    let P : Demo → Type 0 = λ k. IfOk c.constant.result (λ (text : List ℕ). IsDemoText k c.args.count text) in
    subst P (sym c.in-Double.is) (if_ok c.constant.result (λ text e. double_is c.args.count text e) c.constant.ensures)

pub returns-in-Stream : goal.returns-in-Stream
returns-in-Stream c =
    let P : Demo → Type 0 = λ k. IfOk c.constant-in-Stream.result (λ (text : List ℕ). IsDemoText k c.args.count text) in
    subst P (sym c.in-Stream.is) (if_ok c.constant-in-Stream.result (λ text e. stream_is c.args.count text e) c.constant-in-Stream.ensures)

pub returns-in-Ring : goal.returns-in-Ring
returns-in-Ring c =
    let P : Demo → Type 0 = λ k. IfOk c.ring.result (λ (text : List ℕ). IsDemoText k c.args.count text) in
    let H : Demo → Type 0 = λ k. has_session k c.args.count ≡ true in
    subst P (sym c.in-Ring.is) (if_ok c.ring.result (λ text e. ring_is c.args.count text (subst H c.in-Ring.is c.requires) e) c.ring.ensures)

pub returns-in-Butterfly : goal.returns-in-Butterfly
returns-in-Butterfly c =
    let P : Demo → Type 0 = λ k. IfOk c.butterfly.result (λ (text : List ℕ). IsDemoText k c.args.count text) in
    let H : Demo → Type 0 = λ k. has_session k c.args.count ≡ true in
    subst P (sym c.in-Butterfly.is) (if_ok c.butterfly.result (λ text e. butterfly_is c.args.count text (subst H c.in-Butterfly.is c.requires) e) c.butterfly.ensures)
