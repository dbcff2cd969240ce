use Rattle.std.proofs.Common.{ℕ, List, length, ap, subst, ◌∙◌}
use Rattle.rs_project.specs.Clashes.{AllAgree, TalksClash}
use Rattle.rs_project.specs.Data.{Front_data}
use Rattle.rs_project.proofs.Agreeing.{first_of_talks, first_of_end}
use Rattle.rs_project.proofs.Notes.{noted_none, noted_some}
use Rattle.rs_project.proofs.clashes.first_clash.Goals as goal

pub returns-in-Some : goal.returns-in-Some
returns-in-Some c =
    let P : List ℕ → Type 0 = λ z. TalksClash c.args.protocol.now c.args.role z c.in-Some.clash.a c.in-Some.clash.b in
    first_of_talks c.args.protocol.now c.args.role c.args.front.now c.in-Some.clash.a c.in-Some.clash.b
    (subst P (c.as_slice.ensures ∙ ap (λ (z : Front_data). z.talks) c.front.view_is)
    (noted_some c.in_ok-found.found (AllAgree c.args.protocol.now c.args.role c.as_slice.result.now (length c.as_slice.result.now))
    (λ clash. TalksClash c.args.protocol.now c.args.role c.as_slice.result.now clash.a clash.b) c.in-Some.clash c.in-Some.is c.in_ok-found.ensures))

pub returns-in-Some-end_clash : goal.returns-in-Some-end_clash
returns-in-Some-end_clash c =
    let P : List ℕ → Type 0 = λ z. AllAgree c.args.protocol.now c.args.role z (length z) in
    first_of_end c.args.protocol.now c.args.role c.args.front.now c.in-Some-end_clash.clash.a c.in-Some-end_clash.clash.b
    (subst P (c.as_slice.ensures ∙ ap (λ (z : Front_data). z.talks) c.front.view_is)
    (noted_none c.in_ok-found.found (AllAgree c.args.protocol.now c.args.role c.as_slice.result.now (length c.as_slice.result.now))
    (λ clash. TalksClash c.args.protocol.now c.args.role c.as_slice.result.now clash.a clash.b) c.in_default.is c.in_ok-found.ensures))
    c.in-Some-end_clash.ensures.0 c.in-Some-end_clash.ensures.1 c.in-Some-end_clash.ensures.2

pub returns : goal.returns
returns c =
    let P : List ℕ → Type 0 = λ z. AllAgree c.args.protocol.now c.args.role z (length z) in (
      subst P (c.as_slice.ensures ∙ ap (λ (z : Front_data). z.talks) c.front.view_is)
          (noted_none c.in_ok-found.found (AllAgree c.args.protocol.now c.args.role c.as_slice.result.now (length c.as_slice.result.now))
          (λ clash. TalksClash c.args.protocol.now c.args.role c.as_slice.result.now clash.a clash.b) c.in_default.is c.in_ok-found.ensures),
      c.in_default-end_clash.ensures,
    )
